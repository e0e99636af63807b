-- Steps of a reading, taken or refused.
use Rattle.std.proofs.Common.{◌≡◌, Bool, true, false, Option, Some, None, Result, Ok, Err, refl, ap, ◌⊎◌, inl, inr}
use Rattle.jc_view.specs.declared.parse_error.ParseError.{ParseError}
use Rattle.jc_view.specs.Reading.{◌>>=◌, or_refusal, unless}

pub bind_ok : {A B : Type 0} (r : Result A ParseError) (f : A → Result B ParseError) (y : B) → (r >>= f) ≡ Ok y → (x : A) × (r ≡ Ok x) × (f x ≡ Ok y)
bind_ok (Ok x) f y e = (x, refl, e)
bind_ok (Err d) f y e = absurd cc

abbrev refused : {B : Type 0} → ParseError → Result B ParseError
refused d = Err d

pub err_is : {B : Type 0} (c d : ParseError) → refused {B = B} c ≡ refused d → c ≡ d
err_is c d e = cc

-- either the first step was refused, or the second
pub bind_err : {A B : Type 0} (r : Result A ParseError) (f : A → Result B ParseError) (d : ParseError) → (r >>= f) ≡ Err d → (r ≡ Err d) ⊎ ((x : A) × (r ≡ Ok x) × (f x ≡ Err d))
bind_err (Ok x) f d e = inr (x, refl, e)
bind_err (Err c) f d e = inl (ap (λ (x : ParseError). Err x) (err_is c d e))

pub or_ok : {A : Type 0} (o : Option A) (d : ParseError) (x : A) → or_refusal o d ≡ Ok x → o ≡ Some x
or_ok None d x e = absurd cc
or_ok (Some y) d x e = cc

pub or_err : {A : Type 0} (o : Option A) (d e : ParseError) → or_refusal o d ≡ Err e → (o ≡ None) × (d ≡ e)
or_err None d e h = (refl, cc)
or_err (Some y) d e h = absurd cc

pub unless_ok : (b : Bool) (d : ParseError) (u : Unit {0}) → unless b d ≡ Ok u → b ≡ false
unless_ok true d u e = absurd cc
unless_ok false d u e = refl

pub unless_err : (b : Bool) (d e : ParseError) → unless b d ≡ Err e → (b ≡ true) × (d ≡ e)
unless_err true d e h = (refl, cc)
unless_err false d e h = absurd cc
