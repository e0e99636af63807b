-- Options that have a value, and that have none.
use Rattle.std.proofs.Common.{◌≡◌, false, Option, Some, None, IsSome, is_some, refl, sym}
use Rattle.std.proofs.lemmas.Bool.{false≢true}

pub some_by : {X : Type 0} (o : Option X) → IsSome o → (x : X) × (o ≡ Some x)
some_by None h = absurd (false≢true h)
some_by (Some x) h = (x, refl)

pub some_one : {X : Type 0} {x y : X} → Some x ≡ Some y → x ≡ y
some_one e = cc

pub none_some : {X : Type 0} {x : X} → None ≡ Some x → ⊥
none_some e = cc

pub not_some : {X : Type 0} (o : Option X) → is_some o ≡ false → o ≡ None
not_some None e = refl
not_some (Some x) e = absurd (false≢true (sym e))
