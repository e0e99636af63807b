-- A constant at the front that is read is the one that was spelled, and what was spelled is read again.
use Rattle.std.proofs.Common.{◌≡◌, ℕ, suc, ◌+◌, ◌-◌, ◌<◌, Bool, false, ◌&&◌, eqb, List, [], ◌∷◌, ◌++◌, length, drop, Some, Result, Ok, refl, sym, ap, subst, ◌∙◌, arith, inl, inr, length-append}
use Rattle.std.proofs.lemmas.Bool.{cases_Bool, eqb-true}
use Rattle.jc_base.specs.Cursor.{Reading}
use Rattle.jc_base.specs.Endian.{big_number}
use Rattle.jc_view.specs.declared.constant_pool.ConstantKind.{ConstantKind}
use Rattle.jc_view.specs.declared.constant_pool.ConstantKind.TheVariants as kinds
use Rattle.jc_view.specs.declared.parse_error.ParseError.{ParseError}
use Rattle.jc_view.specs.declared.parse_error.ParseError.TheVariants as errors
use Rattle.jc_view.specs.ConstantPool.{Constant, kind_of, tag_of, all_kinds, with_tag, kind_of_tag, is_wide, body_bytes, constant_bytes, FitsConstant}
use Rattle.jc_view.specs.Reading.{after, after_body, body_value, constant_value, moved_to, ◌>>=◌, or_refusal, unless, first_constant}
use Rattle.jc_view.proofs.reading.BigEndian.{IsBytes, Takes, Takes-then, after_some, after_text}
use Rattle.jc_view.proofs.reading.Constants.{body_takes, body_again}
use Rattle.jc_view.proofs.reading.Steps.{bind_ok, or_ok, unless_ok}

with_tag_some : (tag : ℕ) (ks : List ConstantKind) (kind : ConstantKind) → with_tag tag ks ≡ Some kind → tag ≡ tag_of kind
with_tag_some tag [] kind e = absurd cc
with_tag_some tag (k ∷ ks) kind e =
    elim (cases_Bool (eqb tag (tag_of k))) [
      | inl hit ↦ let here : with_tag tag (k ∷ ks) ≡ Some k = rw hit refl in let same : Some k ≡ Some kind = sym here ∙ e in eqb-true _ _ hit ∙ ap tag_of cc
      | inr miss ↦ let further : with_tag tag (k ∷ ks) ≡ with_tag tag ks = rw miss refl in with_tag_some tag ks kind (sym further ∙ e)
    ]

pub tag_of_kind : (tag : ℕ) (kind : ConstantKind) → kind_of_tag tag ≡ Some kind → tag ≡ tag_of kind
tag_of_kind tag kind e = with_tag_some tag all_kinds kind e

pub kind_of_its_tag : (kind : ConstantKind) → kind_of_tag (tag_of kind) ≡ Some kind
kind_of_its_tag kinds.Utf8 = refl
kind_of_its_tag kinds.Integer = refl
kind_of_its_tag kinds.Float = refl
kind_of_its_tag kinds.Long = refl
kind_of_its_tag kinds.Double = refl
kind_of_its_tag kinds.Class = refl
kind_of_its_tag kinds.String = refl
kind_of_its_tag kinds.Fieldref = refl
kind_of_its_tag kinds.Methodref = refl
kind_of_its_tag kinds.InterfaceMethodref = refl
kind_of_its_tag kinds.NameAndType = refl
kind_of_its_tag kinds.MethodHandle = refl
kind_of_its_tag kinds.MethodType = refl
kind_of_its_tag kinds.InvokeDynamic = refl

tag_fits : (kind : ConstantKind) → tag_of kind < 256
tag_fits kinds.Utf8 = omega arith
tag_fits kinds.Integer = omega arith
tag_fits kinds.Float = omega arith
tag_fits kinds.Long = omega arith
tag_fits kinds.Double = omega arith
tag_fits kinds.Class = omega arith
tag_fits kinds.String = omega arith
tag_fits kinds.Fieldref = omega arith
tag_fits kinds.Methodref = omega arith
tag_fits kinds.InterfaceMethodref = omega arith
tag_fits kinds.NameAndType = omega arith
tag_fits kinds.MethodHandle = omega arith
tag_fits kinds.MethodType = omega arith
tag_fits kinds.InvokeDynamic = omega arith

pub first_byte : (x : ℕ) (xs : List ℕ) → big_number 1 (x ∷ xs) ≡ x
first_byte x xs = omega arith

-- ---- one constant

abbrev done : {A : Type 0} → A → Result A ParseError
done x = Ok x

pub ok_is : {A : Type 0} (x y : A) → done x ≡ done y → x ≡ y
ok_is x y e = cc

pub record TakesFirst (is_last : Bool) (reading : Reading) (kind : ConstantKind) (new : Reading) : Type 0 where
  pub takes : Takes reading.rest (constant_bytes (constant_value reading.rest)) new.rest
  pub fits : FitsConstant (constant_value reading.rest)
  pub same : kind_of (constant_value reading.rest) ≡ kind
  pub room : is_last && is_wide kind ≡ false
  pub place : new ≡ moved_to reading new.rest

pub tag_takes : (xs ys : List ℕ) → IsBytes xs → after 1 xs ≡ Some ys → Takes xs (big_number 1 xs ∷ []) ys
tag_takes [] ys fits e = absurd (let short = (after_some 1 [] ys e).long in omega arith)
tag_takes (x ∷ xs) ys fits e =
    let same : xs ≡ ys = (after_some 1 (x ∷ xs) ys e).left in
    record {
      parts = rw (first_byte x xs, same) refl;
      rest_fits = rw (← same) (λ i. fits (suc i));
    }

first_by : (is_last : Bool) (reading : Reading) (kind : ConstantKind) (body left : List ℕ) → IsBytes reading.rest → after 1 reading.rest ≡ Some body → kind_of_tag (big_number 1 reading.rest) ≡ Some kind
    → is_last && is_wide kind ≡ false → after_body kind body ≡ Some left → TakesFirst is_last reading kind (moved_to reading left)
unfolding constant_bytes
first_by is_last reading kind body left fits head tag room behind =
    let xs = reading.rest in
    let here : drop 1 xs ≡ body = (after_some 1 xs body head).left in
    let value : constant_value xs ≡ body_value kind body = rw (tag, here) refl in
    let front = tag_takes xs body fits head in
    let first : Takes xs (tag_of kind ∷ []) body = subst (λ (n : ℕ). Takes xs (n ∷ []) body) (tag_of_kind (big_number 1 xs) kind tag) front in
    let second = body_takes kind body left front.rest_fits behind in
    let whole : Takes xs (tag_of kind ∷ body_bytes (body_value kind body)) left = Takes-then xs (tag_of kind ∷ []) body (body_bytes (body_value kind body)) left first second.takes in
    let tagged : Takes xs (constant_bytes (body_value kind body)) left = subst (λ (k : ConstantKind). Takes xs (tag_of k ∷ body_bytes (body_value kind body)) left) (sym second.same) whole in
    record {
      takes = subst (λ (c : Constant). Takes xs (constant_bytes c) left) (sym value) tagged;
      fits = subst (λ (c : Constant). FitsConstant c) (sym value) second.fits;
      same = ap kind_of value ∙ second.same;
      room = room;
      place = refl;
    }

pub first_takes : (is_last : Bool) (reading : Reading) (found : ConstantKind × Reading) → IsBytes reading.rest → first_constant is_last reading ≡ Ok found → TakesFirst is_last reading found.0 found.1
unfolding first_constant
first_takes is_last reading found fits e =
    let read = λ (body : List ℕ) (kind : ConstantKind). unless (is_last && is_wide kind) (errors.Wide reading.place) >>= λ room. or_refusal (after_body kind body) errors.Short >>= λ rest. Ok (kind, moved_to reading rest) in
    let a = bind_ok (or_refusal (after 1 reading.rest) errors.Short) (λ body. or_refusal (kind_of_tag (big_number 1 reading.rest)) (errors.Tag reading.place) >>= λ kind. read body kind) found e in
    let b = bind_ok (or_refusal (kind_of_tag (big_number 1 reading.rest)) (errors.Tag reading.place)) (λ kind. read a.0 kind) found a.2 in
    let c = bind_ok (unless (is_last && is_wide b.0) (errors.Wide reading.place)) (λ room. or_refusal (after_body b.0 a.0) errors.Short >>= λ rest. Ok (b.0, moved_to reading rest)) found b.2 in
    let d = bind_ok (or_refusal (after_body b.0 a.0) errors.Short) (λ rest. Ok (b.0, moved_to reading rest)) found c.2 in
    let taken = first_by is_last reading b.0 a.0 d.0 fits (or_ok _ _ _ a.1) (or_ok _ _ _ b.1) (unless_ok _ _ _ c.1) (or_ok _ _ _ d.1) in
    subst (λ (f : ConstantKind × Reading). TakesFirst is_last reading f.0 f.1) (ok_is (b.0, moved_to reading d.0) found d.2) taken

pub first_again : (is_last : Bool) (constant : Constant) (place : ℕ) (rest : List ℕ) → FitsConstant constant → is_last && is_wide (kind_of constant) ≡ false
    → first_constant is_last (record { place = place; rest = constant_bytes constant ++ rest }) ≡ Ok (kind_of constant, record { place = place + length (constant_bytes constant); rest = rest })
unfolding first_constant constant_bytes
first_again is_last constant place rest fits room =
    let body = body_bytes constant ++ rest in
    let head : after 1 (tag_of (kind_of constant) ∷ body) ≡ Some body = after_text (tag_of (kind_of constant) ∷ []) body 1 refl in
    let tag : kind_of_tag (big_number 1 (tag_of (kind_of constant) ∷ body)) ≡ Some (kind_of constant) = ap kind_of_tag (first_byte (tag_of (kind_of constant)) body) ∙ kind_of_its_tag (kind_of constant) in
    let again = body_again constant rest fits in
    let end : (place + length (tag_of (kind_of constant) ∷ body)) - length rest ≡ place + length (tag_of (kind_of constant) ∷ body_bytes constant) = omega (arith, length-append (body_bytes constant) rest) in
    rw (head, tag, room, again.left, end) refl
