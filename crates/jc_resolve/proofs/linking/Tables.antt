-- References by the indexes of their constants.
use Rattle.std.proofs.Common.{◌≡◌, ◌∙◌, ◌==◌, ℕ, zero, suc, ◌+◌, ◌≤◌, Bool, true, false, List, [], ◌∷◌, Option, Some, None, drop, length, slice_index_or, refl, ap, sym, arith}
use Rattle.std.specs.List.{slice_get}
use Rattle.std.specs.Prelude.{if◌then◌else◌}
use Rattle.jc_classes.specs.Facts.{Reference}
use Rattle.jc_classes.specs.LinkErrors.{answered}
use Rattle.jc_classes.specs.Resolution.{Answer}
use Rattle.jc_resolve.specs.inside.Numbers.{AreNumbersBy, IsPut, number_from}

some_is : {X : Type 0} {x y : X} → Some x ≡ Some y → x ≡ y
some_is e = cc

none_some : {X : Type 0} {x : X} → None ≡ Some x → ⊥
none_some e = cc

drop_from : {X : Type 0} (xs : List X) (n : ℕ) (x : X) → slice_get xs n ≡ Some x → drop n xs ≡ x ∷ drop (suc n) xs
drop_from [] n x e = absurd cc
drop_from (y ∷ ys) zero x e = ap (λ z. z ∷ ys) (some_is e)
drop_from (y ∷ ys) (suc n) x e = drop_from ys n x e

drop_at : {X : Type 0} (xs : List X) (n : ℕ) (x : X) → slice_get xs n ≡ Some x → drop n xs ≡ x ∷ drop (n + 1) xs
drop_at xs n x e = let next : suc n ≡ n + 1 = omega arith in drop_from xs n x e ∙ ap (λ m. x ∷ drop m xs) next

drop_all : {X : Type 0} (xs : List X) (n : ℕ) → length xs ≤ n → drop n xs ≡ []
drop_all [] zero le = refl
drop_all [] (suc n) le = refl
drop_all (x ∷ xs) zero le = absurd (omega (arith, le))
drop_all (x ∷ xs) (suc n) le = drop_all xs n (omega (arith, le))

pub none_numbered : (rs : List Reference) (number : ℕ) (table : List (Option ℕ)) → length rs ≤ number → table ≡ [] → AreNumbersBy rs number table
none_numbered rs number table le e = λ index.
    ap (λ t. slice_index_or t index None) e ∙ sym (ap (number_from number index) (drop_all rs number le))

pub one_numbered : (rs : List Reference) (number : ℕ) (old new : List (Option ℕ)) (r : Reference) → slice_get rs number ≡ Some r
    → AreNumbersBy rs (number + 1) old → IsPut r.index (Some number) old new → AreNumbersBy rs number new
one_numbered rs number old new r got h put = λ index.
    put index
    ∙ ap (λ z. if r.index == index then Some number else z) (h index)
    ∙ sym (ap (number_from number index) (drop_at rs number r got))

-- ---- the reference of an index, with its answer

-- no reference has the index
pub not_answered : (number index : ℕ) (rs : List Reference) (answers : List Answer) → number_from number index rs ≡ None → answered index rs answers ≡ None
not_answered number index [] answers e = refl
not_answered number index (r ∷ rs) [] e = refl
not_answered number index (r ∷ rs) (a ∷ answers) e = by (r.index == index) e (not_answered (number + 1) index rs answers)
  where
    by : (b : Bool) → (if b then Some number else number_from (number + 1) index rs) ≡ None → (number_from (number + 1) index rs ≡ None → answered index rs answers ≡ None)
        → (if b then Some (r, a) else answered index rs answers) ≡ None
    by true f h = absurd (none_some (sym f))
    by false f h = h f

-- what has it stands at this place
pub record IsFirst (index : ℕ) (rs : List Reference) (answers : List Answer) (number found : ℕ) : Type 0 where
  pub at : ℕ
  pub is : found ≡ number + at
  pub reference : Reference
  pub answer : Answer
  pub got : slice_get rs at ≡ Some reference
  pub told : slice_get answers at ≡ Some answer
  pub first : answered index rs answers ≡ Some (reference, answer)

pub is_answered : (number index found : ℕ) (rs : List Reference) (answers : List Answer) → length answers ≡ length rs → number_from number index rs ≡ Some found
    → IsFirst index rs answers number found
is_answered number index found [] answers size e = absurd (none_some e)
is_answered number index found (r ∷ rs) [] size e = absurd (omega (arith, size))
is_answered number index found (r ∷ rs) (a ∷ answers) size e = by (r.index == index) refl e (is_answered (number + 1) index found rs answers (omega (arith, size)))
  where
    by : (b : Bool) → (r.index == index) ≡ b → (if b then Some number else number_from (number + 1) index rs) ≡ Some found
        → (number_from (number + 1) index rs ≡ Some found → IsFirst index rs answers (number + 1) found) → IsFirst index (r ∷ rs) (a ∷ answers) number found
    by true t f h = record {
      at = 0;
      is = sym (some_is f) ∙ omega arith;
      reference = r;
      answer = a;
      got = refl;
      told = refl;
      first = ap (λ b. if b then Some (r, a) else answered index rs answers) t;
    }
    by false t f h =
        let p = h f in
        record {
          at = suc p.at;
          is = omega (arith, p.is);
          reference = p.reference;
          answer = p.answer;
          got = p.got;
          told = p.told;
          first = ap (λ b. if b then Some (r, a) else answered index rs answers) t ∙ p.first;
        }
