-- A list that is gone over by an iterator: what holds of what is left of it.
use Rattle.std.proofs.Common.{◌≡◌, ◌∷◌, [], List, Option, Some, None, ap, map, subst, sym}
use Rattle.std.proofs.iter.Yields.{Copied-gives, copies, fronts}
use Rattle.std.proofs.lemmas.Iterator.{YieldsList-from_slice}
use Rattle.std.specs.Iterator.{AlwaysYields}
use Rattle.std.specs.Iterator.Adapters.{copied_source}
use Rattle.std.specs.Slice.Iter.{iter_rest}
use Rattle.std.specs.declared.iter.Copied.{Copied}
use Rattle.std.specs.declared.slice.Iter.{Iter}

-- whatever list the iterator had to give, it gives what is left of it now, and of the two it is as told
pub record Along {S A B : Type 0} (steps : S → Option A → S → Type 0) (v : A → B) (start now : S) (Told : List B → List B → Type 0) : Type 0 where
  pub at : (all : List B) → AlwaysYields steps v start all → (left : List B) × AlwaysYields steps v now left × Told all left

module _ {S A B : Type 0} (steps : S → Option A → S → Type 0) (v : A → B) where
  next_left : (Told Then : List B → List B → Type 0) (all left : List B) (now new : S) (x : A) → AlwaysYields steps v now left → Told all left → steps now (Some x) new
      → ((rest : List B) → Told all (v x ∷ rest) → Then all rest) → (rest : List B) × AlwaysYields steps v new rest × Then all rest
  next_left Told Then all [] now new x gives told step further = absurd (gives x new step)
  next_left Told Then all (y ∷ rest) now new x gives told step further =
      let next = gives.1 x new step in
      (rest, next.1, further rest (subst (λ z. Told all (z ∷ rest)) (sym next.0) told))

  none_left : (Told : List B → List B → Type 0) (all left : List B) (now end : S) → AlwaysYields steps v now left → Told all left → steps now None end → Told all []
  none_left Told all [] now end gives told step = told
  none_left Told all (y ∷ rest) now end gives told step = absurd (gives.0 end step)

module _ {S A B : Type 0} {steps : S → Option A → S → Type 0} {v : A → B} where
  pub along_start : {Told : List B → List B → Type 0} {s : S} → ((all : List B) → Told all all) → Along steps v s s Told
  along_start told = record { at = λ all gives. (all, gives, told all) }

  -- one item on
  pub along_next : {Told Then : List B → List B → Type 0} {start now new : S} (x : A) → Along steps v start now Told → steps now (Some x) new
      → ((all rest : List B) → Told all (v x ∷ rest) → Then all rest) → Along steps v start new Then
  along_next {Told} {Then} {start} {now} {new} x so_far step further = record {
    at = λ all gives. let here = so_far.at all gives in next_left steps v Told Then all here.0 now new x here.1 here.2 step (further all);
  }

  pub along_end : {Told : List B → List B → Type 0} {start now : S} (end : S) → Along steps v start now Told → steps now None end → (all : List B) → AlwaysYields steps v start all → Told all []
  along_end {Told} {start} {now} end so_far step all gives = let here = so_far.at all gives in none_left steps v Told all here.0 now end here.1 here.2 step

module _ {S A B C : Type 0} (steps : S → Option A → S → Type 0) (v : A → B) (w : B → C) where
  -- the same list, read further
  read_on : (ys : List B) (s : S) → AlwaysYields steps v s ys → AlwaysYields steps (λ x. w (v x)) s (map w ys)
  read_on [] s gives = gives
  read_on (y ∷ ys) s gives = (gives.0, λ x j step. (ap w (gives.1 x j step).0, read_on ys j (gives.1 x j step).1))

-- `iter().copied()` of a slice, where v reads each item
pub copied_gives : {A B : Type 0} (v : A → B) (s : Copied (Iter A)) (xs : List A) (ys : List B) → iter_rest (copied_source s) ≡ xs → map v xs ≡ ys → AlwaysYields (copies fronts) v s ys
copied_gives {A} v s xs ys e read =
    subst (λ zs. AlwaysYields (copies fronts) v s zs) read (Copied-gives {A = A} fronts v (map v xs) s (read_on fronts (λ y. y.now) v xs (copied_source s) (YieldsList-from_slice xs e).runs))
