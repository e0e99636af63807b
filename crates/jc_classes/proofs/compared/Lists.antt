-- Two lists that are compared place by place.
use Rattle.std.proofs.Common.{◌≡◌, ℕ, zero, suc, ◌+◌, ◌<◌, Bool, true, false, List, [], ◌∷◌, map, length, drop, get_or, sym, ap, ◌∙◌, arith}
use Rattle.std.proofs.lemmas.Bool.{false≢true}
use Rattle.std.proofs.lemmas.List.{at_drop_more}
use Rattle.std.specs.Bool.{Decides}

-- the lists are the same if what is behind a place of both is
abbrev pub AreSameIf : {A B C : Type 0} → (A → C) → (B → C) → List A → List B → ℕ → Type 0
AreSameIf f g xs ys at = map f (drop at xs) ≡ map g (drop at ys) → map f xs ≡ map g ys

-- the test of a place, and what is the same then
pub decides_of : {C : Type 0} (r : Bool) {x y u v : C} → x ≡ u → y ≡ v → Decides r (x ≡ y) → Decides r (u ≡ v)
decides_of r p q d = (λ t. sym p ∙ d.0 t ∙ q, λ e. d.1 (p ∙ e ∙ sym q))

pub one_more : {A B C : Type 0} (f : A → C) (g : B → C) (xs : List A) (ys : List B) (at : ℕ) (a : A) (b : B) → at < length xs → at < length ys
    → (r : Bool) → Decides r (f (get_or xs at a) ≡ g (get_or ys at b)) → r ≡ true → AreSameIf f g xs ys at → AreSameIf f g xs ys (at + 1)
one_more f g xs ys at a b l m r d t same = λ rest. same (
    at_drop_more (map f) xs at a l
    ∙ ap (λ z. z ∷ map f (drop (at + 1) xs)) (d.0 t)
    ∙ ap (λ zs. g (get_or ys at b) ∷ zs) rest
    ∙ sym (at_drop_more (map g) ys at b m))

same_there : {A B C : Type 0} (f : A → C) (g : B → C) (xs : List A) (ys : List B) (at : ℕ) (a : A) (b : B) → at < length xs → at < length ys
    → map f xs ≡ map g ys → f (get_or xs at a) ≡ g (get_or ys at b)
same_there f g [] ys at a b l m e = absurd (omega (arith, l))
same_there f g (x ∷ xs) [] at a b l m e = absurd (omega (arith, m))
same_there f g (x ∷ xs) (y ∷ ys) zero a b l m e = cc
same_there f g (x ∷ xs) (y ∷ ys) (suc at) a b l m e = same_there f g xs ys at a b (omega (arith, l)) (omega (arith, m)) cc

-- they differ at a place
pub differ_there : {A B C : Type 0} (f : A → C) (g : B → C) (xs : List A) (ys : List B) (at : ℕ) (a : A) (b : B) → at < length xs → at < length ys
    → (r : Bool) → Decides r (f (get_or xs at a) ≡ g (get_or ys at b)) → r ≡ false → Decides false (map f xs ≡ map g ys)
differ_there f g xs ys at a b l m r d t = (λ e. absurd (false≢true e), λ e. absurd (false≢true (sym t ∙ d.1 (same_there f g xs ys at a b l m e))))
