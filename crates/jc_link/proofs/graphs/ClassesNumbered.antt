-- Classes have numbers.
use Rattle.std.proofs.Common.{◌≡◌, ◌∙◌, ◌<◌, ◌≤◌, ℕ, zero, suc, ◌++◌, List, [], ◌∷◌, length, map, arith, refl, ap, sym, subst}
use Rattle.std.proofs.lemmas.List.{append_assoc, append-nil, get_or_default, get_or-map, map-append}
use Rattle.std.specs.List.{All, Contains}
use Rattle.jc_classes.specs.Facts.{Facts}
use Rattle.jc_classes.specs.Names.{Name}
use Rattle.jc_classes.specs.Numbers.{AddsNumbers, Grows, IsOnce, name_at}
use Rattle.jc_classes.proofs.numbering.NumberLemmas.{adds_more, adds_none}
use Rattle.jc_link.specs.inside.GraphAsked.{AreClasses}
use Rattle.jc_link.specs.Graphs.{names_of_classes}
use Rattle.jc_link.specs.inside.GraphShown.{AreKept, class_at}

pub contained_at : (names : List Name) (n : Name) (i : ℕ) → i < length names → name_at names i ≡ n → Contains names n
contained_at names n i l e = (i, l, get_or_default names i n [] l ∙ e)

-- ---- names are kept

pub kept_all : (ns : List Name) → AreKept ns ns
kept_all ns = record { longer = omega arith; same = λ i l. refl }

pub kept_by_growth : (a b c added : List Name) → AreKept a b → Grows b c added → AreKept a c
kept_by_growth a b c added k g =
    let l = k.longer in let m = g.longer in
    record { longer = omega arith; same = λ i h. g.same i (omega (arith, h, l)) ∙ k.same i h }

pub kept_on : (a b c : List Name) → AreKept a b → AreKept b c → AreKept a c
kept_on a b c k g =
    let l = k.longer in let m = g.longer in
    record { longer = omega arith; same = λ i h. g.same i (omega (arith, h, l)) ∙ k.same i h }

-- numbers below a count are below a greater one
pub all_below : (a b : ℕ) (xs : List ℕ) → a ≤ b → All (λ v. v < a) xs → All (λ v. v < b) xs
all_below a b xs l all = λ k d m. let q = all k d m in omega (arith, l, q)

-- ---- the names of classes

pub none_below : (count : ℕ) (numbers : List ℕ) → numbers ≡ [] → All (λ v. v < count) numbers
none_below count numbers none = subst (All (λ v. v < count)) (sym none) (λ k d m. absurd (omega (arith, m)))

-- the class at a place
pub class_there : (names : List Name) (classes : List ℕ) (d : Name) → Contains (map (name_at names) classes) d
    → (i : ℕ) × (i < length classes) × (name_at names (class_at classes i) ≡ d)
class_there names [] d c = absurd (omega (arith, c.1))
class_there names (v ∷ classes) d (zero, l, e) = (0, omega arith, e)
class_there names (v ∷ classes) d (suc i, l, e) =
    let q = class_there names classes d (i, omega (arith, l), e) in (suc q.0, omega (arith, q.1), q.2)

pub name_there : (names : List Name) (classes : List ℕ) (i : ℕ) → i < length classes
    → name_at (map (name_at names) classes) i ≡ name_at names (class_at classes i)
name_there names classes i l = get_or-map (name_at names) classes i 0 [] l

pub none_once : (names : List Name) → names ≡ [] → IsOnce names
none_once names none = λ i j l m e. absurd (omega (arith, l, ap length none))

-- where there were no names, only the classes have numbers
pub only_classes : (a names added : List Name) (classes : List ℕ) → a ≡ [] → AddsNumbers a [] names classes added → AreClasses names classes
only_classes a names added classes none adds = record {
  once = adds.grows.once;
  within = adds.nodes;
  only = λ i l. subst (λ ns. Contains ns (name_at names i)) (sym adds.named) (adds.grows.only i (omega (arith, ap length none)) l);
}

-- ---- one class after another

-- the classes before those that are left have numbers
pub record AreNumberedBut (classes left : List Facts) (old names : List Name) (numbers : List ℕ) : Type 0 where
  pub done : List Facts
  pub split : classes ≡ done ++ left
  pub adds : AddsNumbers old [] names numbers (names_of_classes done)

pub none_numbered : (classes left : List Facts) (names : List Name) (numbers : List ℕ) → IsOnce names → numbers ≡ [] → left ≡ classes
    → AreNumberedBut classes left names names numbers
none_numbered classes left names numbers once none whole = record {
  done = [];
  split = sym whole;
  adds = subst (λ (ns : List ℕ). AddsNumbers names [] names ns []) (sym none) (adds_none names [] once (none_below (length names) [] refl));
}

pub one_numbered : (classes left rest : List Facts) (x : Facts) (old a b : List Name) (r s : List ℕ)
    → AreNumberedBut classes left old a r → left ≡ x ∷ rest → AddsNumbers a r b s (x.name ∷ []) → AreNumberedBut classes rest old b s
one_numbered classes left rest x old a b r s so_far is more = record {
  done = so_far.done ++ x ∷ [];
  split = so_far.split ∙ ap (λ l. so_far.done ++ l) is ∙ sym (append_assoc so_far.done (x ∷ []) rest);
  adds = subst (AddsNumbers old [] b s) (sym (map-append (λ (f : Facts). f.name) so_far.done (x ∷ [])))
      (adds_more old a b [] r s (names_of_classes so_far.done) (x.name ∷ []) so_far.adds more);
}

pub all_numbered : (classes left : List Facts) (old names : List Name) (numbers : List ℕ) → AreNumberedBut classes left old names numbers → left ≡ []
    → AddsNumbers old [] names numbers (names_of_classes classes)
all_numbered classes left old names numbers so_far none =
    subst (AddsNumbers old [] names numbers) (ap names_of_classes (sym (so_far.split ∙ ap (λ l. so_far.done ++ l) none ∙ append-nil so_far.done))) so_far.adds
