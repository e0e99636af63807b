-- The list of ABSTRACT methods.
use Rattle.std.proofs.Common.{◌≡◌, ◌∙◌, ℕ, ◌<◌, ◌+◌, zero, suc, true, List, [], ◌∷◌, ◌++◌, None, Some, length, refl, sym, ap, subst, ◌⊎◌, inl, inr, ⊎_elim, arith}
use Rattle.std.specs.List.{Contains}
use Rattle.std.proofs.lemmas.List.{length-append, length-set}
use Rattle.std.specs.Prelude.{slice_get, slice_index_or, slice_set}
use Rattle.std.proofs.lemmas.Bool.{cases_lt}
use Rattle.std.proofs.lemmas.List.Elements.{Contains-append_left, Contains-append_right}
use Rattle.std.specs.Prelude.{◌&&◌}
use Rattle.jc_file.specs.AccessFlags.{abstract, has}
use Rattle.jc_classes.specs.Facts.{Key, Member}
use Rattle.jc_classes.specs.MemberOrder.{key_at}
use Rattle.jc_classes.specs.MethodLookup.{only_inheritable}
use Rattle.jc_classes.specs.Selection.{is_callable}
use Rattle.jc_classes.specs.Worlds.{member, methods_of}
use Rattle.jc_numbered.specs.inside.Indexed.{Indexed, standing_of}
use Rattle.jc_numbered.specs.inside.Overriding.{overridable_at}
use Rattle.jc_numbered.proofs.lookups.FinalSearchLemmas.{method_place}
use Rattle.jc_resolve.specs.declared.abstract_methods.AbstractMethod.{AbstractMethod}
use Rattle.jc_resolve.specs.inside.AbstractMethods.{AddsAbstract, AddsAbstracts, AreAbstract, AreNumbers, Has, IsAbstract, has_no_body}
use Rattle.jc_resolve.proofs.answering.Keys.{both_true}
use Rattle.jc_graph.specs.Graph.{successors_of}
use Rattle.std.specs.declared.alloc.Global.{Global}
use Rattle.std.specs.declared.vec.Vec.{Vec}

some_is : {X : Type 0} {a b : X} → Some a ≡ Some b → a ≡ b
some_is e = cc

no_some : {X A : Type 0} {a : X} → None ≡ Some a → A
no_some e = absurd cc

pub none_in : {X A : Type 0} (y : X) → Contains [] y → A
none_in y h = absurd (let k = h.1 in omega arith)

pub only_in : {X : Type 0} (x y : X) → Contains (x ∷ []) y → x ≡ y
only_in x y (zero, l, e) = e
only_in x y (suc k, l, e) = absurd (omega arith)

pub split_in : {X : Type 0} (xs ys : List X) (y : X) → Contains (xs ++ ys) y → Contains xs y ⊎ Contains ys y
split_in [] ys y h = inr h
split_in (x ∷ xs) ys y (zero, l, e) = inl (zero, omega arith, e)
split_in (x ∷ xs) ys y (suc k, l, e) = ⊎_elim
    (λ h. inl (Contains-append_right (x ∷ []) xs y h))
    inr
    (split_in xs ys y (k, omega arith, e))

has_kept : (old new : List AbstractMethod) {v : ℕ} {k : Key} → ((e : AbstractMethod) → Contains old e → Contains new e) → Has old v k → Has new v k
has_kept old new kept h = (h.0, kept h.0 h.1, h.2, h.3)

-- ---- one method

pub no_body_parts : (k : Key) (y : Member) → has_no_body k y ≡ true → (is_callable k ≡ true) × (has y.flags abstract ≡ true)
no_body_parts k y = both_true (is_callable k) (has y.flags abstract)

pub no_body_of : (k : Key) (y : Member) → is_callable k ≡ true → has y.flags abstract ≡ true → has_no_body k y ≡ true
no_body_of k y c f = ap (λ b. b && has y.flags abstract) c ∙ f

pub abstract_none : (x : Indexed) (v : ℕ) (k : Key) (all : List AbstractMethod) → ((y : Member) → overridable_at x k v ≡ Some y → has_no_body k y ≡ true → ⊥)
    → AddsAbstract x v k all all
abstract_none x v k all never = record {
  kept = λ e h. h;
  sound = λ e h. inl h;
  complete = λ y d a. absurd (never y d a);
}

pub abstract_pushed : (x : Indexed) (v : ℕ) (k : Key) (all : List AbstractMethod) (e : AbstractMethod) → e.node ≡ v → IsAbstract x e
    → record { name = e.name.now; descriptor = e.descriptor.now } ≡ k → AddsAbstract x v k all (all ++ e ∷ [])
abstract_pushed x v k all e node is key = record {
  kept = λ f h. Contains-append_left all (e ∷ []) f h;
  sound = λ f h. ⊎_elim inl (λ r. inr (subst (λ z. (z.node ≡ v) × IsAbstract x z) (only_in e f r) (node, is))) (split_in all (e ∷ []) f h);
  complete = λ y d a. (e, Contains-append_right all (e ∷ []) e (zero, omega arith, refl), node, key);
}

-- ---- the methods of a class

pub abstracts_begin : (x : Indexed) (v : ℕ) (all : List AbstractMethod) → AddsAbstracts x v 0 all all
abstracts_begin x v all = record {
  kept = λ e h. h;
  sound = λ e h. inl h;
  complete = λ i y l. absurd (omega arith);
}

pub abstracts_on : (x : Indexed) (v n : ℕ) (old mid new : List AbstractMethod) (k : Key) → AddsAbstracts x v n old mid → AddsAbstract x v k mid new
    → key_at (methods_of (standing_of x v)) n ≡ k → AddsAbstracts x v (n + 1) old new
abstracts_on x v n old mid new k are adds key = record {
  kept = λ e h. adds.kept e (are.kept e h);
  sound = λ e h. ⊎_elim (are.sound e) inr (adds.sound e h);
  complete = λ i y l d a. ⊎_elim
      (λ lower. has_kept mid new adds.kept (are.complete i y lower d a))
      (λ last.
      let same : key_at (methods_of (standing_of x v)) i ≡ k = ap (key_at (methods_of (standing_of x v))) (let q = l in omega arith) ∙ key in
      subst (Has new v) (sym same) (adds.complete y (ap (λ z. overridable_at x z v) (sym same) ∙ d) (subst (λ z. has_no_body z y ≡ true) same a)))
      (cases_lt i n);
}

-- ---- the methods of all classes

pub all_begin : (x : Indexed) → AreAbstract 0 x []
all_begin x = record {
  sound = λ e h. none_in e h;
  complete = λ v k y l. absurd (omega arith);
}

pub all_on : (x : Indexed) (n : ℕ) (old new : List AbstractMethod) → AreAbstract n x old → AddsAbstracts x n (length (methods_of (standing_of x n))) old new
    → AreAbstract (n + 1) x new
all_on x n old new are adds = record {
  sound = λ e h. ⊎_elim
      (λ o. let p = are.sound e o in (let q = p.0 in omega arith, p.1))
      (λ o. (let q = o.0 in omega arith, o.1))
      (adds.sound e h);
  complete = λ v k y l d a. ⊎_elim
      (λ lower. has_kept old new adds.kept (are.complete v k y lower d a))
      (λ last.
      let same : v ≡ n = let q = l in omega arith in
      let d2 : overridable_at x k n ≡ Some y = ap (overridable_at x k) (sym same) ∙ d in
      let p = method_place (methods_of (standing_of x n)) k y d2 in
      subst (λ z. Has new z k) (sym same) (subst (Has new n) p.2 (adds.complete p.0 y p.1 (ap (λ z. overridable_at x z n) p.2 ∙ d2) (subst (λ z. has_no_body z y ≡ true) (sym p.2) a))))
      (cases_lt v n);
}

pub all_none : (x : Indexed) (n : ℕ) (old : List AbstractMethod) → AreAbstract n x old → methods_of (standing_of x n) ≡ [] → AreAbstract (n + 1) x old
all_none x n old are none = record {
  sound = λ e h. let p = are.sound e h in (let q = p.0 in omega arith, p.1);
  complete = λ v k y l d a. ⊎_elim
      (λ lower. are.complete v k y lower d a)
      (λ last.
      let same : v ≡ n = let q = l in omega arith in
      no_some (sym (ap (λ ms. only_inheritable (member ms k)) (ap (λ z. methods_of (standing_of x z)) same ∙ none)) ∙ d))
      (cases_lt v n);
}

-- ---- numbers by class

numbers_empty : (g : List (Vec ℕ Global)) (w : Vec ℕ Global) (v : ℕ) → w.items ≡ [] → successors_of (g ++ w ∷ []) v ≡ successors_of g v
numbers_empty [] w zero e = e
numbers_empty [] w (suc v) e = refl
numbers_empty (a ∷ g) w zero e = refl
numbers_empty (a ∷ g) w (suc v) e = numbers_empty g w v e

pub numbers_start : (all : List AbstractMethod) (g : List (Vec ℕ Global)) → g ≡ [] → AreNumbers 0 0 all g
numbers_start all g e = record {
  size = ap length e;
  sound = λ v i h. none_in i (subst (λ z. Contains (successors_of z v) i) e h);
  complete = λ i f l. absurd (omega arith);
}

pub numbers_none : (n : ℕ) (all : List AbstractMethod) (old new : List (Vec ℕ Global)) (w : Vec ℕ Global) → AreNumbers n 0 all old → new ≡ old ++ w ∷ [] → w.items ≡ []
    → AreNumbers (n + 1) 0 all new
numbers_none n all old new w are e none = record {
  size = ap length e ∙ length-append old (w ∷ []) ∙ ap (λ z. z + 1) are.size;
  sound = λ v i h. are.sound v i (subst (λ l. Contains l i) (ap (λ z. successors_of z v) e ∙ numbers_empty old w v none) h);
  complete = λ i f l. absurd (omega arith);
}

pub set_same : (g : List (Vec ℕ Global)) (v : ℕ) (w : Vec ℕ Global) → v < length g → successors_of (slice_set g v w) v ≡ w.items
set_same [] v w l = absurd (omega arith)
set_same (a ∷ g) zero w l = refl
set_same (a ∷ g) (suc v) w l = set_same g v w (omega arith)

pub set_other : (g : List (Vec ℕ Global)) (v u : ℕ) (w : Vec ℕ Global) → (u ≡ v → ⊥) → successors_of (slice_set g v w) u ≡ successors_of g u
set_other [] v u w n = refl
set_other (a ∷ g) zero zero w n = absurd (n refl)
set_other (a ∷ g) zero (suc u) w n = refl
set_other (a ∷ g) (suc v) zero w n = refl
set_other (a ∷ g) (suc v) (suc u) w n = set_other g v u w (λ e. n (ap suc e))

pub get_there : {X : Type 0} (xs : List X) (i : ℕ) (d : X) → i < length xs → slice_get xs i ≡ Some (slice_index_or xs i d)
get_there [] i d l = absurd (omega arith)
get_there (x ∷ xs) zero d l = refl
get_there (x ∷ xs) (suc i) d l = get_there xs i d (omega arith)

pub item_there : (g : List (Vec ℕ Global)) (v : ℕ) (d : Vec ℕ Global) → v < length g → (slice_index_or g v d).items ≡ successors_of g v
item_there [] v d l = absurd (omega arith)
item_there (a ∷ g) zero d l = refl
item_there (a ∷ g) (suc v) d l = item_there g v d (omega arith)

-- the number of one more method is appended to the list of its class
pub numbers_on : (count n : ℕ) (all : List AbstractMethod) (old : List (Vec ℕ Global)) (w : Vec ℕ Global) (e : AbstractMethod) → slice_get all n ≡ Some e
    → AreNumbers count n all old → e.node < length old → w.items ≡ successors_of old e.node ++ n ∷ [] → AreNumbers count (n + 1) all (slice_set old e.node w)
numbers_on count n all old w e there are l is = record {
  size = length-set old e.node w ∙ are.size;
  sound = λ v i h. by_node v i h (same_or_not v e.node);
  complete = λ i f lt g m. ⊎_elim
      (λ lower. grown f.node i (are.complete i f lower g m))
      (λ last.
      let same : f ≡ e = some_is (sym g ∙ ap (slice_get all) (let q = lt in omega arith) ∙ there) in
      subst (λ z. Contains (successors_of (slice_set old e.node w) z.node) i) (sym same)
      (subst (λ z. Contains z i) (sym (set_same old e.node w l ∙ is))
      (Contains-append_right (successors_of old e.node) (n ∷ []) i (zero, omega arith, let q = lt in omega arith))))
      (cases_lt i n);
}
  where
    same_or_not : (a b : ℕ) → (a ≡ b) ⊎ (a ≡ b → ⊥)
    same_or_not zero zero = inl refl
    same_or_not zero (suc b) = inr (λ q. absurd (omega arith))
    same_or_not (suc a) zero = inr (λ q. absurd (omega arith))
    same_or_not (suc a) (suc b) = ⊎_elim (λ q. inl (ap suc q)) (λ q. inr (λ r. q (omega arith))) (same_or_not a b)

    by_node : (v i : ℕ) → Contains (successors_of (slice_set old e.node w) v) i → (v ≡ e.node) ⊎ (v ≡ e.node → ⊥)
        → (f : AbstractMethod) × (slice_get all i ≡ Some f) × (f.node ≡ v)
    by_node v i h = ⊎_elim
        (λ q. ⊎_elim
        (λ o. let p = are.sound e.node i o in (p.0, p.1, p.2 ∙ sym q))
        (λ o. (e, ap (slice_get all) (sym (only_in n i o)) ∙ there, sym q))
        (split_in (successors_of old e.node) (n ∷ []) i (subst (λ z. Contains z i) (ap (successors_of (slice_set old e.node w)) q ∙ set_same old e.node w l ∙ is) h)))
        (λ q. are.sound v i (subst (λ z. Contains z i) (set_other old e.node v w q) h))

    grown : (v i : ℕ) → Contains (successors_of old v) i → Contains (successors_of (slice_set old e.node w) v) i
    grown v i h = ⊎_elim
        (λ q. subst (λ z. Contains z i) (sym (ap (successors_of (slice_set old e.node w)) q ∙ set_same old e.node w l ∙ is))
        (Contains-append_left (successors_of old e.node) (n ∷ []) i (subst (λ z. Contains (successors_of old z) i) q h)))
        (λ q. subst (λ z. Contains z i) (sym (set_other old e.node v w q)) h)
        (same_or_not v e.node)

-- a method of a class beyond the count
pub numbers_past : (count n : ℕ) (all : List AbstractMethod) (old : List (Vec ℕ Global)) (e : AbstractMethod) → slice_get all n ≡ Some e
    → AreNumbers count n all old → (e.node < length old → ⊥) → AreNumbers count (n + 1) all old
numbers_past count n all old e there are past = record {
  size = are.size;
  sound = are.sound;
  complete = λ i f lt g m. ⊎_elim
      (λ lower. are.complete i f lower g m)
      (λ last.
      let same : f ≡ e = some_is (sym g ∙ ap (slice_get all) (let q = lt in omega arith) ∙ there) in
      absurd (past (subst (λ z. z.node < length old) same (let q = m in let r = are.size in omega arith))))
      (cases_lt i n);
}

pub get_in : {X : Type 0} (xs : List X) (i : ℕ) (y : X) → slice_get xs i ≡ Some y → Contains xs y
get_in [] i y e = no_some e
get_in (x ∷ xs) zero y e = (zero, omega arith, some_is e)
get_in (x ∷ xs) (suc i) y e = Contains-append_right (x ∷ []) xs y (get_in xs i y e)

-- what look-up in a slice of the list found
pub get_looked : {X : Type 0} (xs ys : List X) (i : ℕ) (y : X) → ys ≡ xs → i < length ys → y ≡ slice_index_or ys i y → slice_get xs i ≡ Some y
get_looked xs ys i y same l is = ap (λ z. slice_get z i) (sym same) ∙ get_there ys i y l ∙ ap Some (sym is)
