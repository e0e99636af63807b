-- The search for methods without a body.
use Rattle.std.proofs.Common.{◌≡◌, ◌∙◌, ℕ, ◌<◌, ◌≤◌, zero, suc, Bool, true, false, not, ◌&&◌, cond, is_some, Option, List, [], ◌∷◌, ◌++◌, None, Some, length, replicate, refl, sym, ap, subst, ◌⊎◌, inl, inr, ⊎_elim, arith}
use Rattle.std.specs.List.{All, Contains, filter}
use Rattle.std.proofs.lemmas.Bool.{cond-true}
use Rattle.std.proofs.lemmas.List.Elements.{All-head, All-tail}
use Rattle.std.specs.Prelude.{slice_get, slice_set}
use Rattle.std.specs.Vec.{with_item}
use Rattle.std.specs.Prelude.{Result, Ok, Err, OnOk}
use Rattle.jc_base.specs.declared.no_memory.NoMemory.{NoMemory}
use Rattle.std.specs.declared.alloc.Global.{Global}
use Rattle.std.specs.declared.vec.Vec.{Vec}
use Rattle.std.proofs.lemmas.Bool.{false≢true}
use Rattle.std.proofs.lemmas.List.{length-append, length-replicate, length-set}
use Rattle.std.proofs.lemmas.List.Elements.{Contains-append_right}
use Rattle.std.specs.Prelude.{slice_index_or}
use Rattle.std.specs.Option.{option_map_or}
use Rattle.jc_classes.specs.MethodLookup.{only_inheritable}
use Rattle.jc_classes.specs.Worlds.{interfaces_of, member}
use Rattle.jc_graph.specs.Graph.{successors_of}
use Rattle.jc_numbered.specs.inside.Indexed.{Indexed, standing_of, superclass_at}
use Rattle.jc_numbered.specs.inside.Overriding.{overridable_at}
use Rattle.jc_numbered.specs.inside.Picks.{is_interface_at}
use Rattle.jc_resolve.specs.declared.abstract_methods.AbstractMethod.{AbstractMethod}
use Rattle.jc_resolve.specs.declared.unimplemented.Search.{Search}
use Rattle.jc_resolve.specs.inside.AbstractMethods.{AreMethods, key_in}
use Rattle.jc_resolve.specs.inside.Selection.{declares_at, is_bare, is_instance, is_open_at}
use Rattle.jc_resolve.specs.inside.Unimplemented.{Adds, AreAdded, ExtendsLists, HasList, IsAboveList, IsPlain, IsSearch, TellsList, stays_at, stays_number}
use Rattle.jc_resolve.proofs.lookups.AbstractLemmas.{get_in, none_in}

no_some : {X A : Type 0} {a : X} → None ≡ Some a → A
no_some e = absurd cc

pub there_within : {X : Type 0} (xs : List X) (i : ℕ) (y : X) → slice_get xs i ≡ Some y → i < length xs
there_within [] i y e = no_some e
there_within (x ∷ xs) zero y e = omega arith
there_within (x ∷ xs) (suc i) y e = let l = there_within xs i y e in omega arith

-- ---- what a class adds

module _ (count : ℕ) (x : Indexed) (v : ℕ) (s : Search) (are : AreMethods count x s.methods) (own : List ℕ) (first : own ≡ successors_of s.methods.of_class.items v) where
  abbrev all : List AbstractMethod
  all = s.methods.all.items

  own_there : (i : ℕ) (e : AbstractMethod) → slice_get all i ≡ Some e → e.node ≡ v → Contains own i
  own_there i e g same =
      let h = are.of_class.complete i e (there_within all i e g) g (are.all.sound e (get_in all i e g)).0 in
      subst (λ z. Contains z i) (sym first) (subst (λ z. Contains (successors_of s.methods.of_class.items z) i) same h)

  own_is : (i : ℕ) → Contains own i → (e : AbstractMethod) × (slice_get all i ≡ Some e) × (e.node ≡ v)
  own_is i h = are.of_class.sound v i (subst (λ z. Contains z i) first h)

  pub added_all : (new : List ℕ) → Adds x v all (λ i. i < length all) own new → AreAdded x v s new
  added_all new a = record {
    own = λ i e g same. a.kept i (own_there i e g same);
    others = λ b m h i e g n. a.complete m h i e (there_within all i e g) g n;
    sound = λ i h. ⊎_elim (λ o. inl (own_is i o)) inr (a.sound i h);
  }

  pub added_own : is_bare (interfaces_of (standing_of x v)) ≡ true → AreAdded x v s own
  added_own bare = record {
    own = λ i e g same. own_there i e g same;
    others = λ b m h i e g n. absurd (false≢true (sym b ∙ bare));
    sound = λ i h. inl (own_is i h);
  }

-- ---- a search that has begun

none_found : (n v i : ℕ) → slice_get (replicate n None) v ≡ Some (Some i) → ⊥
none_found zero v i e = no_some e
none_found (suc n) zero i e = absurd cc
none_found (suc n) (suc v) i e = none_found n v i e

pub search_begins : (count : ℕ) (x : Indexed) (s : Search) (w : Vec ℕ Global) → AreMethods count x s.methods → s.list_of.items ≡ replicate count None
    → s.lists.items ≡ w ∷ [] → w.items ≡ [] → s.size ≡ 0 → IsSearch count x s
search_begins count x s w are none lists empty size = record {
  methods = are;
  size = ap length none ∙ length-replicate count None;
  some = let q = ap length lists in omega arith;
  none = ap (λ z. successors_of z 0) lists ∙ empty;
  small = omega (arith, size);
  lists = λ v i e. absurd (none_found count v i (ap (λ z. slice_get z v) (sym none) ∙ e));
}

-- ---- a list is appended

appended_same : (g : List (Vec ℕ Global)) (w : Vec ℕ Global) (v : ℕ) → v < length g → successors_of (g ++ w ∷ []) v ≡ successors_of g v
appended_same [] w v l = absurd (omega arith)
appended_same (a ∷ g) w zero l = refl
appended_same (a ∷ g) w (suc v) l = appended_same g w v (omega arith)

pub appended_last : (g : List (Vec ℕ Global)) (w : Vec ℕ Global) → successors_of (g ++ w ∷ []) (length g) ≡ w.items
appended_last [] w = refl
appended_last (a ∷ g) w = appended_last g w

pub extends_pushed : (old new : Search) (w : Vec ℕ Global) → new.lists.items ≡ old.lists.items ++ w ∷ [] → new.methods ≡ old.methods → ExtendsLists old new
extends_pushed old new w lists methods = record {
  methods = methods;
  more = let q = ap length lists in let r = length-append old.lists.items (w ∷ []) in omega arith;
  same = λ i l. ap (λ z. successors_of z i) lists ∙ appended_same old.lists.items w i l;
}

pub extends_self : (s : Search) → ExtendsLists s s
extends_self s = record { methods = refl; more = omega arith; same = λ i l. refl }

-- lists stay right when others are added
pub list_kept : (x : Indexed) (v : ℕ) (old new : Search) (i : ℕ) → ExtendsLists old new → HasList x v old i → HasList x v new i
list_kept x v old new i e h = (
  let l = h.0 in let m = e.more in omega arith,
  subst (λ z. TellsList x z v (successors_of new.lists.items i)) (ap (λ z. z.all.items) (sym e.methods))
      (subst (TellsList x old.methods.all.items v) (sym (e.same i h.0)) h.1),
)

pub search_kept : (count : ℕ) (x : Indexed) (old new : Search) → IsSearch count x old → ExtendsLists old new → new.list_of ≡ old.list_of → new.size ≤ 2097152 → IsSearch count x new
search_kept count x old new is e same small = record {
  methods = subst (AreMethods count x) (sym e.methods) is.methods;
  size = ap (λ z. length z.items) same ∙ is.size;
  some = let l = is.some in let m = e.more in omega arith;
  none = e.same 0 is.some ∙ is.none;
  small = small;
  lists = λ v i h. list_kept x v old new i e (is.lists v i (ap (λ z. slice_get z.items v) (sym same) ∙ h));
}

pub filter_all : (p : ℕ → Bool) (xs : List ℕ) → All (λ i. p i ≡ true) xs → filter p xs ≡ xs
filter_all p [] h = refl
filter_all p (x ∷ xs) h = cond-true (p x) (x ∷ filter p xs) (filter p xs) (All-head (λ i. p i ≡ true) x xs h) ∙ ap (λ z. x ∷ z) (filter_all p xs (All-tail (λ i. p i ≡ true) x xs h))

-- the list of the superclass has numbers of methods
pub above_within : (x : Indexed) (v : ℕ) (s : Search) (above : ℕ) → IsAboveList x v s above → (i : ℕ)
    → Contains (successors_of s.lists.items above) i → i < length s.methods.all.items
above_within x v s above is i c = by (superclass_at x v) refl
  where
    by : (w : Option ℕ) → superclass_at x v ≡ w → i < length s.methods.all.items
    by None e = none_in i (subst (λ z. Contains z i) (is.none e) c)
    by (Some w) e = (is.some w e).within i c

-- ---- a class without methods and without direct superinterfaces

either_true : (b p q : Bool) → p ≡ true → q ≡ true → cond b p q ≡ true
either_true true p q e f = e
either_true false p q e f = f

plain_stays : (x : Indexed) (v : ℕ) (e : AbstractMethod) → IsPlain x v → stays_at x v e ≡ true
plain_stays x v e plain =
    let k = key_in e in
    either_true (is_interface_at x e.node) (is_bare (interfaces_of (standing_of x v)) && not (declares_at x k v)) (not (is_some (overridable_at x k v) && is_open_at x v e))
    (ap (λ b. b && not (declares_at x k v)) plain.1 ∙ ap (λ ms. not (is_instance (member ms k))) plain.0)
    (ap (λ ms. not (is_some (only_inheritable (member ms k)) && is_open_at x v e)) plain.0)

pub plain_stay : (x : Indexed) (v : ℕ) (all : List AbstractMethod) (numbers : List ℕ) → IsPlain x v → ((i : ℕ) → Contains numbers i → i < length all)
    → All (λ i. stays_number x v all i ≡ true) numbers
plain_stay x v all numbers plain within = λ k d l.
    let i = slice_index_or numbers k d in
    let e = entry_at all i (within i (item_in numbers k d l)) in
    ap (λ o. option_map_or (stays_at x v) o false) e.1 ∙ plain_stays x v e.0 plain
  where
    item_in : (ns : List ℕ) (k d : ℕ) → k < length ns → Contains ns (slice_index_or ns k d)
    item_in [] k d l = absurd (omega (arith, l))
    item_in (n ∷ ns) zero d l = (zero, omega arith, refl)
    item_in (n ∷ ns) (suc k) d l = Contains-append_right (n ∷ []) ns (slice_index_or ns k d) (item_in ns k d (omega (arith, l)))

    entry_at : (es : List AbstractMethod) (i : ℕ) → i < length es → (e : AbstractMethod) × (slice_get es i ≡ Some e)
    entry_at [] i l = absurd (omega (arith, l))
    entry_at (e ∷ es) zero l = (e, refl)
    entry_at (e ∷ es) (suc i) l = entry_at es i (omega (arith, l))

pub nothing_in : {X : Type 0} (xs : List X) → length xs ≡ 0 → xs ≡ []
nothing_in [] e = refl
nothing_in (x ∷ xs) e = absurd (omega (arith, e))

pub pushed_kept : (old new : Search) (r : Result ℕ NoMemory) (w : Vec ℕ Global) → OnOk r (new.lists.items ≡ old.lists.items ++ w ∷ []) → new.methods ≡ old.methods → OnOk r (ExtendsLists old new)
pushed_kept old new (Ok n) w lists methods = extends_pushed old new w lists methods
pushed_kept old new (Err e) w lists methods = tt

pub pushed_search : (count : ℕ) (x : Indexed) (old new : Search) (r : Result ℕ NoMemory) (w : Vec ℕ Global) → IsSearch count x old
    → OnOk r (new.lists.items ≡ old.lists.items ++ w ∷ []) → new.methods ≡ old.methods → new.list_of ≡ old.list_of → new.size ≤ 2097152 → OnOk r (IsSearch count x new)
pushed_search count x old new (Ok n) w is lists methods list_of size = search_kept count x old new is (extends_pushed old new w lists methods) list_of size
pushed_search count x old new (Err e) w is lists methods list_of size = tt

-- ---- a list is noted

some_is : {X : Type 0} {a b : X} → Some a ≡ Some b → a ≡ b
some_is e = cc

set_cases : {X : Type 0} (xs : List X) (v : ℕ) (a : X) (u : ℕ) (b : X) → slice_get (slice_set xs v a) u ≡ Some b → ((u ≡ v) × (a ≡ b)) ⊎ (slice_get xs u ≡ Some b)
set_cases [] v a u b e = inr e
set_cases (x ∷ xs) zero a zero b e = inl (refl, some_is e)
set_cases (x ∷ xs) zero a (suc u) b e = inr e
set_cases (x ∷ xs) (suc v) a zero b e = inr e
set_cases (x ∷ xs) (suc v) a (suc u) b e = ⊎_elim (λ p. inl (ap suc p.0, p.1)) inr (set_cases xs v a u b e)

pub search_noted : (count : ℕ) (x : Indexed) (s : Search) (v i : ℕ) → IsSearch count x s → HasList x v s i
    → IsSearch count x (record { methods = s.methods; lists = s.lists; list_of = with_item s.list_of v (Some i); size = s.size })
search_noted count x s v i is h = record {
  methods = is.methods;
  size = length-set s.list_of.items v (Some i) ∙ is.size;
  some = is.some;
  none = is.none;
  small = is.small;
  lists = λ u j e. ⊎_elim
      (λ p. subst (λ z. HasList x z s j) (sym p.0) (subst (HasList x v s) (some_is p.1) h))
      (λ old. is.lists u j old)
      (set_cases s.list_of.items v (Some i) u (Some j) e);
}

pub extends_trans : (a b c : Search) → ExtendsLists a b → ExtendsLists b c → ExtendsLists a c
extends_trans a b c e f = record {
  methods = f.methods ∙ e.methods;
  more = let p = e.more in let q = f.more in omega arith;
  same = λ i l. f.same i (let p = e.more in omega (arith, l, p)) ∙ e.same i l;
}
