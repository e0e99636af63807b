-- The loop that gathers a reach.
use Rattle.std.proofs.Common.{get_or, slice_get, suc, take, ◌≡◌, ℕ, ◌+◌, ◌<◌, ◌≤◌, List, [], ◌∷◌, ◌++◌, map, length, option_map, Option, Some, None, refl, sym, ap, subst, ◌∙◌, arith, ◌⊎◌, inl, inr, ⊎_elim, zero, append_assoc, length-append}
use Rattle.std.proofs.lemmas.Option.{slice_get_within, slice_get-get_or}
use Rattle.std.proofs.lemmas.List.{get_or-map, get_or-take, length-map, length-take-le, map-append, get_or_push, get_or_append_left, get_or_past}
use Rattle.std.proofs.lemmas.List.Elements.{Contains-append_left, Contains-append_right, Contains-append_cases, Contains-get_or}
use Rattle.std.specs.List.{Contains, All}
use Rattle.std.specs.Option.{option_to_list}
use Rattle.jc_classes.specs.Facts.{IsNamedBefore, Reference}
use Rattle.jc_classes.specs.Facts.Named.{Class}
use Rattle.jc_classes.specs.declared.reference.ReferenceKind.TheVariants as kind
use Rattle.jc_classes.specs.Names.{Name}
use Rattle.jc_classes.specs.Worlds.{Stands, World, supertypes_of}
use Rattle.jc_classes.specs.Worlds.Stands.{Absent}
use Rattle.jc_classes.specs.Parts.{class_of, class_in, names_in}
use Rattle.jc_classes.specs.Numbers.{name_at, IsOnce, Grows, AddsNumbers}
use Rattle.jc_link.specs.inside.Gathering.{stand_at, supertypes_at, IsAsked, Nodes}
use Rattle.jc_classes.proofs.numbering.NumberLemmas.{grows_same, grows_more, numbers_same}

-- ---- references

-- what would stand past the last
abbrev pub no_reference : Reference
no_reference = record { index = 0; kind = kind.Class; named = Class []; key = record { name = []; descriptor = [] } }

names_in-append : (xs ys : List Reference) → names_in (xs ++ ys) ≡ names_in xs ++ names_in ys
names_in-append [] ys = refl
names_in-append (x ∷ xs) ys = ap (λ z. class_in x.named ++ z) (names_in-append xs ys) ∙ sym (append_assoc (class_in x.named) (names_in xs) (names_in ys))

pub nodes_same : (a b : List Name) (nodes : List (Option ℕ)) → ((i : ℕ) → i < length a → name_at b i ≡ name_at a i) → ((v : ℕ) → Contains nodes (Some v) → v < length a) → map (option_map (name_at b)) nodes ≡ map (option_map (name_at a)) nodes
nodes_same a b [] h within = refl
nodes_same a b (None ∷ nodes) h within = ap (λ z. None ∷ z) (nodes_same a b nodes h (λ v c. within v (Contains-append_right (None ∷ []) nodes (Some v) c)))
nodes_same a b (Some w ∷ nodes) h within =
    let e = h w (within w (zero, omega arith, refl)) in
    let f = nodes_same a b nodes h (λ v c. within v (Contains-append_right (Some w ∷ []) nodes (Some v) c)) in
    cc

no_nodes : {v : ℕ} → Contains {X = Option ℕ} [] (Some v) → {A : Type 0} → A
no_nodes c = absurd (omega (arith, c.1))

pub refs_start : (a : List Name) → IsOnce a → Nodes a [] a [] []
refs_start a once = record { grows = grows_same a [] once; within = λ v c. no_nodes c; named = refl }

pub refs_more : (a b c : List Name) (r s : List (Option ℕ)) (node : Option ℕ) (xs : List Reference) (y : Reference) → Nodes a r b s xs → Nodes b [] c (node ∷ []) (y ∷ []) → Nodes a r c (s ++ node ∷ []) (xs ++ y ∷ [])
refs_more a b c r s node xs y g h =
    let l = h.grows.longer in
    record {
      grows = subst (Grows a c) (sym (names_in-append xs (y ∷ []))) (grows_more a b c (names_in xs) (names_in (y ∷ [])) g.grows h.grows);
      within = λ v i. ⊎_elim (λ k. let p = g.within v k in omega arith) (λ k. h.within v k) (Contains-append_cases s (node ∷ []) (Some v) i);
      named = map-append (option_map (name_at c)) s (node ∷ [])
          ∙ ap (λ z. z ++ map (option_map (name_at c)) (node ∷ [])) (nodes_same b c s h.grows.same g.within ∙ g.named)
          ∙ ap (λ z. (map (option_map (name_at a)) r ++ map (λ (q : Reference). class_of q.named) xs) ++ z) h.named
          ∙ append_assoc (map (option_map (name_at a)) r) (map (λ (q : Reference). class_of q.named) xs) (class_of y.named ∷ [])
          ∙ ap (λ z. map (option_map (name_at a)) r ++ z) (sym (map-append (λ (q : Reference). class_of q.named) xs (y ∷ [])));
    }

grows_wider : (a b xs ys : List Name) → Grows a b xs → Grows a b (xs ++ ys)
grows_wider a b xs ys g = record {
  once = g.once;
  longer = g.longer;
  few = omega (arith, g.few, length-append xs ys);
  same = g.same;
  only = λ i l m. Contains-append_left xs ys (name_at b i) (g.only i l m);
}

one_of : (x y : Option ℕ) → Contains (x ∷ []) y → x ≡ y
one_of x y (zero, l, e) = e
one_of x y (suc i, l, e) = absurd (omega (arith, l))

-- there is a node for each
pub nodes_count : (a b : List Name) (s : List (Option ℕ)) (xs : List Reference) → Nodes a [] b s xs → length s ≡ length xs
nodes_count a b s xs g =
    sym (length-map s (option_map (name_at b))) ∙ ap length g.named ∙ length-map xs (λ (q : Reference). class_of q.named)

-- one that names the class of an earlier one has its node
pub refs_again : (a b : List Name) (s : List (Option ℕ)) (rs : List Reference) (number k : ℕ) (node : Option ℕ) (x : Reference)
    → Nodes a [] b s (take number rs) → length s ≡ number → IsNamedBefore rs number k → slice_get rs number ≡ Some x → node ≡ get_or s k node
    → Nodes a [] b (s ++ node ∷ []) (take number rs ++ x ∷ [])
refs_again a b s rs number k node x g size before at is =
    let less : k < length s = omega (arith, before.0, size) in
    let within : number < length rs = slice_get_within rs number x at in
    let there : k < length rs = omega (arith, before.0, within) in
    let y = get_or rs k x in
    let at_k : slice_get rs k ≡ Some y = slice_get-get_or rs k x there in
    let named : class_of y.named ≡ class_of x.named = ap class_of (before.1 y x at_k at) in
    let first : get_or (take number rs) k x ≡ y = get_or-take number rs k x before.0 in
    let size_of : length (take number rs) ≡ number = length-take-le number rs (omega (arith, within)) in
    let same : option_map (name_at b) node ≡ class_of x.named =
    ap (option_map (name_at b)) is
    ∙ sym (get_or-map (option_map (name_at b)) s k node (option_map (name_at b) node) less)
    ∙ ap (λ l. get_or l k (option_map (name_at b) node)) g.named
    ∙ get_or-map (λ (q : Reference). class_of q.named) (take number rs) k x (option_map (name_at b) node) (omega (arith, before.0, size_of))
    ∙ ap (λ (q : Reference). class_of q.named) first
    ∙ named in
    record {
      grows = subst (Grows a b) (sym (names_in-append (take number rs) (x ∷ []))) (grows_wider a b (names_in (take number rs)) (names_in (x ∷ [])) g.grows);
      within = λ v i. ⊎_elim (λ j. g.within v j) (λ j. g.within v (subst (Contains s) (one_of node (Some v) j) (k, less, sym is))) (Contains-append_cases s (node ∷ []) (Some v) i);
      named = map-append (option_map (name_at b)) s (node ∷ [])
          ∙ ap (λ z. z ++ option_map (name_at b) node ∷ []) g.named
          ∙ ap (λ z. map (λ (q : Reference). class_of q.named) (take number rs) ++ z ∷ []) same
          ∙ sym (map-append (λ (q : Reference). class_of q.named) (take number rs) (x ∷ []));
    }

-- ---- places

pub stand_left : (xs : List Stands) (x : Stands) (i : ℕ) → i < length xs → stand_at (xs ++ x ∷ []) i ≡ stand_at xs i
stand_left xs x i l = get_or_append_left xs (x ∷ []) Absent i l

pub supertypes_left : (xs : List (List ℕ)) (x : List ℕ) (i : ℕ) → i < length xs → supertypes_at (xs ++ x ∷ []) i ≡ supertypes_at xs i
supertypes_left xs x i l = get_or_append_left xs (x ∷ []) [] i l

place_cases : (n i : ℕ) → i < n + 1 → (i < n) ⊎ (n ≡ i)
place_cases n i l = ⊎_elim inl (λ (e : n ≤ i). inr (omega arith)) (under i n)
  where
    under : (a b : ℕ) → (a < b) ⊎ (b ≤ a)
    under a b = grind arith

no_number : {v : ℕ} {A : Type 0} → Contains {X = ℕ} [] v → A
no_number c = absurd (omega (arith, c.1))

-- a supertype in one list more
supertype_in : (xs : List (List ℕ)) (x : List ℕ) (a b : ℕ) → Contains (supertypes_at (xs ++ x ∷ []) a) b → Contains (supertypes_at xs a) b ⊎ Contains x b
supertype_in xs x a b c = ⊎_elim
    (λ (l : a < length xs). inl (subst (λ r. Contains r b) (supertypes_left xs x a l) c))
    (λ (m : length xs ≤ a). ⊎_elim
    (λ (e : length xs ≡ a). inr (subst (λ r. Contains r b) (get_or_push xs x [] a e) c))
    (λ (n : length xs + 1 ≤ a). no_number (subst (λ r. Contains r b) (get_or_past (xs ++ x ∷ []) a [] (omega (arith, length-append xs (x ∷ [])))) c))
    (next (length xs) a m))
    (under a (length xs))
  where
    under : (i n : ℕ) → (i < n) ⊎ (n ≤ i)
    under i n = grind arith

    next : (n i : ℕ) → n ≤ i → (n ≡ i) ⊎ (n + 1 ≤ i)
    next n i l = grind arith

all_of : (numbers : List ℕ) (n : ℕ) → All (λ v. v < n) numbers → (b : ℕ) → Contains numbers b → b < n
all_of numbers n all b c = let q = all c.0 b c.1 in subst (λ v. v < n) c.2 q

-- ---- the loop

-- the name that is next is asked for
pub asked_add : (m : World) (ns ns2 : List Name) (st : List Stands) (rs : List (List ℕ)) (o : Stands) (direct : List ℕ)
    → IsAsked m ns st rs → length st < length ns → o ≡ m (name_at ns (length st)) → AddsNumbers ns [] ns2 direct (supertypes_of o) → IsAsked m ns2 (st ++ o ∷ []) (rs ++ direct ∷ [])
asked_add m ns ns2 st rs o direct g l is more =
    let grows = more.grows in
    let longer = grows.longer in
    let at = length st in
    let sizes = length-append st (o ∷ []) in
    let size2 = length-append rs (direct ∷ []) in
    let size = g.size in
    record {
      once = grows.once;
      size = omega arith;
      standing = λ i k. ⊎_elim
          (λ (p : i < at). let q = g.standing i p in (omega (arith, q.0), stand_left st o i p ∙ q.1 ∙ ap m (sym (grows.same i q.0))))
          (λ (p : at ≡ i). (omega arith, get_or_push st o Absent i p ∙ is ∙ ap m (ap (name_at ns) p ∙ sym (grows.same i (omega arith)))))
          (place_cases at i (omega arith));
      within = λ a b c. ⊎_elim (λ q. let r = g.within a b q in omega arith) (λ q. all_of direct (length ns2) more.nodes b q) (supertype_in rs direct a b c);
      above = λ i k. ⊎_elim
          (λ (p : i < at).
          let q = g.standing i p in
          let r : supertypes_at (rs ++ direct ∷ []) i ≡ supertypes_at rs i = supertypes_left rs direct i (omega arith) in
          ap (map (name_at ns2)) r
          ∙ numbers_same ns ns2 (supertypes_at rs i) grows.longer grows.same (λ j e k2. g.within i _ (Contains-get_or (supertypes_at rs i) j e k2))
          ∙ g.above i p ∙ ap (λ n. supertypes_of (m n)) (sym (grows.same i q.0)))
          (λ (p : at ≡ i). ap (map (name_at ns2)) (get_or_push rs direct [] i (omega arith)) ∙ more.named ∙ ap supertypes_of (is ∙ ap m (ap (name_at ns) p ∙ sym (grows.same i (omega arith)))))
          (place_cases at i (omega arith));
    }

-- nothing was asked for yet
pub asked_none : (m : World) (ns : List Name) → IsOnce ns → IsAsked m ns [] []
asked_none m ns once = record {
  once = once;
  size = refl;
  standing = λ k l. absurd (omega arith);
  within = λ a b c. no_number c;
  above = λ k l. absurd (omega arith);
}

one_is : (x y : Name) → Contains (x ∷ []) y → x ≡ y
one_is x y c = let e : c.0 ≡ 0 = omega (arith, c.1) in sym (get_or_push [] x y c.0 (sym e)) ∙ c.2

-- ---- all was asked for

pub named_in : (names : List Name) (nodes : List (Option ℕ)) (rs : List Reference) (n : Name) → map (option_map (name_at names)) nodes ≡ map (λ (r : Reference). class_of r.named) rs → Contains (names_in rs) n → (v : ℕ) × Contains nodes (Some v) × (name_at names v ≡ n)
named_in names [] [] n e c = absurd (omega (arith, c.1))
named_in names (x ∷ nodes) [] n e c = absurd cc
named_in names [] (r ∷ rs) n e c = absurd cc
named_in names (x ∷ nodes) (r ∷ rs) n e c =
    let head : option_map (name_at names) x ≡ class_of r.named = cc in
    let rest : map (option_map (name_at names)) nodes ≡ map (λ (q : Reference). class_of q.named) rs = cc in
    ⊎_elim
    (λ h. let q = here x n (subst (λ o. Contains (option_to_list o) n) (sym head) h) in (q.0, subst (λ y. Contains (y ∷ nodes) (Some q.0)) (sym q.1) (zero, omega arith, refl), q.2))
    (λ h. let q = named_in names nodes rs n rest h in (q.0, Contains-append_right (x ∷ []) nodes (Some q.0) q.1, q.2))
    (Contains-append_cases (class_in r.named) (names_in rs) n c)
  where
    here : (x : Option ℕ) (n : Name) → Contains (option_to_list (option_map (name_at names) x)) n → (v : ℕ) × (x ≡ Some v) × (name_at names v ≡ n)
    here None n c = absurd (omega (arith, c.1))
    here (Some v) n c = (v, refl, one_is (name_at names v) n c)

pub map_out : (f : ℕ → Name) (numbers : List ℕ) (n : Name) → Contains (map f numbers) n → (v : ℕ) × Contains numbers v × (f v ≡ n)
map_out f [] n c = absurd (omega (arith, c.1))
map_out f (v ∷ numbers) n c =
    ⊎_elim
    (λ (h : Contains (f v ∷ []) n). (v, (zero, omega arith, refl), one_is (f v) n h))
    (λ h. let q = map_out f numbers n h in (q.0, Contains-append_right (v ∷ []) numbers q.0 q.1, q.2))
    (Contains-append_cases (f v ∷ []) (map f numbers) n c)

-- ---- as the code has it

pub asked_as : (m : World) (ns : List Name) (st st2 : List Stands) (rs rs2 : List (List ℕ)) → st2 ≡ st → rs2 ≡ rs → IsAsked m ns st rs → IsAsked m ns st2 rs2
asked_as m ns st st2 rs rs2 e f g = subst (λ z. IsAsked m ns z rs2) (sym e) (subst (λ z. IsAsked m ns st z) (sym f) g)
