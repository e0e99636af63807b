-- The classes of a table, each with what is kept of it.
use Rattle.std.proofs.Common.{◌≡◌, ◌∙◌, ◌<◌, ℕ, zero, suc, get_or, length, arith, List, [], ◌∷◌, map, Option, Some, None, inl, inr, refl, ap, sym, subst}
use Rattle.std.specs.declared.cmp.Ordering.TheVariants.{Less}
use Rattle.std.specs.FinMap as fin
use Rattle.std.specs.List.{AllByRecursion, Contains}
use Rattle.std.specs.List.Sorted.{IsStrictlySortedBy}
use Rattle.std.specs.Map.{keys_of}
use Rattle.std.specs.Option.{option_to_list}
use Rattle.jc_base.proofs.Membership.{Has, from_has, has_from, has-flat_map, has-from_flat_map, has-from_map, has-map}
use Rattle.jc_base.proofs.maps.FiniteMaps.{entry_from_get, get_from_entry, keys_rise}
use Rattle.jc_classes.specs.Facts.{Facts}
use Rattle.jc_classes.specs.Names.{Name, name_cmp}
use Rattle.jc_classes.specs.Parts.{IsPart}
use Rattle.jc_link.specs.Tables.{Places, class_at, classes_in, classes_of, placed}
use Rattle.jc_report.specs.Reports.{Class, name_of}
use Rattle.jc_report.proofs.rows.RowsAreOne.{sorted_names_one}
use Rattle.jc_linkage.specs.Linkages.{AreHeldClasses, IsHeldClass, Linkage, given, world_held}
use Rattle.jc_linkage.specs.declared.class_entry.ClassEntry.{ClassEntry}
use Rattle.jc_linkage.specs.inside.Holding.{AreNamed}
use Rattle.jc_linkage.specs.inside.Kept.{IsKept, KeptMap}
use Rattle.jc_linkage.specs.inside.Lending.{with_parts}
use Rattle.jc_linkage.proofs.held.Places.{facts_of, kept_of}

-- ---- the classes of places, by name

some_of : (o : Option Facts) (x : Facts) → Has (option_to_list o) x → o ≡ Some x
some_of None x h = absurd h
some_of (Some y) x (inl e) = ap Some e
some_of (Some y) x (inr h) = absurd h

placed_some : (o : Option (Option Facts)) (x : Facts) → placed o ≡ Some x → o ≡ Some (Some x)
placed_some None x e = absurd cc
placed_some (Some place) x e = ap Some e

abbrev names_in : List (Name × Option Facts) → List Name
names_in es = map (λ (x : Facts). x.name) (classes_in es)

-- the classes have the names of their places
abbrev HaveNames : List (Name × Option Facts) → Type 0
HaveNames es = (k : Name) (x : Facts) → Has es (k, Some x) → x.name ≡ k

below : (k : Name) (es : List (Name × Option Facts)) → HaveNames es → AllByRecursion (λ q. name_cmp k q ≡ Less) (keys_of es) → AllByRecursion (λ q. name_cmp k q ≡ Less) (names_in es)
below k [] named all = tt
below k ((q, None) ∷ es) named all = below k es (λ n x h. named n x (inr h)) all.1
below k ((q, Some x) ∷ es) named all = (subst (λ (n : Name). name_cmp k n ≡ Less) (sym (named q x (inl refl))) all.0, below k es (λ n y h. named n y (inr h)) all.1)

names_rise : (es : List (Name × Option Facts)) → HaveNames es → IsStrictlySortedBy name_cmp (keys_of es) → IsStrictlySortedBy name_cmp (names_in es)
unfolding IsStrictlySortedBy
names_rise [] named rises = tt
names_rise ((q, None) ∷ es) named rises = names_rise es (λ n x h. named n x (inr h)) rises.1
names_rise ((q, Some x) ∷ es) named rises = (
  subst (λ (k : Name). AllByRecursion (λ n. name_cmp k n ≡ Less) (names_in es)) (sym (named q x (inl refl))) (below q es (λ n y h. named n y (inr h)) rises.0),
  names_rise es (λ n y h. named n y (inr h)) rises.1,
)

module _ (places : Places) (named : AreNamed places) where
  at_entry : (k : Name) (x : Facts) → Has (fin.entries places) (k, Some x) → class_at places k ≡ Some x
  at_entry k x h = ap placed (get_from_entry places k (Some x) (from_has (fin.entries places) (k, Some x) h))

  have_names : HaveNames (fin.entries places)
  have_names k x h = named k x (at_entry k x h)

  rise : IsStrictlySortedBy name_cmp (names_in (fin.entries places))
  rise = names_rise (fin.entries places) have_names (keys_rise places)

  pub at_own_name : (x : Facts) → Has (classes_of places) x → class_at places x.name ≡ Some x
  at_own_name x h =
      let found = has-from_flat_map (λ (place : Name × Option Facts). option_to_list place.1) (fin.entries places) x h in
      let entry : Has (fin.entries places) (found.0.0, Some x) = subst (λ (o : Option Facts). Has (fin.entries places) (found.0.0, o)) (some_of found.0.1 x found.2) found.1 in
      ap (class_at places) (have_names found.0.0 x entry) ∙ at_entry found.0.0 x entry

  pub among_classes : (name : Name) (x : Facts) → class_at places name ≡ Some x → Has (classes_of places) x
  among_classes name x e =
      let entry = has_from (fin.entries places) (name, Some x) (entry_from_get places name (Some x) (placed_some (fin.get places name) x e)) in
      has-flat_map (λ (place : Name × Option Facts). option_to_list place.1) (fin.entries places) (name, Some x) x entry (inl refl)

-- ---- one kept part for each class

pub none_kept : (fs : List Facts) (ks : List (Name × ClassEntry)) → ks ≡ [] → with_parts fs ks ≡ []
none_kept [] ks e = refl
none_kept (f ∷ fs) [] e = refl
none_kept (f ∷ fs) (k ∷ ks) e = absurd cc

abbrev names : List Facts → List Name
names fs = map (λ (f : Facts). f.name) fs

same_head : (x y : Name) (xs ys : List Name) → x ∷ xs ≡ y ∷ ys → (x ≡ y) × (xs ≡ ys)
same_head x y xs ys e = (cc, cc)

names_stay : (fs : List Facts) (ks : List (Name × ClassEntry)) → names fs ≡ keys_of ks → map name_of (with_parts fs ks) ≡ names fs
names_stay [] ks e = refl
names_stay (f ∷ fs) [] e = absurd cc
names_stay (f ∷ fs) (k ∷ ks) e = ap (λ ns. f.name ∷ ns) (names_stay fs ks (same_head f.name k.0 (names fs) (keys_of ks) e).1)

-- a class with a part is of the facts, and the part is kept at its name
abbrev IsOf : List Facts → List (Name × ClassEntry) → Class → Type 0
IsOf fs ks c = Has fs c.facts × ((k : ClassEntry) × Has ks (name_of c, k) × (k.part ≡ c.part))

each_of : (fs : List Facts) (ks : List (Name × ClassEntry)) → names fs ≡ keys_of ks → (c : Class) → Has (with_parts fs ks) c → IsOf fs ks c
each_of [] ks e c h = absurd h
each_of (f ∷ fs) [] e c h = absurd cc
each_of (f ∷ fs) (k ∷ ks) e c (inl is) =
    let same = (same_head f.name k.0 (names fs) (keys_of ks) e).0 in
    let name : f.name ≡ name_of c = ap name_of is in
    (inl (ap (λ (d : Class). d.facts) is), (k.1, inl (λ i. ((sym same ∙ name) i, k.1)), ap (λ (d : Class). d.part) is))
each_of (f ∷ fs) (k ∷ ks) e c (inr h) =
    let of = each_of fs ks (same_head f.name k.0 (names fs) (keys_of ks) e).1 c h in
    (inr of.0, (of.1.0, inr of.1.1, of.1.2))

all_has : {X : Type 0} (P : X → Type 0) (xs : List X) → ((x : X) → Has xs x → P x) → (k : ℕ) (d : X) → k < length xs → P (get_or xs k d)
all_has P [] h k d lt = absurd (omega arith)
all_has P (x ∷ xs) h zero d lt = h x (inl refl)
all_has P (x ∷ xs) h (suc k) d lt = all_has P xs (λ y m. h y (inr m)) k d (omega (arith, lt))

module _ (a : Linkage) (kept : KeptMap) (held : IsKept (given a) (world_held a) kept) (named : AreNamed a.classes) where
  same_names : names (classes_of a.classes) ≡ fin.keys kept
  same_names = sorted_names_one (names (classes_of a.classes)) (fin.keys kept) (rise a.classes named) (keys_rise kept)
      (λ n h.
      let found = has-from_map (λ (f : Facts). f.name) (classes_of a.classes) n (has_from (names (classes_of a.classes)) n h) in
      let at : class_at a.classes n ≡ Some found.0 = ap (class_at a.classes) (sym found.2) ∙ at_own_name a.classes named found.0 found.1 in
      let k = kept_of a kept held n found.0 at in
      from_has (fin.keys kept) n (has-map (λ (e : Name × ClassEntry). e.0) (fin.entries kept) (n, k.0) (has_from (fin.entries kept) (n, k.0) (entry_from_get kept n k.0 k.1))))
      (λ n h.
      let found = has-from_map (λ (e : Name × ClassEntry). e.0) (fin.entries kept) n (has_from (fin.keys kept) n h) in
      let at : fin.get kept n ≡ Some found.0.1 = ap (fin.get kept) (sym found.2) ∙ get_from_entry kept found.0.0 found.0.1 (from_has (fin.entries kept) found.0 found.1) in
      let f = facts_of a kept held n found.0.1 at in
      subst (Contains (names (classes_of a.classes))) (named n f.0 f.1) (from_has (names (classes_of a.classes)) f.0.name (has-map (λ (x : Facts). x.name) (classes_of a.classes) f.0 (among_classes a.classes named n f.0 f.1))))

  pub are_held_classes : (classes : List Class) → classes ≡ with_parts (classes_of a.classes) (fin.entries kept) → AreHeldClasses a classes
  are_held_classes classes is =
      let fs = classes_of a.classes in
      let made = with_parts fs (fin.entries kept) in
      let of_names : map name_of made ≡ names fs = names_stay fs (fin.entries kept) same_names in
      subst (AreHeldClasses a) (sym is) (record {
        rises = subst (IsStrictlySortedBy name_cmp) (sym of_names) (rise a.classes named);
        sound = all_has (IsHeldClass a) made (λ c h.
            let of = each_of fs (fin.entries kept) same_names c h in
            let at = get_from_entry kept (name_of c) of.1.0 (from_has (fin.entries kept) (name_of c, of.1.0) of.1.1) in
            record {
              facts = at_own_name a.classes named c.facts of.0;
              part = subst (IsPart (world_held a) (name_of c)) of.1.2 (held.sound (name_of c) of.1.0 at).part;
            });
        complete = λ name f e.
            let there = from_has (names fs) f.name (has-map (λ (x : Facts). x.name) fs f (among_classes a.classes named name f e)) in
            subst (Contains (map name_of made)) (named name f e) (subst (λ ns. Contains ns f.name) (sym of_names) there);
      })
