-- The classes that are made of a table are those of the files that the table is kept of.
use Rattle.std.proofs.Common.{◌≡◌, ◌∙◌, ◌<◌, ◌++◌, ⊎_elim, ℕ, zero, suc, arith, get_or, length, inl, inr, List, [], ◌∷◌, map, Option, Some, None, refl, ap, sym, subst, append_assoc}
use Rattle.std.proofs.lemmas.List.{append-nil, length-map, map-append}
use Rattle.std.proofs.lemmas.List.Elements.{Contains-push_cases}
use Rattle.std.specs.declared.cmp.Ordering.TheVariants.{Less}
use Rattle.std.specs.FinMap as fin
use Rattle.std.specs.List.{AllByRecursion, Contains}
use Rattle.std.specs.List.Sorted.{IsStrictlySortedBy}
use Rattle.std.specs.Map.{keys_of}
use Rattle.std.specs.Option.{option_to_list}
use Rattle.jc_base.proofs.Membership.{Has, from_has, has_from, has-flat_map, has-from_flat_map, has-from_map, has-map}
use Rattle.jc_base.proofs.maps.FiniteMaps.{entry_from_get, get_from_entry, keys_rise}
use Rattle.jc_classes.specs.Facts.{Facts}
use Rattle.jc_classes.specs.Names.{Name, name_cmp}
use Rattle.jc_classes.specs.Numbers.{name_at}
use Rattle.jc_classes.specs.Parts.{IsPart}
use Rattle.jc_classes.specs.Worlds.{World}
use Rattle.jc_link.specs.Graphs.{names_of_classes}
use Rattle.jc_link.specs.Tables.{Places, classes_in, classes_of, placed, world}
use Rattle.jc_report.specs.Files.{Files}
use Rattle.jc_report.specs.Reports.{Class, IsClassOf, facts_at, name_of, world_of}
use Rattle.jc_report.specs.Trees.{IsTree, Tree}
use Rattle.jc_report.specs.inside.Made.{HaveParts, IsSplit}
use Rattle.jc_report.specs.inside.ReportShown.{AreClasses}
use Rattle.jc_report.proofs.trees.FactsOfNames.{facts_named, worlds_meet}

-- ---- one class after another

abbrev facts_in : List Class → List Facts
facts_in made = map (λ (c : Class). c.facts) made

pub one_split : (places : Places) (made new : List Class) (left rest : List Facts) (x : Facts) (c : Class)
    → IsSplit places made left → left ≡ x ∷ rest → new ≡ made ++ c ∷ [] → c.facts ≡ x → IsSplit places new rest
one_split places made new left rest x c a is pushed same =
    ap (λ cs. facts_in cs ++ rest) pushed
    ∙ ap (λ l. l ++ rest) (map-append (λ (d : Class). d.facts) made (c ∷ []))
    ∙ append_assoc (facts_in made) (c.facts ∷ []) rest
    ∙ ap (λ y. facts_in made ++ (y ∷ rest)) same
    ∙ ap (λ l. facts_in made ++ l) (sym is)
    ∙ a

pub one_part : (places : Places) (prefixes : List Name) (made new : List Class) (c : Class)
    → HaveParts places prefixes made → new ≡ made ++ c ∷ [] → IsPart (world places prefixes) (name_of c) c.part → HaveParts places prefixes new
one_part places prefixes made new c parts pushed part = λ d h.
    ⊎_elim
    (λ (l : Contains made d). parts d l)
    (λ (e : c ≡ d). subst (λ (z : Class). IsPart (world places prefixes) (name_of z) z.part) e part)
    (Contains-push_cases made c d (subst (λ (cs : List Class). Contains cs d) pushed h))

pub no_parts : (places : Places) (prefixes : List Name) → HaveParts places prefixes []
no_parts places prefixes = λ c h. absurd (omega (arith, h.1))

-- the next of a table's classes stands behind those that are made
next_there : (made rest : List Facts) (x : Facts)
    → (length made < length (names_of_classes (made ++ x ∷ rest))) × (name_at (names_of_classes (made ++ x ∷ rest)) (length made) ≡ x.name)
next_there [] rest x = (omega arith, refl)
next_there (y ∷ made) rest x = let q = next_there made rest x in (omega (arith, q.0), q.1)

pub next_of_table : (places : Places) (made : List Class) (left rest : List Facts) (x : Facts) → IsSplit places made left → left ≡ x ∷ rest
    → (length made < length (names_of_classes (classes_of places))) × (name_at (names_of_classes (classes_of places)) (length made) ≡ x.name)
next_of_table places made left rest x a is =
    subst (λ k. (k < length (names_of_classes (classes_of places))) × (name_at (names_of_classes (classes_of places)) k ≡ x.name)) (length-map made (λ (c : Class). c.facts))
    (subst (λ (cs : List Facts). (length (facts_in made) < length (names_of_classes cs)) × (name_at (names_of_classes cs) (length (facts_in made)) ≡ x.name))
    (ap (λ l. facts_in made ++ l) (sym is) ∙ a) (next_there (facts_in made) rest x))

-- ---- the classes of a table

some_of : (o : Option Facts) (x : Facts) → Has (option_to_list o) x → o ≡ Some x
some_of None x h = absurd h
some_of (Some y) x (inl e) = ap Some e
some_of (Some y) x (inr n) = absurd n

placed_some : (o : Option (Option Facts)) (x : Facts) → placed o ≡ Some x → o ≡ Some (Some x)
placed_some None x e = absurd cc
placed_some (Some place) x e = ap Some e

-- an entry of each class
entry_of : (es : List (Name × Option Facts)) (x : Facts) → Has (classes_in es) x → (k : Name) × Has es (k, Some x)
entry_of es x h =
    let found = has-from_flat_map (λ (place : Name × Option Facts). option_to_list place.1) es x h in
    (found.0.0, subst (λ (o : Option Facts). Has es (found.0.0, o)) (some_of found.0.1 x found.2) found.1)

-- the entries' classes have the names of their places
abbrev AreNamed : List (Name × Option Facts) → Type 0
AreNamed es = (k : Name) (x : Facts) → Has es (k, Some x) → x.name ≡ k

below_in : (k : Name) (es : List (Name × Option Facts)) → AreNamed es → AllByRecursion (λ q. name_cmp k q ≡ Less) (keys_of es) → AllByRecursion (λ q. name_cmp k q ≡ Less) (map (λ x. x.name) (classes_in es))
below_in k [] named all = tt
below_in k ((q, None) ∷ es) named all = below_in k es (λ n x h. named n x (inr h)) all.1
below_in k ((q, Some x) ∷ es) named all = (subst (λ (n : Name). name_cmp k n ≡ Less) (sym (named q x (inl refl))) all.0, below_in k es (λ n y h. named n y (inr h)) all.1)

rises_in : (es : List (Name × Option Facts)) → AreNamed es → IsStrictlySortedBy name_cmp (keys_of es) → IsStrictlySortedBy name_cmp (map (λ x. x.name) (classes_in es))
unfolding IsStrictlySortedBy
rises_in [] named rises = tt
rises_in ((q, None) ∷ es) named rises = rises_in es (λ n x h. named n x (inr h)) rises.1
rises_in ((q, Some x) ∷ es) named rises = (
  subst (λ (k : Name). AllByRecursion (λ n. name_cmp k n ≡ Less) (map (λ y. y.name) (classes_in es))) (sym (named q x (inl refl))) (below_in q es (λ n y h. named n y (inr h)) rises.0),
  rises_in es (λ n y h. named n y (inr h)) rises.1,
)

names_of : (made : List Class) → map name_of made ≡ map (λ x. x.name) (facts_in made)
names_of [] = refl
names_of (c ∷ made) = ap (λ ns. name_of c ∷ ns) (names_of made)

pub names_made : (places : Places) (made : List Class) → IsSplit places made [] → map name_of made ≡ names_of_classes (classes_of places)
names_made places made all = names_of made ∙ ap (map (λ x. x.name)) (sym (append-nil (facts_in made)) ∙ all)

-- ---- the classes of files

all_from_has : {X : Type 0} (P : X → Type 0) (xs : List X) → ((x : X) → Has xs x → P x) → (k : ℕ) (d : X) → k < length xs → P (get_or xs k d)
all_from_has P [] h k d lt = absurd (omega arith)
all_from_has P (x ∷ xs) h zero d lt = h x (inl refl)
all_from_has P (x ∷ xs) h (suc k) d lt = all_from_has P xs (λ y m. h y (inr m)) k d (omega (arith, lt))

module _ (f : Files) (t : Tree) (tree : IsTree f t) where
  given : (k : Name) (x : Facts) → Has (fin.entries t.classes) (k, Some x) → facts_at f k ≡ Some x
  given k x h = sym (tree.classes k) ∙ ap placed (get_from_entry t.classes k (Some x) (from_has (fin.entries t.classes) (k, Some x) h))

  named : AreNamed (fin.entries t.classes)
  named k x h = facts_named f k x (given k x h)

  own : (x : Facts) → Has (classes_of t.classes) x → facts_at f x.name ≡ Some x
  own x h = let entry = entry_of (fin.entries t.classes) x h in ap (facts_at f) (named entry.0 x entry.1) ∙ given entry.0 x entry.1

  there : (name : Name) (x : Facts) → facts_at f name ≡ Some x → Has (classes_of t.classes) x
  there name x e =
      let entry = has_from (fin.entries t.classes) (name, Some x) (entry_from_get t.classes name (Some x) (placed_some (fin.get t.classes name) x (tree.classes name ∙ e))) in
      has-flat_map (λ (place : Name × Option Facts). option_to_list place.1) (fin.entries t.classes) (name, Some x) x entry (inl refl)

  over_files : (prefixes : List Name) (c : Class) → IsPart (world t.classes prefixes) (name_of c) c.part → IsPart (world_of f prefixes) (name_of c) c.part
  over_files prefixes c part =
      let worlds : world t.classes prefixes ≡ world_of f prefixes = (λ i name. worlds_meet f t tree prefixes name i) in
      subst (λ (m : World). IsPart m (name_of c) c.part) worlds part

  pub are_classes : (prefixes : List Name) (made : List Class) → IsSplit t.classes made [] → HaveParts t.classes prefixes made → AreClasses f prefixes made
  are_classes prefixes made all parts =
      let whole : facts_in made ≡ classes_of t.classes = sym (append-nil (facts_in made)) ∙ all in
      record {
        rises = subst (IsStrictlySortedBy name_cmp) (sym (names_of made ∙ ap (map (λ x. x.name)) whole)) (rises_in (fin.entries t.classes) named (keys_rise t.classes));
        sound = all_from_has (IsClassOf f prefixes) made (λ c h. record {
          facts = own c.facts (subst (λ (xs : List Facts). Has xs c.facts) whole (has-map (λ (d : Class). d.facts) made c h));
          part = over_files prefixes c (parts c (from_has made c h));
        });
        complete = λ name x e.
            let found = has-from_map (λ (d : Class). d.facts) made x (subst (λ (xs : List Facts). Has xs x) (sym whole) (there name x e)) in
            let is : name_of found.0 ≡ name = ap (λ (y : Facts). y.name) found.2 ∙ facts_named f name x e in
            subst (Contains (map name_of made)) is (from_has (map name_of made) (name_of found.0) (has-map name_of made found.0 found.1));
      }
