-- What a class reaches, by the numbers of a graph.
use Rattle.std.proofs.Common.{◌≡◌, ◌∙◌, ◌<◌, ◌⊎◌, ⊎_elim, inl, inr, ℕ, zero, suc, Bool, true, List, [], ◌∷◌, ◌++◌, Option, Some, None, map, option_map, get_or, length, arith, refl, ap, sym, subst}
use Rattle.std.proofs.lemmas.List.{get_or-map, get_or_default}
use Rattle.std.proofs.lemmas.List.Elements.{Contains-append_right}
use Rattle.std.specs.List.{All, Contains, flat_map}
use Rattle.std.specs.Option.{option_to_list}
use Rattle.jc_graph.specs.Graph.{Above as AboveNodes, Successors}
use Rattle.jc_graph.specs.Seen.{AboveSome, SeesMore, TellsAbove, flag_at}
use Rattle.jc_classes.specs.Facts.{Reference}
use Rattle.std.specs.List.Sorted.{IsStrictlySortedBy}
use Rattle.jc_classes.specs.NameLists.{Lists, has}
use Rattle.jc_classes.specs.Names.{Name, name_cmp, object as java_lang_object}
use Rattle.jc_classes.proofs.numbering.Rising.{contains_of, has_of}
use Rattle.jc_classes.specs.Numbers.{name_at}
use Rattle.jc_classes.specs.Parts.{Reach, class_in, class_of, names_in}
use Rattle.jc_classes.specs.Worlds.{Stands, World, references_of, supertypes_of}
use Rattle.jc_classes.specs.Worlds.Stands.{Absent}
use Rattle.jc_link.specs.inside.Gathering.{IsClosedGraph, stand_at, supertypes_at}
use Rattle.jc_link.specs.inside.GraphShown.{AreNumbersOf, AreReferred, AreStarts, class_at, nodes_at}
use Rattle.jc_resolve.specs.Numbered.{NumberReferences}
use Rattle.jc_link.proofs.graphs.ClassesNumbered.{class_there, contained_at}
use Rattle.jc_link.proofs.reaches.Gathered.{map_out, named_in}

contained : {X : Type 0} (xs : List X) (x : X) → Contains (x ∷ xs) x
contained xs x = (zero, omega arith, refl)

later : {X : Type 0} (xs : List X) (x y : X) → Contains xs y → Contains (x ∷ xs) y
later xs x y c = Contains-append_right (x ∷ []) xs y c

first_or_later : {X : Type 0} (xs : List X) (x y : X) → Contains (x ∷ xs) y → (x ≡ y) ⊎ Contains xs y
first_or_later xs x y (zero, l, e) = inl e
first_or_later xs x y (suc i, l, e) = inr (i, omega (arith, l), e)

pub contains_map : {X Y : Type 0} (f : X → Y) (xs : List X) (x : X) → Contains xs x → Contains (map f xs) (f x)
contains_map f [] x c = absurd (omega (arith, c.1))
contains_map f (y ∷ xs) x c = ⊎_elim
    (λ (e : y ≡ x). (zero, omega arith, ap f e))
    (λ (h : Contains xs x). later (map f xs) (f y) (f x) (contains_map f xs x h))
    (first_or_later xs y x c)

-- ---- where a walk starts

some_out : (nodes : List (Option ℕ)) (v : ℕ) → Contains (flat_map option_to_list nodes) v → Contains nodes (Some v)
some_out [] v c = absurd (omega (arith, c.1))
some_out (None ∷ nodes) v c = later nodes None (Some v) (some_out nodes v c)
some_out (Some w ∷ nodes) v c = ⊎_elim
    (λ (e : w ≡ v). subst (λ x. Contains (Some w ∷ nodes) (Some x)) e (contained nodes (Some w)))
    (λ (h : Contains (flat_map option_to_list nodes) v). later nodes (Some w) (Some v) (some_out nodes v h))
    (first_or_later (flat_map option_to_list nodes) w v c)

some_in : (nodes : List (Option ℕ)) (v : ℕ) → Contains nodes (Some v) → Contains (flat_map option_to_list nodes) v
some_in [] v c = absurd (omega (arith, c.1))
some_in (x ∷ nodes) v c = ⊎_elim
    (λ (e : x ≡ Some v). subst (λ y. Contains (option_to_list y ++ flat_map option_to_list nodes) v) (sym e) (contained (flat_map option_to_list nodes) v))
    (λ (h : Contains nodes (Some v)). Contains-append_right (option_to_list x) (flat_map option_to_list nodes) v (some_in nodes v h))
    (first_or_later nodes x (Some v) c)

named_back : (names : List Name) (nodes : List (Option ℕ)) (rs : List Reference) (v : ℕ) → map (option_map (name_at names)) nodes ≡ map (λ (r : Reference). class_of r.named) rs
    → Contains nodes (Some v) → Contains (names_in rs) (name_at names v)
named_back names [] rs v e c = absurd (omega (arith, c.1))
named_back names (x ∷ nodes) [] v e c = absurd cc
named_back names (x ∷ nodes) (r ∷ rs) v e c =
    let head : option_map (name_at names) x ≡ class_of r.named = cc in
    let rest : map (option_map (name_at names)) nodes ≡ map (λ (q : Reference). class_of q.named) rs = cc in
    ⊎_elim
    (λ (f : x ≡ Some v).
    let is : class_of r.named ≡ Some (name_at names v) = sym head ∙ ap (option_map (name_at names)) f in
    subst (λ o. Contains (option_to_list o ++ names_in rs) (name_at names v)) (sym is) (contained (names_in rs) (name_at names v)))
    (λ (h : Contains nodes (Some v)). Contains-append_right (class_in r.named) (names_in rs) (name_at names v) (named_back names nodes rs v rest h))
    (first_or_later nodes x (Some v) c)

pub are_starts : (m : World) (d : Name) (names : List Name) (class object : ℕ) (nodes : List (Option ℕ))
    → name_at names class ≡ d → name_at names object ≡ java_lang_object
    → map (option_map (name_at names)) nodes ≡ map (λ (r : Reference). class_of r.named) (references_of (m d))
    → AreStarts m d names (class ∷ object ∷ flat_map option_to_list nodes)
are_starts m d names class object nodes own top named =
    let rest = flat_map option_to_list nodes in
    record {
      sound = λ v c. ⊎_elim
          (λ (e : class ≡ v). subst (λ x. Reach m d (name_at names x)) e (subst (Reach m d) (sym own) Reach.itself))
          (λ (h : Contains (object ∷ rest) v). ⊎_elim
          (λ (e : object ≡ v). subst (λ x. Reach m d (name_at names x)) e (subst (Reach m d) (sym top) Reach.always))
          (λ (k : Contains rest v). Reach.reference (named_back names nodes (references_of (m d)) v named (some_out nodes v k)))
          (first_or_later rest object v h))
          (first_or_later (object ∷ rest) class v c);
      itself = (class, contained (object ∷ rest) class, own);
      always = (object, later (object ∷ rest) class object (contained rest object), top);
      named = λ n c.
          let q = named_in names nodes (references_of (m d)) n named c in
          (q.0, later (object ∷ rest) class q.0 (later rest object q.0 (some_in nodes q.0 q.1)), q.2);
    }

pub starts_within : (count class object : ℕ) (nodes : List (Option ℕ)) → class < count → object < count → ((v : ℕ) → Contains nodes (Some v) → v < count)
    → (v : ℕ) → Contains (class ∷ object ∷ flat_map option_to_list nodes) v → v < count
starts_within count class object nodes a b all v c = ⊎_elim
    (λ (e : class ≡ v). omega (arith, a, e))
    (λ (h : Contains (object ∷ flat_map option_to_list nodes) v). ⊎_elim
    (λ (e : object ≡ v). omega (arith, b, e))
    (λ (k : Contains (flat_map option_to_list nodes) v). all v (some_out nodes v k))
    (first_or_later (flat_map option_to_list nodes) object v h))
    (first_or_later (object ∷ flat_map option_to_list nodes) class v c)

pub all_of : (count : ℕ) (xs : List ℕ) → ((v : ℕ) → Contains xs v → v < count) → All (λ v. v < count) xs
all_of count xs h = λ k d l. h (get_or xs k d) (k, l, get_or_default xs k _ d l)

-- the names of numbers, rising
pub lists_of : (names : List Name) (P : Name → Type 0) (numbers : List ℕ) (list : List Name) → AreNumbersOf names P numbers → IsStrictlySortedBy name_cmp list
    → ((n : Name) → has list n ≡ has (map (name_at names) numbers) n) → Lists list P
lists_of names P numbers list are rises same = record {
  rises = rises;
  sound = λ n e.
      let q = map_out (name_at names) numbers n (contains_of (map (name_at names) numbers) n (sym (same n) ∙ e)) in
      subst P q.2 (are.sound q.0 q.1);
  complete = λ n h.
      let q = are.complete n h in
      same n ∙ has_of (map (name_at names) numbers) n (subst (Contains (map (name_at names) numbers)) q.2 (contains_map (name_at names) numbers q.0 q.1));
}

-- ---- what is walked to

module _ (m : World) (d : Name) (ns : List Name) (st : List Stands) (rs : List (List ℕ)) (at_object : ℕ) (net : IsClosedGraph ns st rs at_object) (all : st ≡ map m ns) where
  abbrev next : Successors
  next = λ i. supertypes_at rs i

  here : (i : ℕ) → i < length ns → map (name_at ns) (supertypes_at rs i) ≡ supertypes_of (m (name_at ns i))
  here i l = net.closed.supertypes i l ∙ ap supertypes_of (ap (λ z. stand_at z i) all ∙ get_or-map m ns i [] Absent l)

  up : (i v : ℕ) → i < length ns → Contains (supertypes_at rs i) v → Contains (supertypes_of (m (name_at ns i))) (name_at ns v)
  up i v l c = subst (λ xs. Contains xs (name_at ns v)) (here i l) (contains_map (name_at ns) (supertypes_at rs i) v c)

  down : (i : ℕ) (n : Name) → i < length ns → Contains (supertypes_of (m (name_at ns i))) n → (v : ℕ) × Contains (supertypes_at rs i) v × (name_at ns v ≡ n)
  down i n l c = map_out (name_at ns) (supertypes_at rs i) n (subst (λ xs. Contains xs n) (sym (here i l)) c)

  above_reach : (s v : ℕ) → s < length ns → Reach m d (name_at ns s) → AboveNodes next s v → (v < length ns) × Reach m d (name_at ns v)
  above_reach s v l r (AboveNodes.direct c) = (net.closed.within s v c, Reach.upward r (up s v l c))
  above_reach s v l r (AboveNodes.further {mid} a c) =
      let q = above_reach s mid l r a in (net.closed.within mid v c, Reach.upward q.1 (up mid v q.0 c))

  module _ (starts : List ℕ) (within : (v : ℕ) → Contains starts v → v < length ns) (from : AreStarts m d ns starts) where
    abbrev Walked : ℕ → Type 0
    Walked v = Contains starts v ⊎ AboveSome next starts v

    walked_reach : (v : ℕ) → Walked v → Reach m d (name_at ns v)
    walked_reach v (inl c) = from.sound v c
    walked_reach v (inr (s, c, a)) = (above_reach s v (within s c) (from.sound s c) a).1

    walked_within : (v : ℕ) → Walked v → v < length ns
    walked_within v (inl c) = within v c
    walked_within v (inr (s, c, a)) = (above_reach s v (within s c) (from.sound s c) a).0

    reach_walked : {n : Name} → Reach m d n → (v : ℕ) × Walked v × (name_at ns v ≡ n)
    reach_walked Reach.itself = let q = from.itself in (q.0, inl q.1, q.2)
    reach_walked Reach.always = let q = from.always in (q.0, inl q.1, q.2)
    reach_walked {n} (Reach.reference h) = let q = from.named n h in (q.0, inl q.1, q.2)
    reach_walked {n} (Reach.upward {mid} r h) =
        let q = reach_walked r in
        let p = down q.0 n (walked_within q.0 q.1) (subst (λ x. Contains (supertypes_of (m x)) n) (sym q.2) h) in
        (p.0, inr (further q.0 p.0 q.1 p.1), p.2)
      where
        further : (v w : ℕ) → Walked v → Contains (supertypes_at rs v) w → AboveSome next starts w
        further v w (inl c) k = (v, c, AboveNodes.direct k)
        further v w (inr (s, c, a)) k = (s, c, AboveNodes.further a k)

    -- what is above the starts was seen, and then the starts
    pub numbers_reached : (flags : List Bool) (list : List ℕ) (flags2 : List Bool) (list2 : List ℕ)
        → TellsAbove (length ns) next starts flags list → SeesMore flags list flags2 list2 starts → AreNumbersOf ns (Reach m d) list2
    numbers_reached flags list flags2 list2 above more =
        let seen = more.seen above.seen in
        record {
          sound = λ v c. walked_reach v (⊎_elim
              (λ (f : flag_at flags v ≡ true). inr ((above.tells v).0 f))
              (λ (k : Contains starts v). inl k)
              (more.only v (seen.flagged v c)));
          complete = λ n r.
              let q = reach_walked r in
              (q.0, seen.all.listed q.0 (⊎_elim (λ (k : Contains starts q.0). more.added q.0 k) (λ (k : AboveSome next starts q.0). more.kept q.0 ((above.tells q.0).1 k)) q.1), q.2);
        }

-- ---- each name that a class reaches has a number

pub reach_numbered : (m : World) (ns : List Name) (st : List Stands) (rs : List (List ℕ)) (at_object : ℕ) (classes : List ℕ) (references : List (List (Option ℕ)))
    → IsClosedGraph ns st rs at_object → AreReferred ns st classes references → st ≡ map m ns
    → (d x : Name) → Contains (map (name_at ns) classes) d → Reach m d x → Contains ns x
reach_numbered m ns st rs at_object classes references net referred all d x among r =
    let there = class_there ns classes d among in
    let place = there.0 in
    let class = class_at classes place in
    let l : class < length ns = referred.classes_in place 0 there.1 in
    let p : place < length references = omega (arith, there.1, referred.size) in
    let nodes = nodes_at references place in
    let here : stand_at st class ≡ m d = ap (λ z. stand_at z class) all ∙ get_or-map m ns class [] Absent l ∙ ap m there.2 in
    let named = subst (λ (s : Stands). NumberReferences ns nodes (references_of s)) here (referred.named place p) in
    let starts = class ∷ at_object ∷ flat_map option_to_list nodes in
    let from = are_starts m d ns class at_object nodes there.2 net.object.1 named in
    let within = starts_within (length ns) class at_object nodes l net.object.0 (λ v h. referred.within place v p h) in
    let walked = reach_walked m d ns st rs at_object net all starts within from r in
    contained_at ns x walked.0 (walked_within m d ns st rs at_object net all starts within from walked.0 walked.1) walked.2
