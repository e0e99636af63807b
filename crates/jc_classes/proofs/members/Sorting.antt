-- Members that are sorted by what stands for their texts stand in their order.
use Rattle.std.proofs.Common.{◌≡◌, ℕ, zero, suc, ◌+◌, ◌<◌, Bool, true, false, List, [], ◌∷◌, length, map, Bor, slice_index, slice_index_or, refl, sym, ap, subst, ◌∙◌, arith}
use Rattle.std.specs.Prelude.{◌==◌}
use Rattle.std.proofs.lemmas.Bool.{false≢true}
use Rattle.std.proofs.lemmas.Bool.Decides.{nat_tests}
use Rattle.std.proofs.lemmas.Cmp.{ranked}
use Rattle.std.proofs.lemmas.List.{get_or-map, length-map}
use Rattle.std.proofs.lemmas.List.Elements.{All-contains, Contains-get_or}
use Rattle.std.proofs.lemmas.List.Sorted.{All-permutation, Contains-permutation, IsPermutation-map}
use Rattle.std.proofs.lemmas.Map.Keys.{IsDistinct-IsPermutation, IsDistinct-from_apart, apart_from_distinct, sorted_from_all_adjacent}
use Rattle.std.specs.List.{All, Contains, IsDistinct}
use Rattle.std.specs.List.Sorted.{IsPermutation, IsSorted}
use Rattle.std.specs.declared.cmp.Ordering.{Ordering}
use Rattle.std.specs.declared.cmp.Ordering.TheVariants.{Less, Equal, Greater}
use Rattle.std.specs.Ordering.{is_gt, is_lt, nat_cmp, ordering_then}
use Rattle.jc_base.proofs.Membership.{from_has, has-from_map, has-map, has_from}
use Rattle.jc_classes.specs.Facts.{Member}
use Rattle.jc_classes.specs.Names.{Name, name_cmp}
use Rattle.jc_classes.specs.MemberOrder.{IsOrder, key_cmp, place_cmp}
use Rattle.jc_classes.specs.declared.facts.MemberEntry.{MemberEntry}
use Rattle.jc_classes.specs.inside.FactsShown.{member_shown, text_at}
use Rattle.jc_classes.specs.inside.Ranks.{AreBelow, AreRanks, named_lent, number_of, placed_from}
use Rattle.jc_classes.proofs.members.Ranking.{no_less}
use Rattle.jc_classes.proofs.members.Searching.{key_shown_at, place_cmp_total}

zero_more : (n : ℕ) → 0 + n ≡ n
zero_more n = omega arith

-- what is sorted: what stands for a member's name and descriptor, and its number
abbrev placed_cmp : {K : Type 0} → (K → K → Ordering) → K × K × ℕ → K × K × ℕ → Ordering
placed_cmp cmp x y = ordering_then (ordering_then (cmp x.0 y.0) (cmp x.1 y.1)) (nat_cmp x.2 y.2)

abbrev same_number : {K : Type 0} → K × K × ℕ → K × K × ℕ → Bool
same_number x y = x.2 == y.2

abbrev no_entry : MemberEntry
no_entry = record { name = 0; descriptor = 0; flags = 0 }

abbrev entry_at : List MemberEntry → ℕ → MemberEntry
entry_at members number = slice_index_or members number no_entry

abbrev placed_entry : {K : Type 0} → (ℕ → K) → List MemberEntry → ℕ → ℕ → K × K × ℕ
placed_entry at members first number = (at (entry_at members number).name, at (entry_at members number).descriptor, first + number)

length_placed : {K : Type 0} (at : ℕ → K) (first : ℕ) (members : List MemberEntry) → length (placed_from at first members) ≡ length members
length_placed at first [] = refl
length_placed at first (m ∷ members) = ap suc (length_placed at (first + 1) members)

placed_at : {K : Type 0} (at : ℕ → K) (first : ℕ) (members : List MemberEntry) (number : ℕ) (d : K × K × ℕ) → number < length members → slice_index_or (placed_from at first members) number d ≡ placed_entry at members first number
placed_at at first [] number d l = absurd (omega (arith, l))
placed_at at first (m ∷ members) zero d l = let e : first ≡ first + 0 = omega arith in ap (λ n. (at m.name, at m.descriptor, n)) e
placed_at at first (m ∷ members) (suc number) d l =
    let e : first + 1 + number ≡ first + suc number = omega arith in
    placed_at at (first + 1) members number d (omega (arith, l)) ∙ ap (λ n. (at (entry_at members number).name, at (entry_at members number).descriptor, n)) e

-- of the member of its number
record IsOf {K : Type 0} (at : ℕ → K) (members : List MemberEntry) (one : K × K × ℕ) : Type 0 where
  within : one.2 < length members
  name : one.0 ≡ at (entry_at members one.2).name
  descriptor : one.1 ≡ at (entry_at members one.2).descriptor

all_of : {K : Type 0} (at : ℕ → K) (members : List MemberEntry) → All (IsOf at members) (placed_from at 0 members)
all_of at members number d l =
    let within : number < length members = omega (arith, l, length_placed at 0 members) in
    let n : 0 + number ≡ number = omega arith in
    subst (IsOf at members) (sym (placed_at at 0 members number d within)) (record {
      within = omega (arith, within);
      name = ap (λ k. at (entry_at members k).name) (sym n);
      descriptor = ap (λ k. at (entry_at members k).descriptor) (sym n);
    })

apart : (a b : ℕ) → a < b → (0 + a == 0 + b) ≡ false
apart a b l = grind (arith, nat_tests)

all_distinct : {K : Type 0} (at : ℕ → K) (members : List MemberEntry) → IsDistinct same_number (placed_from at 0 members)
all_distinct at members = IsDistinct-from_apart same_number (placed_from at 0 members) (λ i j d l m.
    let within : j < length members = omega (arith, m, length_placed at 0 members) in
    ap (λ x. same_number x (slice_index_or (placed_from at 0 members) j d)) (placed_at at 0 members i d (omega (arith, l, within)))
    ∙ ap (same_number (placed_entry at members 0 i)) (placed_at at 0 members j d within) ∙ apart i j l)

-- ---- once they are sorted

tied_numbers : (o : Ordering) (a b : ℕ) → ordering_then o (nat_cmp a b) ≡ Equal → a ≡ b
tied_numbers Less a b e = absurd cc
tied_numbers Equal a b e = ranked a b Equal (sym e)
tied_numbers Greater a b e = absurd cc

itself : (a b : ℕ) → a ≡ b → (a == b) ≡ true
itself a b e = grind (arith, nat_tests)

must_be_less : (o : Ordering) → is_gt o ≡ false → (o ≡ Equal → ⊥) → o ≡ Less
must_be_less Less e f = refl
must_be_less Equal e f = absurd (f refl)
must_be_less Greater e f = absurd (false≢true (sym e))

-- what stands for a text is in the order of the texts
abbrev pub StandFor : {K : Type 0} → (K → K → Ordering) → (ℕ → K) → List Name → Type 0
StandFor cmp at texts = (a b : ℕ) → a < length texts → b < length texts → cmp (at a) (at b) ≡ name_cmp (text_at texts a) (text_at texts b)

module _ {K : Type 0} (cmp : K → K → Ordering) (at : ℕ → K) (none : K) (texts : List Name) (stand : StandFor cmp at texts) (members : List MemberEntry) (below : AreBelow (length texts) members) (sorted : List (K × K × ℕ))
    (moved : IsPermutation (placed_from at 0 members) sorted) (up : IsSorted (placed_cmp cmp) sorted) where
  shown : List Member
  shown = map (member_shown texts) members

  none_placed : K × K × ℕ
  none_placed = (none, none, 0)

  of_each : All (IsOf at members) sorted
  of_each = All-permutation (IsOf at members) (placed_from at 0 members) sorted moved (all_of at members)

  distinct : IsDistinct same_number sorted
  distinct = IsDistinct-IsPermutation same_number (λ x y. grind (arith, nat_tests)) (placed_from at 0 members) sorted moved (all_distinct at members)

  same_order : (x y : K × K × ℕ) → IsOf at members x → IsOf at members y → placed_cmp cmp x y ≡ place_cmp shown x.2 y.2
  unfolding shown
  same_order x y p q =
      let one = entry_at members x.2 in
      let other = entry_at members y.2 in
      let one_below = below x.2 no_entry p.within in
      let other_below = below y.2 no_entry q.within in
      let name = stand one.name other.name one_below.0 other_below.0 in
      let descriptor = stand one.descriptor other.descriptor one_below.1 other_below.1 in
      let mine = key_shown_at texts members x.2 no_entry p.within in
      let others = key_shown_at texts members y.2 no_entry q.within in
      (λ i. ordering_then (ordering_then (cmp (p.name i) (q.name i)) (cmp (p.descriptor i) (q.descriptor i))) (nat_cmp x.2 y.2))
      ∙ (λ i. ordering_then (ordering_then (name i) (descriptor i)) (nat_cmp x.2 y.2))
      ∙ sym (λ i. ordering_then (key_cmp (mine i) (others i)) (nat_cmp x.2 y.2))

  rises : (k : ℕ) → k + 1 < length (map number_of sorted) → place_cmp shown (slice_index_or (map number_of sorted) k 0) (slice_index_or (map number_of sorted) (k + 1) 0) ≡ Less
  rises k l =
      let within : k + 1 < length sorted = omega (arith, l, length-map sorted number_of) in
      let x = slice_index_or sorted k none_placed in
      let y = slice_index_or sorted (k + 1) none_placed in
      let at_x : slice_index_or (map number_of sorted) k 0 ≡ x.2 = get_or-map number_of sorted k none_placed 0 (omega (arith, within)) in
      let at_y : slice_index_or (map number_of sorted) (k + 1) 0 ≡ y.2 = get_or-map number_of sorted (k + 1) none_placed 0 within in
      let p = of_each k none_placed (omega (arith, within)) in
      let q = of_each (k + 1) none_placed within in
      let no_greater = no_less (place_cmp_total shown) x.2 y.2 (sym (ap is_lt (same_order y x q p)) ∙ up k none_placed (omega arith) within) in
      let differ = apart_from_distinct same_number sorted k (k + 1) none_placed distinct (omega arith) within in
      let less = must_be_less (place_cmp shown x.2 y.2) no_greater (λ e. false≢true (sym differ ∙ itself x.2 y.2 (tied_numbers _ x.2 y.2 e))) in
      ap (λ a. place_cmp shown a (slice_index_or (map number_of sorted) (k + 1) 0)) at_x ∙ ap (place_cmp shown x.2) at_y ∙ less

  pub order_made : IsOrder (map (member_shown texts) members) (map number_of sorted)
  unfolding shown
  order_made = record {
    rises = sorted_from_all_adjacent (place_cmp_total shown) (map number_of sorted) 0 rises;
    sound = λ number h.
        let from = has-from_map number_of sorted number (has_from (map number_of sorted) number h) in
        let of = All-contains (IsOf at members) sorted from.0 of_each (from_has sorted from.0 from.1) in
        let within = of.within in
        omega (arith, within, from.2, length-map members (member_shown texts));
    complete = λ number l.
        let within : number < length members = omega (arith, l, length-map members (member_shown texts)) in
        let is = placed_at at 0 members number none_placed within in
        let one = slice_index_or (placed_from at 0 members) number none_placed in
        let there = Contains-get_or (placed_from at 0 members) number none_placed (omega (arith, within, length_placed at 0 members)) in
        let mine : number_of one ≡ number = ap number_of is ∙ zero_more number in
        subst (Contains (map number_of sorted)) mine (from_has (map number_of sorted) (number_of one) (has-map number_of sorted one (has_from sorted one (Contains-permutation (placed_from at 0 members) sorted one moved there))));
  }

-- ---- by ranks, and by the texts themselves

pub by_ranks : (texts : List Name) (ranks : List ℕ) → AreRanks texts ranks → (members : List MemberEntry) → AreBelow (length ranks) members → (sorted : List (ℕ × ℕ × ℕ)) → IsPermutation (placed_from (slice_index ranks) 0 members) sorted → IsSorted (placed_cmp nat_cmp) sorted → IsOrder (map (member_shown texts) members) (map number_of sorted)
by_ranks texts ranks r members below sorted moved up = order_made nat_cmp (slice_index ranks) 0 texts r.order members (subst (λ n. AreBelow n members) r.size below) sorted moved up

named_sorted : (xs : List (Bor (List ℕ) × Bor (List ℕ) × ℕ)) → IsSorted (λ (a b : Bor (List ℕ) × Bor (List ℕ) × ℕ). placed_cmp name_cmp (named_lent a) (named_lent b)) xs → IsSorted (placed_cmp name_cmp) (map named_lent xs)
named_sorted [] h = λ k d l m. absurd (omega (arith, m))
named_sorted (x ∷ xs) h = λ k d l m.
    let size = length-map (x ∷ xs) named_lent in
    let within : k + 1 < length (x ∷ xs) = omega (arith, size, m) in
    let first = get_or-map named_lent (x ∷ xs) k x d (omega (arith, within)) in
    let second = get_or-map named_lent (x ∷ xs) (k + 1) x d within in
    ap (λ t. is_lt (placed_cmp name_cmp t (slice_index_or (map named_lent (x ∷ xs)) k d))) second ∙ ap (λ t. is_lt (placed_cmp name_cmp (named_lent (slice_index_or (x ∷ xs) (k + 1) x)) t)) first ∙ h k x l within

numbers_lent : (xs : List (Bor (List ℕ) × Bor (List ℕ) × ℕ)) → map number_of (map named_lent xs) ≡ map number_of xs
numbers_lent [] = refl
numbers_lent (x ∷ xs) = ap (λ ns. x.2 ∷ ns) (numbers_lent xs)

pub by_texts : (texts : List Name) (members : List MemberEntry) → AreBelow (length texts) members → (old new : List (Bor (List ℕ) × Bor (List ℕ) × ℕ)) → map named_lent old ≡ placed_from (text_at texts) 0 members → IsPermutation old new
    → IsSorted (λ (a b : Bor (List ℕ) × Bor (List ℕ) × ℕ). placed_cmp name_cmp (named_lent a) (named_lent b)) new → IsOrder (map (member_shown texts) members) (map number_of new)
by_texts texts members below old new e moved up =
    subst (IsOrder (map (member_shown texts) members)) (numbers_lent new)
    (order_made name_cmp (text_at texts) [] texts (λ a b l m. refl) members below (map named_lent new)
    (subst (λ ms. IsPermutation ms (map named_lent new)) e (IsPermutation-map named_lent old new moved)) (named_sorted new up))
