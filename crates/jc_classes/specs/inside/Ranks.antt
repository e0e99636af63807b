-- Texts by number, and members by the ranks of their texts.
use Rattle.std.specs.Prelude.{◌≡◌, ℕ, ◌+◌, ◌<◌, ◌≤◌, true, false, List, [], ◌∷◌, length, map, slice_index}
use Rattle.std.specs.Borrow.{Bor}
use Rattle.std.specs.List.{All, Contains}
use Rattle.std.specs.List.Sorted.{IsSorted}
use Rattle.std.specs.Ordering.{is_lt, nat_cmp}
use Rattle.jc_classes.specs.Names.{Name, name_cmp}
use Rattle.jc_classes.specs.declared.facts.MemberEntry.{MemberEntry}
use Rattle.jc_classes.specs.inside.FactsShown.{text_at}

-- the texts in ascending order of their bytes
pub record AreSorted (texts sorted : List Name) : Type 0 where
  pub rises : IsSorted name_cmp sorted
  pub size : length sorted ≡ length texts
  pub complete : (number : ℕ) → number < length texts → Contains sorted (text_at texts number)

-- `rank` is the number of sorted texts that are less than the text
pub record IsRank (sorted : List Name) (text : Name) (rank : ℕ) : Type 0 where
  pub fits : rank ≤ length sorted
  pub below : (place : ℕ) → place < rank → is_lt (name_cmp (text_at sorted place) text) ≡ true
  pub above : (place : ℕ) → rank ≤ place → place < length sorted → is_lt (name_cmp (text_at sorted place) text) ≡ false

-- the ranks of texts, at the numbers of the texts. They compare as the bytes of the texts do
pub record AreRanks (texts : List Name) (ranks : List ℕ) : Type 0 where
  pub size : length ranks ≡ length texts
  pub within : (number : ℕ) → number < length texts → slice_index ranks number < length texts
  pub order : (a b : ℕ) → a < length texts → b < length texts
      → nat_cmp (slice_index ranks a) (slice_index ranks b) ≡ name_cmp (text_at texts a) (text_at texts b)

-- the numbers of the members' texts are below a bound
abbrev pub AreBelow : ℕ → List MemberEntry → Type 0
AreBelow bound members = All (λ (entry : MemberEntry). (entry.name < bound) × (entry.descriptor < bound)) members

abbrev pub texts_lent : List (Bor (List ℕ)) → List Name
texts_lent texts = map (λ (text : Bor (List ℕ)). text.now) texts

abbrev pub named_lent : Bor (List ℕ) × Bor (List ℕ) × ℕ → Name × Name × ℕ
named_lent named = (named.0.now, named.1.now, named.2)

-- for each member the values at its name and at its descriptor, and its number. The first number is `number`
abbrev pub placed_from : {K : Type 0} → (ℕ → K) → ℕ → List MemberEntry → List (K × K × ℕ)
placed_from at number [] = []
placed_from at number (entry ∷ members) = (at entry.name, at entry.descriptor, number) ∷ placed_from at (number + 1) members

abbrev pub number_of : {K : Type 0} → K × K × ℕ → ℕ
number_of one = one.2
