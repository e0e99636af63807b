use Rattle.std.proofs.Common.{◌≡◌, ◌∙◌, ℕ, Bool, List, [], map, nat_eq, ap, sym, subst}
use Rattle.std.specs.Borrow.{Bor}
use Rattle.std.specs.Cmp.Lexicographic.{texts_ties, pointwise}
use Rattle.std.specs.List.Retain.{IsFiltered, DiffersFromLast}
use Rattle.std.specs.List.Sorted.{IsSorted, IsStrictlySortedBy}
use Rattle.jc_base.proofs.maps.FiniteMaps.{same_bytes_decides}
use Rattle.jc_classes.specs.NameLists.{has}
use Rattle.jc_classes.specs.Names.{Name, name_cmp}
use Rattle.jc_index.proofs.lists.Ordered.{ordered_has, ordered_rises}
use Rattle.jc_index.proofs.packed_names.PackedNames.of.Goals as goal

abbrev Lent : Type 0
Lent = Bor (List ℕ)

abbrev same : Lent → Lent → Bool
same a b = pointwise nat_eq a.now b.now

abbrev lent_names : List Lent → List Name
lent_names lent = map (λ (n : Lent). n.now) lent

rises : (names : List Name) (sorted new : List Lent) → names ≡ lent_names new → IsSorted (λ (a b : Lent). name_cmp a.now b.now) sorted
    → IsFiltered (DiffersFromLast same) [] sorted new → IsStrictlySortedBy name_cmp names
rises names sorted new e s f =
    subst (IsStrictlySortedBy name_cmp) (sym e) (ordered_rises (λ (n : Lent). n.now) same (λ a b. texts_ties a.now b.now) sorted new s f)

pub invariant_of-result : goal.invariant_of-result
invariant_of-result c =
    rises c.in_ok-names.names c.sort_unstable.new.self.items c.dedup.new.self.items (c.in_ok-names.ensures ∙ ap lent_names c.deref.ensures.value) c.sort_unstable.ensures.sorted c.dedup.ensures.filtered

pub returns-clause-same : goal.returns-clause-same
returns-clause-same c = λ n.
    ap (λ names. has names n) (c.in_ok-names.ensures ∙ ap lent_names c.deref.ensures.value)
    ∙ ordered_has (λ (n : Lent). n.now) same (λ a b e. (same_bytes_decides a.now b.now).0 e)
    c.args.names.items c.sort_unstable.new.self.items c.dedup.new.self.items c.sort_unstable.ensures.permutation c.dedup.ensures.filtered n

pub returns-clause-rises : goal.returns-clause-rises
returns-clause-rises c =
    rises c.in_ok-names.names c.sort_unstable.new.self.items c.dedup.new.self.items (c.in_ok-names.ensures ∙ ap lent_names c.deref.ensures.value) c.sort_unstable.ensures.sorted c.dedup.ensures.filtered
