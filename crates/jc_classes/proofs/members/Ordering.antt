-- Where an order is of no members.
use Rattle.std.proofs.Common.{◌≡◌, ℕ, List, [], map, subst, sym, arith}
use Rattle.std.specs.List.Sorted.{IsStrictlySortedBy}
use Rattle.jc_classes.specs.MemberOrder.{IsOrder}
use Rattle.jc_classes.specs.declared.facts.MemberEntry.{MemberEntry}
use Rattle.jc_classes.specs.inside.FactsShown.{member_shown}

none_ordered : IsOrder [] []
unfolding IsStrictlySortedBy
none_ordered = record {
  rises = tt;
  sound = λ number h. absurd (omega (arith, h.1));
  complete = λ number l. absurd (omega (arith, l));
}

pub no_members : (texts : List (List ℕ)) (members : List MemberEntry) (order : List ℕ) → members ≡ [] → order ≡ [] → IsOrder (map (member_shown texts) members) order
no_members texts members order e f = subst (λ ms. IsOrder (map (member_shown texts) ms) order) (sym e) (subst (IsOrder []) (sym f) none_ordered)
