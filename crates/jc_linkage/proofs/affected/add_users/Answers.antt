use Rattle.std.proofs.Common.{sym, subst}
use Rattle.std.specs.List.Sorted.{IsStrictlySortedBy}
use Rattle.jc_classes.specs.Names.{name_cmp}
use Rattle.jc_linkage.specs.inside.Users.{has_list}
use Rattle.jc_linkage.proofs.affected.add_users.Goals as goal

pub returns-in_default-clause-rises : goal.returns-in_default-clause-rises
unfolding IsStrictlySortedBy
returns-in_default-clause-rises c = subst (λ o. IsStrictlySortedBy name_cmp (has_list o)) (sym c.in_default.is) tt
