use Rattle.std.proofs.Common.{[], ap, subst, ◌∙◌}
use Rattle.std.specs.Option.{unwrap_or}
use Rattle.std.specs.List.Sorted.{IsStrictlySortedBy}
use Rattle.jc_classes.specs.Names.{name_cmp}
use Rattle.jc_index.specs.Indexes.{users_of}
use Rattle.jc_index.proofs.lists.Rising.{rises_none}
use Rattle.jc_index.proofs.index.Index.users.Goals as goal

pub returns-in-None-clause-rises : goal.returns-in-None-clause-rises
returns-in-None-clause-rises c =
    let name = c.args.name.now in
    subst (IsStrictlySortedBy name_cmp) (ap (λ o. unwrap_or o []) c.in-None.ensures ∙ ap (λ lists. users_of lists name) c.self.view_is) rises_none
