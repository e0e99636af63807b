use Rattle.std.proofs.Common.{◌∙◌, ◌&&◌, not, ap, rules}
use Rattle.std.specs.Option.{option_copied}
use Rattle.jc_linkage.specs.inside.Kept.{held_in}
use Rattle.jc_linkage.specs.inside.Users.{is_name}
use Rattle.jc_linkage.proofs.held.LinksLeft.{links_left}
use Rattle.jc_linkage.proofs.edit.finish.Goals as goal

pub commit-requires-clause-linked : goal.commit-requires-clause-linked
commit-requires-clause-linked c = λ r n d.
    let gone = is_name (option_copied c.args.gone) in
    let fresh = c.args.fresh.items in
    c.remove_class.ensures.linked r n d
    ∙ ap (λ b. b && not (gone d && held_in r c.args.kept.now d n)) (c.requires.linked r n d)
    ∙ links_left gone c.args.kept.now c.remove_class.new.kept fresh c.remove_class.ensures.kept (λ d h. (c.requires.there d h).0) r n d

pub commit-requires-clause-apart : goal.commit-requires-clause-apart
commit-requires-clause-apart c = search rules

pub returns-clause-kept : goal.returns-clause-kept
returns-clause-kept c = search rules
