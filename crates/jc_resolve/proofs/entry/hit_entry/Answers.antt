use Rattle.std.proofs.Common.{sym, ◌∙◌}
use Rattle.jc_classes.specs.Lent.{key_lent, member_lent}
use Rattle.jc_numbered.specs.inside.Indexed.{indexed_name}
use Rattle.jc_resolve.proofs.answering.Keys.{hit_other, hit_same}
use Rattle.jc_resolve.proofs.entry.hit_entry.Goals as goal

pub returns-then-same : goal.returns-then-same
returns-then-same c = λ x r e keyed. hit_same (indexed_name x c.args.hit.node) r.key (key_lent c.args.key) (member_lent c.args.hit.member) e keyed (sym c.same.ensures ∙ c.if-same.true)

pub returns-else-same : goal.returns-else-same
returns-else-same c = λ x r e keyed. hit_other (indexed_name x c.args.hit.node) r.key (key_lent c.args.key) (member_lent c.args.hit.member) e keyed (sym c.same.ensures ∙ c.if-same.false)
