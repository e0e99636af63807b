use Rattle.std.proofs.Common.{List, rules, subst}
use Rattle.std.proofs.lemmas.List.{take_all}
use Rattle.jc_view.specs.declared.constant_pool.ConstantIndex.{ConstantIndex}
use Rattle.jc_classes.specs.UsedConstants.{is_among}
use Rattle.jc_classes.specs.inside.Using.{Marks}
use Rattle.jc_classes.proofs.using.Marking.{marks_more, marks_nothing}
use Rattle.jc_classes.proofs.used.mark_all.Goals as goal

pub loop-index-init : goal.loop-index-init
loop-index-init c = marks_nothing c.args.marks.now.items

pub loop-index-preserved : goal.loop-index-preserved
loop-index-preserved c = marks_more c.args.indexes.now c.loop-index.index-index _ _ _ _ (search rules) (search rules) c.loop-index.invariant c.mark.ensures

pub returns : goal.returns
returns c =
    subst (λ (indexes : List ConstantIndex). Marks (is_among indexes) c.args.marks.now.items c.loop-index.marks.items)
    (take_all c.loop-index.index-index c.args.indexes.now (search rules)) c.loop-index.invariant
