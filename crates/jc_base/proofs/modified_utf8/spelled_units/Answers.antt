use Rattle.std.proofs.Common.{sym, ◌∙◌}
use Rattle.jc_base.proofs.texts.WellSpelledFronts.{next_read, all_read}
use Rattle.jc_base.proofs.modified_utf8.spelled_units.Goals as goal

pub loop-unit-preserved : goal.loop-unit-preserved
loop-unit-preserved c =
    next_read c.loop-unit.units.items c.push.new.self.items c.args.text.now c.loop-unit.rest.now c.in-Some.unit c.in-Some.size
    c.loop-unit.invariant (sym c.unit_at.ensures.value ∙ c.in-Some.is) c.in_ok-push.ensures.items

pub returns-clause-ok : goal.returns-clause-ok
returns-clause-ok c =
    all_read c.loop-unit.units.items c.args.text.now c.loop-unit.rest.now c.requires c.loop-unit.invariant
    (sym c.unit_at.ensures.value ∙ c.in_default.is)
