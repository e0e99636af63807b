use Rattle.std.proofs.Common.{sym, ◌∙◌, arith}
use Rattle.std.proofs.lemmas.List.{get_or_default}
use Rattle.jc_classes.specs.declared.linkage_error.LinkageError.TheVariants as fault
use Rattle.jc_numbered.specs.declared.loads.Load.TheVariants.{Fails}
use Rattle.jc_resolve.specs.inside.Looks.{reach_of}
use Rattle.jc_resolve.proofs.answering.Making.{fails_told, outside_told, seen_told}
use Rattle.jc_resolve.proofs.look.Look.node_entry.Goals as goal

pub returns-in-Outside : goal.returns-in-Outside
returns-in-Outside c = outside_told (reach_of c.args.self.now) c.args.node _ _ _ (sym c.in-Outside.is ∙ get_or_default c.args.self.now.loads.now c.args.node _ (Fails fault.NoClass 0) (omega (arith, c.requires, c.args.self.now.size)))

pub returns-in-Fails : goal.returns-in-Fails
returns-in-Fails c = fails_told (reach_of c.args.self.now) c.args.node _ _ _ c.in-Fails.error c.in-Fails.about (sym c.in-Fails.is ∙ get_or_default c.args.self.now.loads.now c.args.node _ (Fails fault.NoClass 0) (omega (arith, c.requires, c.args.self.now.size)))

pub returns-then-can_see : goal.returns-then-can_see
returns-then-can_see c = seen_told (reach_of c.args.self.now) c.args.node _ _ _ _ (sym c.in-Loaded.is ∙ get_or_default c.args.self.now.loads.now c.args.node _ (Fails fault.NoClass 0) (omega (arith, c.requires, c.args.self.now.size))) (sym c.if-can_see.true ∙ c.can_see.ensures)

pub returns-else-can_see : goal.returns-else-can_see
returns-else-can_see c = seen_told (reach_of c.args.self.now) c.args.node _ _ _ _ (sym c.in-Loaded.is ∙ get_or_default c.args.self.now.loads.now c.args.node _ (Fails fault.NoClass 0) (omega (arith, c.requires, c.args.self.now.size))) (sym c.if-can_see.false ∙ c.can_see.ensures)
