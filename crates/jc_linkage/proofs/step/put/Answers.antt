use Rattle.std.proofs.Common.{◌∙◌, ◌||◌, sym, ap, subst, Some, is_some}
use Rattle.std.specs.FinMap as map
use Rattle.jc_link.specs.Tables.{class_at}
use Rattle.jc_classes.specs.Names.{same_name}
use Rattle.jc_linkage.specs.inside.Stepping.{AreTaken}
use Rattle.jc_linkage.proofs.steps.TablesStepped.{placed_taken, put_class, put_there}
use Rattle.jc_linkage.proofs.step.put.Goals as goal

pub returns-in-Ok-Some-clause-ok : goal.returns-in-Ok-Some-clause-ok
returns-in-Ok-Some-clause-ok c = λ n. ap (λ t. class_at t n) c.in-Ok-Some.ensures.ok ∙ put_class c.args.table.now c.args.facts.name (Some c.args.facts) n

pub returns-in-Ok-Some-clause-back : goal.returns-in-Ok-Some-clause-back
returns-in-Ok-Some-clause-back c =
    let e = sym c.in-Ok-Some.field-0-is ∙ c.in-Ok-Some.ensures.before in
    record { name = c.requires c.args.facts.name c.in-Ok-Some.before (sym e); class = e }

pub returns-in-Ok-Some-clause-there : goal.returns-in-Ok-Some-clause-there
returns-in-Ok-Some-clause-there c = λ n h. ap (λ t. is_some (map.get t n)) c.in-Ok-Some.ensures.ok ∙ put_there c.args.table.now c.args.facts.name (Some c.args.facts) n h

pub returns-in-Ok-None-clause-ok : goal.returns-in-Ok-None-clause-ok
returns-in-Ok-None-clause-ok c = λ n. ap (λ t. class_at t n) c.in-Ok-None.ensures.ok ∙ put_class c.args.table.now c.args.facts.name (Some c.args.facts) n

pub returns-in-Ok-None-clause-there : goal.returns-in-Ok-None-clause-there
returns-in-Ok-None-clause-there c = λ n h. ap (λ t. is_some (map.get t n)) c.in-Ok-None.ensures.ok ∙ put_there c.args.table.now c.args.facts.name (Some c.args.facts) n h

pub returns-in-Ok-Some-clause-taken : goal.returns-in-Ok-Some-clause-taken
returns-in-Ok-Some-clause-taken c = λ vacant taken.
    let f = c.args.facts in
    subst (AreTaken (λ n. vacant n || same_name n f.name)) (sym c.in-Ok-Some.ensures.ok) (placed_taken vacant c.args.table.now f.name (Some f) taken)

pub returns-in-Ok-None-clause-taken : goal.returns-in-Ok-None-clause-taken
returns-in-Ok-None-clause-taken c = λ vacant taken.
    let f = c.args.facts in
    subst (AreTaken (λ n. vacant n || same_name n f.name)) (sym c.in-Ok-None.ensures.ok) (placed_taken vacant c.args.table.now f.name (Some f) taken)
