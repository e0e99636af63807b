use Rattle.std.proofs.Common.{◌∙◌, ◌||◌, sym, ap, subst, cond, None, Some, is_some}
use Rattle.std.specs.FinMap as map
use Rattle.jc_classes.specs.Names.{same_name}
use Rattle.jc_link.specs.Tables.{class_at}
use Rattle.jc_linkage.specs.Steps.{is_step}
use Rattle.jc_linkage.specs.inside.Stepping.{AreTaken, stepped}
use Rattle.jc_linkage.proofs.steps.TablesStepped.{put_class, put_taken, put_there, removed_class, removed_taken, removed_there}
use Rattle.jc_linkage.proofs.step.take_back.Goals as goal

pub returns-in-Ok-clause-ok : goal.returns-in-Ok-clause-ok
returns-in-Ok-clause-ok c = λ n.
    let f = c.in-Put.facts in
    ap (λ t. class_at t n) c.in-Ok.ensures.ok ∙ put_class c.args.table.now f.name (Some f) n
    ∙ ap (λ s. stepped s (class_at c.args.table.now) n) (sym c.in-Put.is)

pub returns-in-Ok-clause-there : goal.returns-in-Ok-clause-there
returns-in-Ok-clause-there c = λ n s h.
    let f = c.in-Put.facts in
    ap (λ t. is_some (map.get t n)) c.in-Ok.ensures.ok ∙ put_there c.args.table.now f.name (Some f) n h

pub returns-in-Remove-clause-ok : goal.returns-in-Remove-clause-ok
returns-in-Remove-clause-ok c = λ n.
    ap (λ t. class_at t n) c.remove.ensures.removed ∙ removed_class c.args.table.now c.deref.result.now n
    ∙ ap (λ j. cond (same_name n j) None (class_at c.args.table.now n)) c.deref.ensures.value
    ∙ ap (λ s. stepped s (class_at c.args.table.now) n) (sym c.in-Remove.is)

pub returns-in-Remove-clause-there : goal.returns-in-Remove-clause-there
returns-in-Remove-clause-there c = λ n s h.
    ap (λ t. is_some (map.get t n)) c.remove.ensures.removed
    ∙ removed_there c.args.table.now c.deref.result.now n
    (ap (same_name n) c.deref.ensures.value ∙ ap (λ s. is_step s n) (sym c.in-Remove.is) ∙ s) h

pub returns-in-Ok-clause-taken : goal.returns-in-Ok-clause-taken
returns-in-Ok-clause-taken c = λ vacant taken.
    let f = c.in-Put.facts in
    let t = c.args.table.now in
    subst (AreTaken vacant) (sym c.in-Ok.ensures.ok) (put_taken vacant t f.name f (subst (λ s. AreTaken (λ n. vacant n || is_step s n) t) c.in-Put.is taken))

pub returns-in-Remove-clause-taken : goal.returns-in-Remove-clause-taken
returns-in-Remove-clause-taken c = λ vacant taken.
    let t = c.args.table.now in
    let there = subst (λ s. AreTaken (λ n. vacant n || is_step s n) t) c.in-Remove.is taken in
    let named = subst (λ name. AreTaken (λ n. vacant n || same_name n name) t) (sym c.deref.ensures.value) there in
    subst (AreTaken vacant) (sym c.remove.ensures.removed) (removed_taken vacant t c.deref.result.now named)
