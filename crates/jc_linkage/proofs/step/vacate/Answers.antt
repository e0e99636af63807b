use Rattle.std.proofs.Common.{◌∙◌, ◌||◌, refl, sym, ap, subst, cond, None, is_some}
use Rattle.std.specs.FinMap as map
use Rattle.jc_classes.specs.Names.{same_name}
use Rattle.jc_link.specs.Tables.{class_at}
use Rattle.jc_linkage.specs.inside.Stepping.{AreTaken}
use Rattle.jc_linkage.proofs.steps.TablesStepped.{none_removed, placed_taken, put_class, put_there, still_taken}
use Rattle.jc_linkage.proofs.step.vacate.Goals as goal

pub returns-in-Some-clause-ok : goal.returns-in-Some-clause-ok
returns-in-Some-clause-ok c = λ n.
    ap (λ t. class_at t n) c.in-Some.ensures.vacated ∙ put_class c.args.table.now c.deref.result.now None n
    ∙ ap (λ j. cond (same_name n j) None (class_at c.args.table.now n)) c.deref.ensures.value

pub returns-in-Some-clause-there : goal.returns-in-Some-clause-there
returns-in-Some-clause-there c = λ n h. ap (λ t. is_some (map.get t n)) c.in-Some.ensures.vacated ∙ put_there c.args.table.now c.deref.result.now None n h

pub returns-in-None-clause-ok : goal.returns-in-None-clause-ok
returns-in-None-clause-ok c = λ n.
    ap (λ t. class_at t n) (c.in-None.ensures.absent refl) ∙ none_removed c.args.table.now c.deref.result.now n (sym c.in-None.ensures.before)
    ∙ ap (λ j. cond (same_name n j) None (class_at c.args.table.now n)) c.deref.ensures.value

pub returns-in-Some-clause-taken : goal.returns-in-Some-clause-taken
returns-in-Some-clause-taken c = λ vacant taken.
    let t = c.args.table.now in
    let put = subst (AreTaken (λ n. vacant n || same_name n c.deref.result.now)) (sym c.in-Some.ensures.vacated) (placed_taken vacant t c.deref.result.now None taken) in
    subst (λ name. AreTaken (λ n. vacant n || same_name n name) c.vacate.new.self) c.deref.ensures.value put

pub returns-in-None-clause-taken : goal.returns-in-None-clause-taken
returns-in-None-clause-taken c = λ vacant taken.
    subst (AreTaken (λ n. vacant n || same_name n c.args.name.items)) (sym (c.in-None.ensures.absent refl)) (still_taken vacant (λ n. same_name n c.args.name.items) c.args.table.now taken)
