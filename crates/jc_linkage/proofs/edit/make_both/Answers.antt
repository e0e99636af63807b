use Rattle.std.proofs.Common.{false, ap, subst, sym, ◌∙◌}
use Rattle.std.proofs.lemmas.Result.{err_from_is_err_and}
use Rattle.jc_link.specs.Tables.{class_at}
use Rattle.jc_linkage.specs.Steps.{at_step}
use Rattle.jc_linkage.specs.inside.Holding.{stepped_by}
use Rattle.jc_linkage.specs.inside.Stepping.{AreTaken, NoneVacant}
use Rattle.jc_linkage.proofs.steps.ClassesStepped.{back_behind, named_after, there_back, undone}
use Rattle.jc_linkage.proofs.edit.make_both.Goals as goal

pub make-requires-2 : goal.make-requires-2
make-requires-2 c = named_after c.args.first c.args.table.now c.make.new.table c.requires.named c.in_ok-first.ensures.ok

pub returns-in-Ok-clause-ok : goal.returns-in-Ok-clause-ok
returns-in-Ok-clause-ok c = λ n. c.in-Ok.ensures.ok n ∙ ap (λ z. stepped_by c.args.second z n) (λ i k. c.in_ok-first.ensures.ok k i)

pub returns-in-Ok-clause-second : goal.returns-in-Ok-clause-second
returns-in-Ok-clause-second c = back_behind c.in-Ok.second c.args.second (class_at c.make.new.table) (stepped_by c.args.first (class_at c.args.table.now)) c.in_ok-first.ensures.ok c.in-Ok.ensures.back

pub returns-in-Ok-clause-there_first : goal.returns-in-Ok-clause-there_first
returns-in-Ok-clause-there_first c =
    there_back c.in_ok-first.first c.args.first c.args.table.now c.make-2.new.table c.in_ok-first.ensures.back (λ n h. c.in-Ok.ensures.there n (c.in_ok-first.ensures.there n h))

pub returns-in-Ok-clause-there_second : goal.returns-in-Ok-clause-there_second
returns-in-Ok-clause-there_second c = there_back c.in-Ok.second c.args.second c.make.new.table c.make-2.new.table c.in-Ok.ensures.back c.in-Ok.ensures.there

pub returns-in-Err-clause-err : goal.returns-in-Err-clause-err
returns-in-Err-clause-err c = λ n.
    c.unmake.ensures.ok n
    ∙ undone c.in_ok-first.first c.args.first (class_at c.args.table.now) (class_at c.make-2.new.table) c.in_ok-first.ensures.back
    (λ n. ap (λ t. class_at t n) c.in-Err.ensures.err ∙ c.in_ok-first.ensures.ok n) n

pub returns-in_err-first-clause-taken_err : goal.returns-in_err-first-clause-taken_err
returns-in_err-first-clause-taken_err c =
    let exit = err_from_is_err_and c.from_residual.result c.from_residual.ensures.1 in
    let kept : NoneVacant c.args.table.now → NoneVacant c.make.new.table = subst NoneVacant (sym c.in_err-first.ensures.err) in
    rw exit.1 kept

pub returns-in-Ok-clause-taken : goal.returns-in-Ok-clause-taken
returns-in-Ok-clause-taken c = λ none. c.in-Ok.ensures.taken (at_step c.in_ok-first.first) (c.in_ok-first.ensures.taken (λ n. false) none)

pub returns-in-Err-clause-taken_err : goal.returns-in-Err-clause-taken_err
returns-in-Err-clause-taken_err c = λ none.
    c.unmake.ensures.taken (λ n. false) (subst (AreTaken (at_step c.in_ok-first.first)) (sym c.in-Err.ensures.err) (c.in_ok-first.ensures.taken (λ n. false) none))
