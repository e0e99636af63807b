use Rattle.std.proofs.Common.{◌≢◌, Err, rules}
use Rattle.jc_input.specs.declared.edit.EditError.TheVariants as errors
use Rattle.jc_session.specs.inside.EditText.{edit_text}
use Rattle.jc_session.proofs.runs.ByAnswers.{said_gives}
use Rattle.jc_session.proofs.runs.EditsMade.{reply_said}
use Rattle.jc_session.proofs.answer.answer_edit.Goals as goal

pub returns-in_default-clause-gives : goal.returns-in_default-clause-gives
returns-in_default-clause-gives g c h k change edited s t =
    let other : c.args.edited ≢ Err errors.NoMemory = search rules in
    rw (reply_said c.args.edited h k change t other edited, c.said.ensures)
    (said_gives c.write_edit_answer.result h s (edit_text c.args.edited) k t (g.W.Output.written c.args.out.now) (g.W.Output.written c.write_edit_answer.new.out) c.write_edit_answer.ensures.ok c.write_edit_answer.ensures.front)
