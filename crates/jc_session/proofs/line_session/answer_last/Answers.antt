use Rattle.std.proofs.Common.{Ok, Err, sym, subst}
use Rattle.std.proofs.lemmas.Result.{err_from_is_err_and}
use Rattle.jc_session.specs.declared.answer.Next.TheVariants as next
use Rattle.jc_input.specs.declared.run_error.Ended.TheVariants as ended
use Rattle.jc_session.specs.inside.Replies.{GivesByAnswers}
use Rattle.jc_edits.specs.SessionState.{contents_of}
use Rattle.jc_session.proofs.runs.ByAnswers.{last_gives}
use Rattle.jc_session.proofs.line_session.answer_last.Goals as goal

pub returns-in_err-answer-clause-any : goal.returns-in_err-answer-clause-any
returns-in_err-answer-clause-any g c =
    let exit = err_from_is_err_and c.from_residual.result c.from_residual.ensures.1 in
    let h = contents_of c.args.session.now in
    let e = c.in_err-answer.field-0.0 in
    let gives = subst (λ line. GivesByAnswers h line (Err e) (contents_of c.answer.new.session) (g.W.Output.written c.args.out.now) (g.W.Output.written c.answer.new.out))
    c.parse_line.ensures c.in_err-answer.ensures.any in
    rw (exit.1, exit.2) (last_gives h c.args.line.now (sym c.if-is_empty.ensures) (Err e) (contents_of c.answer.new.session) (g.W.Output.written c.args.out.now) (g.W.Output.written c.answer.new.out) gives)

pub returns-in-Line-clause-any : goal.returns-in-Line-clause-any
returns-in-Line-clause-any g c =
    let h = contents_of c.args.session.now in
    let any = rw c.in-Line.is at c.in_ok-answer.ensures.any in
    let gives = subst (λ line. GivesByAnswers h line (Ok next.Line) (contents_of c.answer.new.session) (g.W.Output.written c.args.out.now) (g.W.Output.written c.answer.new.out))
    c.parse_line.ensures any in
    last_gives h c.args.line.now (sym c.if-is_empty.ensures) (Ok ended.Eof) (contents_of c.answer.new.session) (g.W.Output.written c.args.out.now) (g.W.Output.written c.answer.new.out) gives

pub returns-in-Nothing-clause-any : goal.returns-in-Nothing-clause-any
returns-in-Nothing-clause-any g c =
    let h = contents_of c.args.session.now in
    let any = rw c.in-Nothing.is at c.in_ok-answer.ensures.any in
    let gives = subst (λ line. GivesByAnswers h line (Ok next.Nothing) (contents_of c.answer.new.session) (g.W.Output.written c.args.out.now) (g.W.Output.written c.answer.new.out))
    c.parse_line.ensures any in
    last_gives h c.args.line.now (sym c.if-is_empty.ensures) (Ok ended.End) (contents_of c.answer.new.session) (g.W.Output.written c.args.out.now) (g.W.Output.written c.answer.new.out) gives
