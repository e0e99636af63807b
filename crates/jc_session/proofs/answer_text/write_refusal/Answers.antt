use Rattle.std.proofs.Common.{rules}
use Rattle.jc_text.proofs.Sending.{◌⟫◌, finished}
use Rattle.jc_session.proofs.answer_text.write_refusal.Goals as goal

pub returns-clause-front : goal.returns-clause-front
returns-clause-front g c =
    let all = finished c.finish.result c.new-text.ensures.fresh (c.write_edit_error.ensures ⟫ c.finish.ensures.sends) c.finish.ensures.ok c.finish.ensures.err in
    search (rules, all)

pub returns-clause-ok : goal.returns-clause-ok
returns-clause-ok g c =
    let all = finished c.finish.result c.new-text.ensures.fresh (c.write_edit_error.ensures ⟫ c.finish.ensures.sends) c.finish.ensures.ok c.finish.ensures.err in
    search (rules, all)
