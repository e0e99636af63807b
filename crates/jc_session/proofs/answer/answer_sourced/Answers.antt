use Rattle.std.proofs.Common.{◌∙◌, ◌++◌, [], ◌∷◌, Some, Ok, Err, drop, refl, sym, subst, rules}
use Rattle.std.proofs.KnownBytes.{Keeps-refl}
use Rattle.jc_input.specs.declared.source.SourceError.TheVariants as sources
use Rattle.jc_session.specs.AnswerText.{unread_text}
use Rattle.jc_edits.specs.SessionState.{contents_of}
use Rattle.jc_input.specs.Changes.{OfFiles, change_lent}
use Rattle.jc_input.specs.Sources.{SourceAnswers, by_any_path}
use Rattle.jc_session.specs.Answers.{Says}
use Rattle.jc_session.specs.inside.Replies.{Gives, placed}
use Rattle.jc_session.proofs.runs.EditsMade.{files_edited}
use Rattle.jc_session.proofs.runs.ByAnswers.{said_gives, said_not_lacks}
use Rattle.jc_session.proofs.answer.answer_sourced.Goals as goal

pub returns-in-Ok-clause-gives : goal.returns-in-Ok-clause-gives
returns-in-Ok-clause-gives g c s known =
    let h = contents_of c.args.session.now in
    let edited = rw c.edit.ensures at (files_edited c.args.session.now c.make.new.self (change_lent c.edit.result) c.make.result c.make.ensures.judged c.make.ensures.ok c.make.ensures.err c.make.ensures.prefixes) in
    let change = placed c.args.placing c.args.path.now c.in-Ok.bytes.items in
    let took = rw (known, c.in-Ok.is) at c.read.ensures in
    rw (sym took.0, took.1) (c.answer_edit.ensures.gives h (contents_of c.make.new.self) (OfFiles change) edited s (drop 1 s))

pub returns-in-Ok-clause-lacks : goal.returns-in-Ok-clause-lacks
returns-in-Ok-clause-lacks g c s known lacks =
    let h = contents_of c.args.session.now in
    let edited = rw c.edit.ensures at (files_edited c.args.session.now c.make.new.self (change_lent c.edit.result) c.make.result c.make.ensures.judged c.make.ensures.ok c.make.ensures.err c.make.ensures.prefixes) in
    let change = placed c.args.placing c.args.path.now c.in-Ok.bytes.items in
    let took = rw (known, c.in-Ok.is) at c.read.ensures in
    rw (sym took.0) (c.answer_edit.ensures.lacks h (contents_of c.make.new.self) (OfFiles change) edited lacks)

pub returns-in-Ok-clause-any : goal.returns-in-Ok-clause-any
returns-in-Ok-clause-any g c =
    let h = contents_of c.args.session.now in
    let edited = rw c.edit.ensures at (files_edited c.args.session.now c.make.new.self (change_lent c.edit.result) c.make.result c.make.ensures.judged c.make.ensures.ok c.make.ensures.err c.make.ensures.prefixes) in
    let change = placed c.args.placing c.args.path.now c.in-Ok.bytes.items in
    let given : SourceAnswers = by_any_path (Ok c.in-Ok.bytes.items) ∷ [] in (
      given,
      λ later. (
        c.answer_edit.ensures.gives h (contents_of c.make.new.self) (OfFiles change) edited (given ++ later) later,
        λ e. c.answer_edit.ensures.lacks h (contents_of c.make.new.self) (OfFiles change) edited e,
      ),
    )

pub returns-in-Err-Unread-clause-any : goal.returns-in-Err-Unread-clause-any
returns-in-Err-Unread-clause-any g c =
    let h = contents_of c.args.session.now in
    let text = unread_text c.args.path.now in
    let before = g.W.Output.written c.args.out.now in
    let after = g.W.Output.written c.write_unread.new.out in
    let given : SourceAnswers = by_any_path (Err sources.Unread) ∷ [] in (
      given,
      λ later. (
        subst (λ result. Gives h (given ++ later) (Says text h later) result h (Some later) before after) (sym c.said.ensures)
            (said_gives c.write_unread.result h (given ++ later) text h later before after c.write_unread.ensures.ok c.write_unread.ensures.front),
        λ e. said_not_lacks c.write_unread.result (sym c.said.ensures ∙ e),
      ),
    )

pub returns-in-Err-NoMemory-clause-any : goal.returns-in-Err-NoMemory-clause-any
returns-in-Err-NoMemory-clause-any g c =
    let given : SourceAnswers = by_any_path (Err sources.NoMemory) ∷ [] in
    (given, λ later. ((refl, refl, Keeps-refl (g.W.Output.written c.args.out.now)), λ e. tt))

pub returns-in-Err-Unread-clause-gives : goal.returns-in-Err-Unread-clause-gives
returns-in-Err-Unread-clause-gives c = search rules
