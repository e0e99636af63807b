use Rattle.std.proofs.Common.{[], refl, sym}
use Rattle.std.specs.Prelude.{codes}
use Rattle.std.proofs.KnownBytes.{Keeps-refl}
use Rattle.jc_report.specs.ReportText.{report_text}
use Rattle.jc_session.specs.declared.answer.Placing.TheVariants as placings
use Rattle.jc_input.specs.Changes.{Removes, AddsPrefix, DropsPrefix, OfFiles, OfPrefixes}
use Rattle.jc_input.specs.Lines.{Add, Replace, Remove, AddPrefix, DropPrefix, Report, Part, Dependants, Bad}
use Rattle.jc_classes.specs.Names.{names_of}
use Rattle.jc_session.specs.AnswerText.{names_text}
use Rattle.jc_session.specs.ListedText.{listed_text}
use Rattle.jc_session.specs.SaidDependants.{SaysDependants}
use Rattle.jc_input.specs.Sources.{next_answer}
use Rattle.jc_edits.specs.SaidPart.{SaysPart}
use Rattle.jc_edits.specs.SessionState.{contents_of}
use Rattle.jc_session.specs.Answers.{Ends, Lists, SaysReport, edit_reply, sourced_reply}
use Rattle.jc_session.specs.Runs.{MayLack}
use Rattle.jc_session.specs.inside.Replies.{placed}
use Rattle.jc_session.proofs.runs.ByAnswers.{edit_owed, owed_by_reply, said_by_none, said_owed}
use Rattle.jc_session.proofs.runs.EditsMade.{files_edited, prefixes_edited}
use Rattle.jc_session.proofs.answer.answer.Goals as goal

-- ---- edits

pub returns-in-Add-clause-gives : goal.returns-in-Add-clause-gives
returns-in-Add-clause-gives g c s known =
    let h = contents_of c.args.session.now in
    let path = c.in-Add.path.now in
    rw c.in-Add.is (sourced_reply h s path (placed placings.Add path), refl, c.answer_sourced.ensures.gives s known)

pub returns-in-Add-clause-any : goal.returns-in-Add-clause-any
returns-in-Add-clause-any g c =
    let h = contents_of c.args.session.now in
    let path = c.in-Add.path.now in
    rw c.in-Add.is
    (owed_by_reply h (Add path) (λ s. sourced_reply h s path (placed placings.Add path)) (λ s. MayLack h (placed placings.Add path) (next_answer s path))
    c.answer_sourced.result (contents_of c.answer_sourced.new.session) (g.W.Output.written c.args.out.now) (g.W.Output.written c.answer_sourced.new.out)
    (λ s. refl) (λ s may. may) c.answer_sourced.ensures.any)

pub returns-in-Replace-clause-gives : goal.returns-in-Replace-clause-gives
returns-in-Replace-clause-gives g c s known =
    let h = contents_of c.args.session.now in
    let path = c.in-Replace.path.now in
    rw c.in-Replace.is (sourced_reply h s path (placed placings.Replace path), refl, c.answer_sourced-in-Replace.ensures.gives s known)

pub returns-in-Replace-clause-any : goal.returns-in-Replace-clause-any
returns-in-Replace-clause-any g c =
    let h = contents_of c.args.session.now in
    let path = c.in-Replace.path.now in
    rw c.in-Replace.is
    (owed_by_reply h (Replace path) (λ s. sourced_reply h s path (placed placings.Replace path)) (λ s. MayLack h (placed placings.Replace path) (next_answer s path))
    c.answer_sourced-in-Replace.result (contents_of c.answer_sourced-in-Replace.new.session) (g.W.Output.written c.args.out.now) (g.W.Output.written c.answer_sourced-in-Replace.new.out)
    (λ s. refl) (λ s may. may) c.answer_sourced-in-Replace.ensures.any)

pub returns-in-Remove-clause-gives : goal.returns-in-Remove-clause-gives
returns-in-Remove-clause-gives g c s known =
    let h = contents_of c.args.session.now in
    let change = Removes c.in-Remove.path.now in
    let edited = files_edited c.args.session.now c.make.new.self change c.make.result c.make.ensures.judged c.make.ensures.ok c.make.ensures.err c.make.ensures.prefixes in
    rw (c.in-Remove.is, known) (edit_reply h s (OfFiles change), refl, c.answer_edit.ensures.gives h (contents_of c.make.new.self) (OfFiles change) edited s s)

pub returns-in-Remove-clause-any : goal.returns-in-Remove-clause-any
returns-in-Remove-clause-any g c =
    let h = contents_of c.args.session.now in
    let change = Removes c.in-Remove.path.now in
    let edited = files_edited c.args.session.now c.make.new.self change c.make.result c.make.ensures.judged c.make.ensures.ok c.make.ensures.err c.make.ensures.prefixes in
    rw c.in-Remove.is
    (edit_owed h (contents_of c.make.new.self) (Remove c.in-Remove.path.now) (OfFiles change) c.answer_edit.result (g.W.Output.written c.args.out.now) (g.W.Output.written c.answer_edit.new.out)
    (λ s. refl) (λ s may. may) (c.answer_edit.ensures.gives h (contents_of c.make.new.self) (OfFiles change) edited) (c.answer_edit.ensures.lacks h (contents_of c.make.new.self) (OfFiles change) edited))

pub returns-in-Remove-clause-lacks : goal.returns-in-Remove-clause-lacks
returns-in-Remove-clause-lacks g c s known lacks =
    let h = contents_of c.args.session.now in
    let change = Removes c.in-Remove.path.now in
    let edited = files_edited c.args.session.now c.make.new.self change c.make.result c.make.ensures.judged c.make.ensures.ok c.make.ensures.err c.make.ensures.prefixes in
    rw c.in-Remove.is (c.answer_edit.ensures.lacks h (contents_of c.make.new.self) (OfFiles change) edited lacks)

pub returns-in-AddPrefix-clause-gives : goal.returns-in-AddPrefix-clause-gives
returns-in-AddPrefix-clause-gives g c s known =
    let h = contents_of c.args.session.now in
    let change = AddsPrefix c.in-AddPrefix.prefix.now in
    let edited = prefixes_edited c.args.session.now c.make_prefix.new.self change c.make_prefix.result c.make_prefix.ensures.judged c.make_prefix.ensures.ok c.make_prefix.ensures.err c.make_prefix.ensures.files in
    rw (c.in-AddPrefix.is, known) (edit_reply h s (OfPrefixes change), refl, c.answer_edit-in-AddPrefix.ensures.gives h (contents_of c.make_prefix.new.self) (OfPrefixes change) edited s s)

pub returns-in-AddPrefix-clause-any : goal.returns-in-AddPrefix-clause-any
returns-in-AddPrefix-clause-any g c =
    let h = contents_of c.args.session.now in
    let change = AddsPrefix c.in-AddPrefix.prefix.now in
    let edited = prefixes_edited c.args.session.now c.make_prefix.new.self change c.make_prefix.result c.make_prefix.ensures.judged c.make_prefix.ensures.ok c.make_prefix.ensures.err c.make_prefix.ensures.files in
    rw c.in-AddPrefix.is
    (edit_owed h (contents_of c.make_prefix.new.self) (AddPrefix c.in-AddPrefix.prefix.now) (OfPrefixes change) c.answer_edit-in-AddPrefix.result (g.W.Output.written c.args.out.now) (g.W.Output.written c.answer_edit-in-AddPrefix.new.out)
    (λ s. refl) (λ s may. may) (c.answer_edit-in-AddPrefix.ensures.gives h (contents_of c.make_prefix.new.self) (OfPrefixes change) edited) (c.answer_edit-in-AddPrefix.ensures.lacks h (contents_of c.make_prefix.new.self) (OfPrefixes change) edited))

pub returns-in-AddPrefix-clause-lacks : goal.returns-in-AddPrefix-clause-lacks
returns-in-AddPrefix-clause-lacks g c s known lacks =
    let h = contents_of c.args.session.now in
    let change = AddsPrefix c.in-AddPrefix.prefix.now in
    let edited = prefixes_edited c.args.session.now c.make_prefix.new.self change c.make_prefix.result c.make_prefix.ensures.judged c.make_prefix.ensures.ok c.make_prefix.ensures.err c.make_prefix.ensures.files in
    rw c.in-AddPrefix.is (c.answer_edit-in-AddPrefix.ensures.lacks h (contents_of c.make_prefix.new.self) (OfPrefixes change) edited lacks)

pub returns-in-DropPrefix-clause-gives : goal.returns-in-DropPrefix-clause-gives
returns-in-DropPrefix-clause-gives g c s known =
    let h = contents_of c.args.session.now in
    let change = DropsPrefix c.in-DropPrefix.prefix.now in
    let edited = prefixes_edited c.args.session.now c.make_prefix-in-DropPrefix.new.self change c.make_prefix-in-DropPrefix.result c.make_prefix-in-DropPrefix.ensures.judged c.make_prefix-in-DropPrefix.ensures.ok c.make_prefix-in-DropPrefix.ensures.err c.make_prefix-in-DropPrefix.ensures.files in
    rw (c.in-DropPrefix.is, known) (edit_reply h s (OfPrefixes change), refl, c.answer_edit-in-DropPrefix.ensures.gives h (contents_of c.make_prefix-in-DropPrefix.new.self) (OfPrefixes change) edited s s)

pub returns-in-DropPrefix-clause-any : goal.returns-in-DropPrefix-clause-any
returns-in-DropPrefix-clause-any g c =
    let h = contents_of c.args.session.now in
    let change = DropsPrefix c.in-DropPrefix.prefix.now in
    let edited = prefixes_edited c.args.session.now c.make_prefix-in-DropPrefix.new.self change c.make_prefix-in-DropPrefix.result c.make_prefix-in-DropPrefix.ensures.judged c.make_prefix-in-DropPrefix.ensures.ok c.make_prefix-in-DropPrefix.ensures.err c.make_prefix-in-DropPrefix.ensures.files in
    rw c.in-DropPrefix.is
    (edit_owed h (contents_of c.make_prefix-in-DropPrefix.new.self) (DropPrefix c.in-DropPrefix.prefix.now) (OfPrefixes change) c.answer_edit-in-DropPrefix.result (g.W.Output.written c.args.out.now) (g.W.Output.written c.answer_edit-in-DropPrefix.new.out)
    (λ s. refl) (λ s may. may) (c.answer_edit-in-DropPrefix.ensures.gives h (contents_of c.make_prefix-in-DropPrefix.new.self) (OfPrefixes change) edited) (c.answer_edit-in-DropPrefix.ensures.lacks h (contents_of c.make_prefix-in-DropPrefix.new.self) (OfPrefixes change) edited))

pub returns-in-DropPrefix-clause-lacks : goal.returns-in-DropPrefix-clause-lacks
returns-in-DropPrefix-clause-lacks g c s known lacks =
    let h = contents_of c.args.session.now in
    let change = DropsPrefix c.in-DropPrefix.prefix.now in
    let edited = prefixes_edited c.args.session.now c.make_prefix-in-DropPrefix.new.self change c.make_prefix-in-DropPrefix.result c.make_prefix-in-DropPrefix.ensures.judged c.make_prefix-in-DropPrefix.ensures.ok c.make_prefix-in-DropPrefix.ensures.err c.make_prefix-in-DropPrefix.ensures.files in
    rw c.in-DropPrefix.is (c.answer_edit-in-DropPrefix.ensures.lacks h (contents_of c.make_prefix-in-DropPrefix.new.self) (OfPrefixes change) edited lacks)

-- ---- texts

pub returns-in-Report-clause-gives : goal.returns-in-Report-clause-gives
returns-in-Report-clause-gives g c s known =
    let h = contents_of c.args.session.now in
    let did = c.write_report.ensures.text in
    let says : SaysReport h (report_text did.0) = rw (sym c.report.ensures.files, sym c.report.ensures.prefixes) (did.0, did.1, refl) in
    rw (c.in-Report.is, known)
    (said_owed c.write_report.result c.said.result h Report (report_text did.0) (g.W.Output.written c.args.out.now) (g.W.Output.written c.write_report.new.out)
    (λ t. (report_text did.0, says, refl)) c.said.ensures did.2 did.3 s)

pub returns-in-Report-clause-any : goal.returns-in-Report-clause-any
returns-in-Report-clause-any g c =
    let h = contents_of c.args.session.now in
    let did = c.write_report.ensures.text in
    let says : SaysReport h (report_text did.0) = rw (sym c.report.ensures.files, sym c.report.ensures.prefixes) (did.0, did.1, refl) in
    rw c.in-Report.is
    (said_by_none c.write_report.result c.said.result h Report (report_text did.0) (g.W.Output.written c.args.out.now) (g.W.Output.written c.write_report.new.out)
    (λ t. (report_text did.0, says, refl)) c.said.ensures did.2 did.3)

pub returns-in-Part-clause-gives : goal.returns-in-Part-clause-gives
returns-in-Part-clause-gives g c s known =
    let h = contents_of c.args.session.now in
    let name = c.in-Part.name.now in
    let did = c.write_part_of.ensures.text in
    let says : SaysPart h.files h.prefixes name did.0 = rw (sym c.report-in-Part.ensures.files, sym c.report-in-Part.ensures.prefixes) did.1 in
    rw (c.in-Part.is, known)
    (said_owed c.write_part_of.result c.said-in-Part.result h (Part name) did.0 (g.W.Output.written c.args.out.now) (g.W.Output.written c.write_part_of.new.out)
    (λ t. (did.0, says, refl)) c.said-in-Part.ensures did.2 did.3 s)

pub returns-in-Part-clause-any : goal.returns-in-Part-clause-any
returns-in-Part-clause-any g c =
    let h = contents_of c.args.session.now in
    let name = c.in-Part.name.now in
    let did = c.write_part_of.ensures.text in
    let says : SaysPart h.files h.prefixes name did.0 = rw (sym c.report-in-Part.ensures.files, sym c.report-in-Part.ensures.prefixes) did.1 in
    rw c.in-Part.is
    (said_by_none c.write_part_of.result c.said-in-Part.result h (Part name) did.0 (g.W.Output.written c.args.out.now) (g.W.Output.written c.write_part_of.new.out)
    (λ t. (did.0, says, refl)) c.said-in-Part.ensures did.2 did.3)

pub returns-in-List-clause-gives : goal.returns-in-List-clause-gives
returns-in-List-clause-gives g c s known =
    rw (c.in-List.is, known) (Lists (listed_text c.args.session.now.files c.in-List.name.now), refl, c.answer_listing.ensures.gives s)

pub returns-in-List-clause-any : goal.returns-in-List-clause-any
returns-in-List-clause-any g c =
    rw c.in-List.is ([], λ later. ((Lists (listed_text c.args.session.now.files c.in-List.name.now), refl, c.answer_listing.ensures.gives later), λ e. c.answer_listing.ensures.lacks e))

pub returns-in-Dependants-clause-gives : goal.returns-in-Dependants-clause-gives
returns-in-Dependants-clause-gives g c s known =
    let h = contents_of c.args.session.now in
    let name = c.in-Dependants.name.now in
    let names = names_of c.dependants.result.now in
    let says : SaysDependants h name (names_text names) = (names, c.dependants.ensures, refl) in
    rw (c.in-Dependants.is, known)
    (said_owed c.write_names.result c.said-in-Dependants.result h (Dependants name) (names_text names) (g.W.Output.written c.args.out.now) (g.W.Output.written c.write_names.new.out)
    (λ t. (names_text names, says, refl)) c.said-in-Dependants.ensures c.write_names.ensures.ok c.write_names.ensures.front s)

pub returns-in-Dependants-clause-any : goal.returns-in-Dependants-clause-any
returns-in-Dependants-clause-any g c =
    let h = contents_of c.args.session.now in
    let name = c.in-Dependants.name.now in
    let names = names_of c.dependants.result.now in
    let says : SaysDependants h name (names_text names) = (names, c.dependants.ensures, refl) in
    rw c.in-Dependants.is
    (said_by_none c.write_names.result c.said-in-Dependants.result h (Dependants name) (names_text names) (g.W.Output.written c.args.out.now) (g.W.Output.written c.write_names.new.out)
    (λ t. (names_text names, says, refl)) c.said-in-Dependants.ensures c.write_names.ensures.ok c.write_names.ensures.front)

pub returns-in-Bad-clause-gives : goal.returns-in-Bad-clause-gives
returns-in-Bad-clause-gives g c s known =
    rw (c.in-Bad.is, known)
    (said_owed c.write_bad_line.result c.said-in-Bad.result (contents_of c.args.session.now) Bad (codes "bad line\n") (g.W.Output.written c.args.out.now) (g.W.Output.written c.write_bad_line.new.out)
    (λ t. refl) c.said-in-Bad.ensures c.write_bad_line.ensures.ok c.write_bad_line.ensures.front s)

pub returns-in-Bad-clause-any : goal.returns-in-Bad-clause-any
returns-in-Bad-clause-any g c =
    rw c.in-Bad.is
    (said_by_none c.write_bad_line.result c.said-in-Bad.result (contents_of c.args.session.now) Bad (codes "bad line\n") (g.W.Output.written c.args.out.now) (g.W.Output.written c.write_bad_line.new.out)
    (λ t. refl) c.said-in-Bad.ensures c.write_bad_line.ensures.ok c.write_bad_line.ensures.front)

-- ---- the end

pub returns-in-End-clause-any : goal.returns-in-End-clause-any
returns-in-End-clause-any g c =
    rw c.in-End.is ([], λ later. ((Ends, refl, (refl, refl, Keeps-refl (g.W.Output.written c.args.out.now))), λ e. absurd cc))
