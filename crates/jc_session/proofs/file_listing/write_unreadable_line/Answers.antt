use Rattle.std.proofs.Common.{◌++◌, rules}
use Rattle.std.specs.Prelude.{codes}
use Rattle.std.proofs.lemmas.List.{append-nil}
use Rattle.jc_text.proofs.Sending.{◌⟫◌, sends_equal, finished}
use Rattle.jc_report.specs.FileRowText.{refusal_text}
use Rattle.jc_session.proofs.listings.TextListed.{text_listed}
use Rattle.jc_session.proofs.file_listing.write_unreadable_line.Goals as goal

pub returns-clause-listing : goal.returns-clause-listing
returns-clause-listing g c =
    let text = codes "unreadable " ++ refusal_text c.args.refusal ++ codes "\n" in
    let sends = sends_equal (append-nil text) (c.text.ensures ⟫ c.write_refusal.ensures ⟫ c.text-2.ensures ⟫ c.finish.ensures.sends) in
    let all = finished c.finish.result c.new-text.ensures.fresh sends c.finish.ensures.ok c.finish.ensures.err in
    let listed = text_listed c.finish.result c.finished.result text _ _ _ _ c.finished.ensures all in
    search (rules, listed.0)

pub returns-clause-failures : goal.returns-clause-failures
returns-clause-failures g c =
    let text = codes "unreadable " ++ refusal_text c.args.refusal ++ codes "\n" in
    let sends = sends_equal (append-nil text) (c.text.ensures ⟫ c.write_refusal.ensures ⟫ c.text-2.ensures ⟫ c.finish.ensures.sends) in
    let all = finished c.finish.result c.new-text.ensures.fresh sends c.finish.ensures.ok c.finish.ensures.err in
    let listed = text_listed c.finish.result c.finished.result text _ _ _ _ c.finished.ensures all in
    search (rules, listed.1)
