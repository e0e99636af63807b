use Rattle.std.proofs.Common.{rules}
use Rattle.std.specs.Prelude.{codes}
use Rattle.jc_text.proofs.Sending.{◌⟫◌, finished}
use Rattle.jc_session.proofs.listings.TextListed.{text_listed, wants_no_memory}
use Rattle.jc_session.proofs.file_listing.write_none.Goals as goal

pub returns-clause-listing : goal.returns-clause-listing
returns-clause-listing g c =
    let all = finished c.finish.result c.new-text.ensures.fresh (c.text.ensures ⟫ c.finish.ensures.sends) c.finish.ensures.ok c.finish.ensures.err in
    let listed = text_listed c.finish.result c.finished.result (codes "none\n") _ _ _ _ c.finished.ensures all in
    search (rules, listed.0)

pub returns-clause-failures : goal.returns-clause-failures
returns-clause-failures g c =
    let all = finished c.finish.result c.new-text.ensures.fresh (c.text.ensures ⟫ c.finish.ensures.sends) c.finish.ensures.ok c.finish.ensures.err in
    let listed = text_listed c.finish.result c.finished.result (codes "none\n") _ _ _ _ c.finished.ensures all in
    search (rules, listed.1)

pub returns-clause-err : goal.returns-clause-err
returns-clause-err g c = wants_no_memory c.finish.result c.finished.result c.finished.ensures
