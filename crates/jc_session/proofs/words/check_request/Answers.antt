use Rattle.std.proofs.Common.{◌≡◌, ◌∙◌, None, Some, codes, rules}
use Rattle.clap.specs.Matches.{first_value, found_of}
use Rattle.clap.proofs.WalkLemmas.{first_value-rows}
use Rattle.jc_session.proofs.asking.FoundAmong.{path_read}
use Rattle.jc_session.proofs.words.check_request.Goals as goal

pub unreachable-requires : goal.unreachable-requires
unreachable-requires c =
    let f = found_of c.args.matches.now in
    let none : None ≡ first_value f (codes "DIR") = search rules in
    path_read f (codes "DIR") c.requires.path none

pub returns-clause-asks : goal.returns-clause-asks
returns-clause-asks c =
    let f = found_of c.args.matches.now in
    let read : Some c.in-Some.folder.now ≡ first_value f (codes "DIR") = search rules in
    (c.in_ok-outside-in-Some.ensures.held, c.in_ok-form-in-Some.ensures.asks, read ∙ first_value-rows f (codes "DIR"))
