use Rattle.std.proofs.Common.{◌≡◌, Some, None, sym, ap, ◌∙◌}
use Rattle.std.specs.FinMap as map
use Rattle.std.specs.Option.{option_copied}
use Rattle.jc_report.specs.FileRows.{winner}
use Rattle.jc_edits.proofs.placing.ClassesRead.{next_read, next_there}
use Rattle.jc_edits.proofs.changes.uncovered.Goals as goal

pub unreachable-requires : goal.unreachable-requires
unreachable-requires c =
    let f = c.args.held.now.files in
    let wins : winner (map.remove f c.args.path.now) c.args.name.now ≡ Some c.in-Some.next.now = sym (c.other.ensures f c.requires) ∙ ap option_copied c.in-Some.is in
    next_there f c.args.path.now c.args.name.now c.in-Some.next.now wins c.in_default-get.ensures

pub unreachable-requires-in-None : goal.unreachable-requires-in-None
unreachable-requires-in-None c =
    let f = c.args.held.now.files in
    let wins : winner (map.remove f c.args.path.now) c.args.name.now ≡ Some c.in-Some.next.now = sym (c.other.ensures f c.requires) ∙ ap option_copied c.in-Some.is in
    let next = next_read f c.args.path.now c.args.name.now c.in-Some.next.now wins c.in-Some-get.file.now c.bytes.result.now c.in_ok-facts.field-0 c.in-Some-get.ensures c.bytes.ensures c.in_ok-facts.ensures in
    let e : None ≡ Some next.facts = sym c.in-None.is ∙ next.is_read in
    cc

pub returns-clause-name : goal.returns-clause-name
returns-clause-name c =
    let f = c.args.held.now.files in
    let wins : winner (map.remove f c.args.path.now) c.args.name.now ≡ Some c.in-Some.next.now = sym (c.other.ensures f c.requires) ∙ ap option_copied c.in-Some.is in
    let next = next_read f c.args.path.now c.args.name.now c.in-Some.next.now wins c.in-Some-get.file.now c.bytes.result.now c.in_ok-facts.field-0 c.in-Some-get.ensures c.bytes.ensures c.in_ok-facts.ensures in
    let same : Some c.in-Some-2.facts ≡ Some next.facts = sym c.in-Some-2.is ∙ next.is_read in
    let named = next.is_name in
    cc

pub returns-clause-class : goal.returns-clause-class
returns-clause-class c =
    let f = c.args.held.now.files in
    let wins : winner (map.remove f c.args.path.now) c.args.name.now ≡ Some c.in-Some.next.now = sym (c.other.ensures f c.requires) ∙ ap option_copied c.in-Some.is in
    let next = next_read f c.args.path.now c.args.name.now c.in-Some.next.now wins c.in-Some-get.file.now c.bytes.result.now c.in_ok-facts.field-0 c.in-Some-get.ensures c.bytes.ensures c.in_ok-facts.ensures in
    sym c.in-Some-2.is ∙ next.is_read ∙ sym next.gives
