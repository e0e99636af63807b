use Rattle.std.proofs.Common.{Some, None, ap, ◌∙◌}
use Rattle.std.specs.Prelude.{if◌then◌else◌}
use Rattle.std.specs.Option.{option_copied}
use Rattle.jc_edits.proofs.placing.ClassesRead.{named_lost}
use Rattle.jc_edits.proofs.changes.lost.Goals as goal

pub returns-in_err-winner : goal.returns-in_err-winner
returns-in_err-winner c =
    let held = c.args.held.now in
    ap option_copied c.from_residual-in_err-winner.ensures
    ∙ named_lost held.claims held.files c.args.path.now c.in_ok-get.field-0.now c.in-Ok.name.now None c.requires c.in_ok-get.ensures c.in-Ok.ensures c.in_err-winner.ensures

pub returns-then-eq : goal.returns-then-eq
returns-then-eq c =
    let held = c.args.held.now in
    let name = c.in-Ok.name.now in
    ap (λ b. if b then Some name else None) c.if-eq.ensures
    ∙ named_lost held.claims held.files c.args.path.now c.in_ok-get.field-0.now name (Some c.in_ok-winner.winner.now) c.requires c.in_ok-get.ensures c.in-Ok.ensures c.in_ok-winner.ensures

pub returns-else-eq : goal.returns-else-eq
returns-else-eq c =
    let held = c.args.held.now in
    let name = c.in-Ok.name.now in
    ap (λ b. if b then Some name else None) c.if-eq.ensures
    ∙ named_lost held.claims held.files c.args.path.now c.in_ok-get.field-0.now name (Some c.in_ok-winner.winner.now) c.requires c.in_ok-get.ensures c.in-Ok.ensures c.in_ok-winner.ensures
