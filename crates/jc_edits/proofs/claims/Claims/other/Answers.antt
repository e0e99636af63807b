use Rattle.std.proofs.Common.{◌≡◌, true, false, Some, None, sym, ap, ◌∙◌}
use Rattle.std.specs.FinMap as map
use Rattle.std.specs.Option.{option_copied, option_map}
use Rattle.jc_base.specs.Bytes.{same_bytes}
use Rattle.jc_edits.specs.inside.Claims.{PathsByName}
use Rattle.jc_edits.proofs.holding.NextClaim.{first_other, next_claim, no_claim, not_not, passed_over, stopped_at}
use Rattle.jc_edits.proofs.claims.Claims.other.Goals as goal

pub returns-in_err-paths : goal.returns-in_err-paths
returns-in_err-paths c = λ f are.
    let name = c.args.name.now in
    let none : map.get c.args.self.now name ≡ None = ap (λ (m : PathsByName). map.get m name) (sym c.self.view_is) ∙ sym c.get.ensures ∙ ap option_copied c.in_err-paths.was in
    ap (option_map (λ other. other.now)) c.from_residual.ensures ∙ sym (no_claim c.args.self.now f name c.args.path.now are none)

pub returns-then-ne : goal.returns-then-ne
returns-then-ne c = λ f are.
    let name = c.args.name.now in
    let path = c.args.path.now in
    let paths = c.in_ok-paths.paths.now in
    let some : map.get c.args.self.now name ≡ Some paths = ap (λ (m : PathsByName). map.get m name) (sym c.self.view_is) ∙ sym c.get.ensures ∙ ap option_copied c.in_ok-paths.was in
    let apart : same_bytes c.in-Some.other.now path ≡ false = not_not (same_bytes c.in-Some.other.now path) false (sym c.if-ne.ensures) in
    sym (stopped_at path c.in-Some.other.now c.next.new.self apart) ∙ sym (ap (first_other path) c.in-Some.ensures.steps) ∙ c.loop-other.invariant
    ∙ ap (first_other path) (c.into_iter-other-iterator.ensures.into_iter_gives ∙ c.keys-other-items.ensures.keys) ∙ sym (next_claim c.args.self.now f name path are paths some)

pub loop-other-preserved : goal.loop-other-preserved
loop-other-preserved c =
    let path = c.args.path.now in
    let same : same_bytes c.in-Some.other.now path ≡ true = not_not (same_bytes c.in-Some.other.now path) true (sym c.if-ne.ensures) in
    sym (passed_over path c.in-Some.other.now c.next.new.self same) ∙ sym (ap (first_other path) c.in-Some.ensures.steps) ∙ c.loop-other.invariant

pub returns : goal.returns
returns c = λ f are.
    let name = c.args.name.now in
    let path = c.args.path.now in
    let paths = c.in_ok-paths.paths.now in
    let some : map.get c.args.self.now name ≡ Some paths = ap (λ (m : PathsByName). map.get m name) (sym c.self.view_is) ∙ sym c.get.ensures ∙ ap option_copied c.in_ok-paths.was in
    sym (ap (first_other path) c.in-None.ensures.steps.0) ∙ c.loop-other.invariant
    ∙ ap (first_other path) (c.into_iter-other-iterator.ensures.into_iter_gives ∙ c.keys-other-items.ensures.keys) ∙ sym (next_claim c.args.self.now f name path are paths some)
