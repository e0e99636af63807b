use Rattle.std.proofs.Common.{◌≡◌, ◌∙◌, ◌+ℤ◌, pos, ap, sym, arith, rules, length, to_z, of_z, w32, w64}
use Rattle.std.proofs.lemmas.Int.{to_z-of_z}
use Rattle.jc_text.proofs.Sending.{part_sent, all_sent, sends_equal}
use Rattle.jc_list.specs.InsnLines.{target_lines}
use Rattle.jc_list.proofs.lines.Joined.{all_left}
use Rattle.jc_list.proofs.lines.Signed.{same_switch_line}
use Rattle.jc_list.proofs.lines.Targets.{from_first, next_target, no_target_left}
use Rattle.jc_list.proofs.switches.write_target_lines.Goals as goal

pub loop-index-init : goal.loop-index-init
loop-index-init g c =
    let s = c.args.switch.now in
    let first = ap (λ v. target_lines v s.targets.left) (from_first s.low) in
    let all = ap (λ t. target_lines (s.low +ℤ pos 0) t.left) c.targets-targets.ensures in
    (omega (arith, ap (λ t. length t.left) c.targets-targets.ensures), all_left (sym (all ∙ first)))

pub loop-index-preserved : goal.loop-index-preserved
loop-index-preserved g c =
    let low = c.args.switch.now.low in
    let from = to_z-of_z w64 c.from-low.result (search rules) ∙ c.from-low.ensures ∙ to_z-of_z w32 c.low.result (search rules) ∙ c.low.ensures in
    let number = to_z-of_z w64 c.from.result (search rules) ∙ c.from.ensures in
    let sum : to_z w64 (of_z w64 c.from-low.result) +ℤ to_z w64 (of_z w64 c.from.result) ≡ low +ℤ pos c.loop-index.index =
    ap (λ v. v +ℤ to_z w64 (of_z w64 c.from.result)) from ∙ ap (λ v. low +ℤ v) number in
    let line = same_switch_line (to_z w64 (of_z w64 c.from-low.result) +ℤ to_z w64 (of_z w64 c.from.result)) c.in-Some.target _ (search rules) (search rules) sum in
    let next = c.in-Some.ensures.steps.1 in (
      omega (arith, ap length next, c.loop-index.invariant.0),
      part_sent c.loop-index.invariant.1 (next_target low c.loop-index.index _ _ _ next) (sends_equal line c.write_switch_line.ensures),
    )

pub returns-in_default : goal.returns-in_default
returns-in_default g c = all_sent c.loop-index.invariant.1 (ap (target_lines _) c.in_default.ensures.steps.1.0)

pub returns : goal.returns
returns g c =
    all_sent c.loop-index.invariant.1
    (no_target_left _ c.loop-index.targets.left (omega (arith, c.loop-index.invariant.0, ap (λ t. length t.left) c.targets-targets.ensures)))
