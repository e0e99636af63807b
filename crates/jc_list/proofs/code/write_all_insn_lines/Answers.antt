use Rattle.std.proofs.Common.{◌∙◌, ap, sym, length}
use Rattle.std.specs.List.{flat_map}
use Rattle.jc_code.specs.InsnReading.{insns_of, end_of}
use Rattle.jc_text.proofs.Sending.{◌⟫◌, part_sent, all_sent, sends_equal, sends_nothing}
use Rattle.jc_list.specs.InsnLines.{insn_lines}
use Rattle.jc_list.proofs.lines.Choices.{ends_whole, ends_cut}
use Rattle.jc_list.proofs.lines.Joined.{all_left}
use Rattle.jc_list.proofs.code.write_all_insn_lines.Goals as goal

pub loop-place-init : goal.loop-place-init
loop-place-init g c =
    let end = ap (λ it. it.end) c.new-insns.ensures.read ∙ ap end_of c.bytes-bytes.ensures.part in
    let left = ap (λ it. it.left) c.new-insns.ensures.read ∙ ap insns_of c.bytes-bytes.ensures.part in
    (end, all_left (sym (ap (flat_map (insn_lines c.args.code.now.class)) left)))

pub loop-place-preserved : goal.loop-place-preserved
loop-place-preserved g c = (
  c.in-Some.ensures.steps.0 ∙ c.loop-place.invariant.0,
  part_sent c.loop-place.invariant.1 (ap (flat_map (insn_lines c.args.code.now.class)) c.in-Some.ensures.steps.1.0)
      (sends_equal (ap (λ class. insn_lines class (c.in-Some.place, c.in-Some.insn)) c.class.ensures) c.write_insn_lines.ensures),
)

pub returns-then-end-bytes : goal.returns-then-end-bytes
returns-then-end-bytes g c =
    all_sent c.loop-place.invariant.1 (ap (flat_map (insn_lines c.args.code.now.class)) c.in_default.ensures.steps.1.0)
    ⟫ sends_equal
    (ends_cut c.args.code.now.code c.rest-end.result _ (c.rest-end.ensures.ended c.in_default.ensures.steps.1.1 ∙ c.in_default.ensures.steps.0 ∙ c.loop-place.invariant.0)
    (ap length c.bytes-bytes.ensures.part) c.if-end-bytes.true)
    c.write_cut_line.ensures

pub returns-else-end-bytes : goal.returns-else-end-bytes
returns-else-end-bytes g c =
    all_sent c.loop-place.invariant.1 (ap (flat_map (insn_lines c.args.code.now.class)) c.in_default.ensures.steps.1.0)
    ⟫ sends_equal
    (ends_whole c.args.code.now.code c.rest-end.result _ (c.rest-end.ensures.ended c.in_default.ensures.steps.1.1 ∙ c.in_default.ensures.steps.0 ∙ c.loop-place.invariant.0)
    (ap length c.bytes-bytes.ensures.part) c.if-end-bytes.false)
    (sends_nothing _ _ _)
