use Rattle.std.proofs.Common.{◌++◌, ap, append_assoc, codes}
use Rattle.jc_text.proofs.Sending.{◌⟫◌, sends_equal}
use Rattle.jc_list.specs.Texts.{shown_text}
use Rattle.jc_list.proofs.texts.write_member_reference.Goals as goal

pub returns : goal.returns
returns g c =
    let class = sends_equal (ap (λ t. c.args.word.now ++ shown_text t) c.class_text.ensures) c.write_text_behind.ensures in
    let name = sends_equal (ap (λ t. codes "." ++ shown_text t) c.member_name_at.ensures) c.write_text_behind-2.ensures in
    let descriptor = sends_equal (ap (λ t. codes ":" ++ shown_text t) c.member_descriptor_at.ensures) c.write_text_behind-3.ensures in
    sends_equal (simp append_assoc) (class ⟫ name ⟫ descriptor)
