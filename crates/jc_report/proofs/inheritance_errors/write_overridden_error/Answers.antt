use Rattle.std.proofs.Common.{ap, sym}
use Rattle.jc_text.proofs.Sending.{◌⟫◌, sends_equal}
use Rattle.jc_report.specs.PartText.{member_text}
use Rattle.jc_report.proofs.inheritance_errors.write_overridden_error.Goals as goal

pub returns : goal.returns
returns g c =
    let i = c.args.method.now in
    c.write_member.ensures i.key (ap (λ k. k.name) (sym c.key-key.ensures)) (ap (λ k. k.descriptor) (sym c.key-key.ensures))
    ⟫ c.text.ensures
    ⟫ sends_equal (ap (λ n. member_text n i.key) c.class.ensures)
    (c.write_member-2.ensures i.key (ap (λ k. k.name) (sym c.key-key.ensures)) (ap (λ k. k.descriptor) (sym c.key-key.ensures)))
    ⟫ c.text-2.ensures
