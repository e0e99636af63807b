use Rattle.std.proofs.Common.{◌≡◌, ◌∙◌, Some, ap, sym}
use Rattle.std.specs.Prelude.{option_map}
use Rattle.jc_classes.specs.declared.facts.MemberEntry.{MemberEntry}
use Rattle.jc_classes.specs.inside.ConstantTexts.{texts_of}
use Rattle.jc_classes.specs.inside.FactsShown.{member_shown, text_at}
use Rattle.jc_classes.proofs.texts.AskedTexts.{both, so}
use Rattle.jc_classes.proofs.class_texts.ClassTexts.member.Goals as goal

pub returns : goal.returns
returns c =
    let entry = c.in-Some.entry in
    let numbered : MemberEntry = record { name = c.in_ok-name.name; descriptor = c.in_ok-descriptor.descriptor; flags = entry.flags } in
    let first = c.in_ok-name.ensures in
    so (both first c.in_ok-descriptor.ensures) (λ ts h.
    let descriptor = h.1 ∙ ap (λ k. text_at (texts_of k) entry.descriptor) first.class in
    let same : member_shown ts numbered ≡ member_shown (texts_of c.args.self.now.class) entry = λ i. record { name = h.0 i; descriptor = descriptor i; flags = entry.flags } in
    ap Some same ∙ ap (option_map (member_shown (texts_of c.args.self.now.class))) (sym c.in-Some.is))
