use Rattle.std.proofs.Common.{◌≡◌, ◌∙◌, Some, ap, sym}
use Rattle.std.specs.Prelude.{option_map}
use Rattle.jc_classes.specs.NamedTexts.{named_by}
use Rattle.jc_classes.specs.declared.facts.ReferenceEntry.{ReferenceEntry}
use Rattle.jc_classes.specs.inside.ConstantTexts.{texts_of}
use Rattle.jc_classes.specs.inside.FactsShown.{reference_shown, text_at}
use Rattle.jc_classes.proofs.texts.AskedTexts.{both, so}
use Rattle.jc_classes.proofs.class_texts.ClassTexts.reference.Goals as goal

pub returns : goal.returns
returns c =
    let entry = c.in-Some.entry in
    let numbered : ReferenceEntry = record { index = entry.index; kind = entry.kind; class = c.in_ok-class.class; name = c.in_ok-name.name; descriptor = c.in_ok-descriptor.descriptor } in
    let first = c.in_ok-class.ensures in
    let second = c.in_ok-name.ensures in
    so (both first (both second c.in_ok-descriptor.ensures)) (λ ts h.
    let class = ap named_by h.0 in
    let name = h.1.0 ∙ ap (λ k. text_at (texts_of k) entry.name) first.class in
    let descriptor = h.1.1 ∙ ap (λ k. text_at (texts_of k) entry.descriptor) (second.class ∙ first.class) in
    let same : reference_shown ts numbered ≡ reference_shown (texts_of c.args.self.now.class) entry = λ i. record { index = entry.index; kind = entry.kind; named = class i; key = record { name = name i; descriptor = descriptor i } } in
    ap Some same ∙ ap (option_map (reference_shown (texts_of c.args.self.now.class))) (sym c.in-Some.is))
