use Rattle.std.proofs.Common.{◌∙◌, not, ap, sym}
use Rattle.jc_base.specs.DescriptorTests.{method_type_of}
use Rattle.jc_view.specs.Lookups.{lacks, passes, utf8_at}
use Rattle.jc_file.specs.AccessFlags.{has, static}
use Rattle.jc_file.specs.FormatRules.{fits_slots}
use Rattle.jc_file.specs.inside.Texts.{fits}
use Rattle.jc_file.proofs.sets.DescriptorTexts.{lacking_method}
use Rattle.jc_file.proofs.methods.breaks_f20.Goals as goal

pub returns-in-Some-clause-breaks : goal.returns-in-Some-clause-breaks
returns-in-Some-clause-breaks c =
    let m = c.args.method.now.member.member in
    ap not (c.fits.ensures ∙ ap (λ b. fits b c.in-Some.descriptor) c.has.ensures ∙ ap (λ flags. fits (has flags static) c.in-Some.descriptor) c.flags.ensures)
    ∙ ap (lacks (fits (has m.flags static))) (sym c.in-Some.is ∙ c.descriptor.ensures.answer)
    ∙ sym (lacking_method m (utf8_at c.args.texts.now c.descriptor_index.result))
    ∙ ap (λ index. lacks (λ text. passes (fits_slots m) (method_type_of text)) (utf8_at c.args.texts.now index)) c.descriptor_index.ensures
