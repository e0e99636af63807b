use Rattle.std.proofs.Common.{◌∙◌, not, ap, sym}
use Rattle.jc_base.specs.DescriptorTests.{is_field_text}
use Rattle.jc_view.specs.Lookups.{lacks, utf8_at}
use Rattle.jc_file.specs.inside.Texts.{is_field}
use Rattle.jc_file.proofs.sets.DescriptorTexts.{lacking_field}
use Rattle.jc_file.proofs.fields.breaks_f16.Goals as goal

pub returns-in-Some-clause-breaks : goal.returns-in-Some-clause-breaks
returns-in-Some-clause-breaks c =
    ap not c.is_field.ensures
    ∙ ap (lacks is_field) (sym c.in-Some.is ∙ c.descriptor.ensures.answer)
    ∙ sym (lacking_field (utf8_at c.args.texts.now c.descriptor_index.result))
    ∙ ap (λ index. lacks is_field_text (utf8_at c.args.texts.now index)) c.descriptor_index.ensures
