use Rattle.std.proofs.Common.{◌∙◌, not, ap, sym}
use Rattle.jc_view.specs.Lookups.{fails, utf8_at}
use Rattle.jc_file.specs.inside.Texts.{is_field}
use Rattle.jc_file.proofs.sets.DescriptorTexts.{no_fields}
use Rattle.jc_file.proofs.constants.is_no_field_text.Goals as goal

pub returns-in-Some-clause-fails : goal.returns-in-Some-clause-fails
returns-in-Some-clause-fails c =
    ap not c.is_field.ensures
    ∙ ap (fails is_field) (sym c.in-Some.is ∙ c.descriptor.ensures.answer)
    ∙ sym (no_fields (utf8_at c.args.texts.now c.args.index))
