use Rattle.std.proofs.Common.{◌∙◌, ap, sym}
use Rattle.jc_view.specs.Lookups.{passes, utf8_at}
use Rattle.jc_file.specs.inside.Texts.{is_array}
use Rattle.jc_file.proofs.sets.DescriptorTexts.{arrays}
use Rattle.jc_file.proofs.constants.is_array_text.Goals as goal

pub returns-in-Some-clause-passes : goal.returns-in-Some-clause-passes
returns-in-Some-clause-passes c =
    c.is_array.ensures
    ∙ ap (passes is_array) (sym c.in-Some.is ∙ c.descriptor.ensures.answer)
    ∙ sym (arrays (utf8_at c.args.texts.now c.args.index))
