use Rattle.std.proofs.Common.{◌∙◌, ap, sym}
use Rattle.jc_view.specs.Lookups.{passes, utf8_at}
use Rattle.jc_file.specs.inside.Texts.{returns}
use Rattle.jc_file.proofs.sets.DescriptorTexts.{returning}
use Rattle.jc_file.proofs.constants.returns_value.Goals as goal

pub returns-in-Some-clause-is : goal.returns-in-Some-clause-is
returns-in-Some-clause-is c =
    c.returns_value.ensures
    ∙ ap (passes returns) (sym c.in-Some.is ∙ c.descriptor.ensures.answer)
    ∙ sym (returning (utf8_at c.args.texts.now c.args.descriptor))
