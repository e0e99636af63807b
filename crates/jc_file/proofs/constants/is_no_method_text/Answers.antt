use Rattle.std.proofs.Common.{◌∙◌, not, ap, sym}
use Rattle.jc_view.specs.Lookups.{fails, utf8_at}
use Rattle.jc_file.specs.inside.Texts.{is_method}
use Rattle.jc_file.proofs.sets.DescriptorTexts.{no_methods}
use Rattle.jc_file.proofs.constants.is_no_method_text.Goals as goal

pub returns-in-Some-clause-fails : goal.returns-in-Some-clause-fails
returns-in-Some-clause-fails c =
    ap not c.is_method.ensures
    ∙ ap (fails is_method) (sym c.in-Some.is ∙ c.descriptor.ensures.answer)
    ∙ sym (no_methods (utf8_at c.args.texts.now c.args.index))
