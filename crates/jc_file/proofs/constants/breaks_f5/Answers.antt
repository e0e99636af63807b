use Rattle.std.proofs.Common.{◌∙◌, ap, sym}
use Rattle.jc_view.specs.Lookups.{passes, utf8_at}
use Rattle.jc_file.specs.inside.Texts.{fails_with}
use Rattle.jc_file.proofs.sets.DescriptorTexts.{beside}
use Rattle.jc_file.proofs.constants.breaks_f5.Goals as goal

pub returns-in-Some-clause-breaks : goal.returns-in-Some-clause-breaks
returns-in-Some-clause-breaks c =
    let name = utf8_at c.args.texts.now c.args.name in
    c.fails_beside.ensures.fails
    ∙ ap (λ t. fails_with c.in-Some.descriptor (utf8_at t c.args.name)) c.descriptor.ensures.same
    ∙ ap (passes (λ d. fails_with d name)) (sym c.in-Some.is ∙ c.descriptor.ensures.answer)
    ∙ sym (beside name (utf8_at c.args.texts.now c.args.descriptor))
