use Rattle.std.proofs.Common.{[], ◌∷◌, Some}
use Rattle.std.proofs.lemmas.Bool.Decides.{Decides-eqb}
use Rattle.std.proofs.lemmas.Slice.Eq.{strip_prefix_is, strip_suffix_is}
use Rattle.std.proofs.Common.{Some}
use Rattle.jc_base.proofs.types.FieldsInFront.{name_between}
use Rattle.jc_base.proofs.descriptors.name_within.Goals as goal

pub returns : goal.returns
returns c =
    let rest = c.in_ok-strip_prefix.field-0 in
    name_between c.args.text.now rest.now c.strip_suffix.result
    (strip_prefix_is Decides-eqb c.args.text.now (76 ∷ []) (Some rest) c.in_ok-strip_prefix.ensures.cases)
    (strip_suffix_is Decides-eqb rest.now (59 ∷ []) c.strip_suffix.result c.strip_suffix.ensures.cases)
