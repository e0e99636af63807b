use Rattle.std.proofs.Common.{ℕ, ◌∙◌, ◌∷◌, [], List, ap, length, nat_lt, if◌then◌else◌}
use Rattle.jc_base.specs.Endian.{big_number}
use Rattle.jc_file.proofs.kinds.AttributesOfKind.{told_is}
use Rattle.jc_file.proofs.bootstraps.declared_methods.Goals as goal

pub returns-in_default : goal.returns-in_default
returns-in_default c = told_is c.args.class.now c.attributes-attributes.result [] c.attributes-attributes.ensures.left c.in_default.ensures.1

pub returns-in-Some-next_of_kind : goal.returns-in-Some-next_of_kind
returns-in-Some-next_of_kind c =
    told_is c.args.class.now c.attributes-attributes.result _ c.attributes-attributes.ensures.left
    (c.in-Some.ensures.1.0 ∙ ap (λ r. c.in-Some.only.attribute ∷ r) c.in-Some-next_of_kind.ensures.1.0)

pub returns-in-None : goal.returns-in-None
returns-in-None c =
    c.declared_count.ensures
    ∙ ap (λ (b : List ℕ). if nat_lt (length b) 2 then 0 else big_number 2 b) c.bytes.ensures
    ∙ told_is c.args.class.now c.attributes-attributes.result _ c.attributes-attributes.ensures.left
    (c.in-Some.ensures.1.0 ∙ ap (λ r. c.in-Some.only.attribute ∷ r) c.in-None.ensures.1)
