use Rattle.std.proofs.Common.{get_or, sym, ap, subst}
use Rattle.std.specs.List.{Contains}
use Rattle.jc_base.specs.Descriptors.{base_types}
use Rattle.jc_base.proofs.types.FieldsInFront.{single}
use Rattle.jc_base.proofs.descriptors.is_base_type.Goals as goal

pub returns-then-text-eq1 : goal.returns-then-text-eq1
returns-then-text-eq1 c = (
  λ yes. (get_or c.args.text.now 0 0, c.is_base_letter.ensures.base.0 yes, single c.args.text.now c.if-text-eq1.true),
  λ (letter, has, is). c.is_base_letter.ensures.base.1 (subst (Contains base_types) (sym (ap (λ b. get_or b 0 0) is)) has),
)
