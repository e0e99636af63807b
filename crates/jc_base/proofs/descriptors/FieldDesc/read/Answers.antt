use Rattle.std.proofs.Common.{refl, sym, ◌∙◌, arith, rules}
use Rattle.std.proofs.lemmas.Bool.{false≢true}
use Rattle.jc_base.proofs.types.FieldsInFront.{parts_of}
use Rattle.jc_base.specs.Descriptors.{IsField}
use Rattle.jc_base.proofs.types.TestsDecide.{same_read, field_decides}
use Rattle.jc_base.proofs.descriptors.FieldDesc.read.Goals as goal

pub returns-then-dims-gt-MOST_DIMS-clause-some : goal.returns-then-dims-gt-MOST_DIMS-clause-some
returns-then-dims-gt-MOST_DIMS-clause-some c = (
  λ none. absurd (false≢true none),
  λ field.
      let parts = parts_of c.args.text.now c.split_dims-dims.result.0 c.split_dims-dims.result.1.now c.split_dims-dims.ensures.text c.split_dims-dims.ensures.all field in
      absurd (omega (arith, parts.0)),
)

pub returns-then-is_element-clause-some : goal.returns-then-is_element-clause-some
returns-then-is_element-clause-some c = (
  λ _. (record { dims = c.split_dims-dims.result.0; element = c.split_dims-dims.result.1.now }, record { few = c.if-dims-gt-MOST_DIMS.false; element = c.is_element.ensures.0 c.if-is_element.true; text = c.split_dims-dims.ensures.text }),
  λ _. refl,
)

pub returns-else-is_element-clause-some : goal.returns-else-is_element-clause-some
returns-else-is_element-clause-some c = (
  λ none. absurd (false≢true none),
  λ field.
      let parts = parts_of c.args.text.now c.split_dims-dims.result.0 c.split_dims-dims.result.1.now c.split_dims-dims.ensures.text c.split_dims-dims.ensures.all field in
      absurd (false≢true (sym c.if-is_element.false ∙ c.is_element.ensures.1 parts.1)),
)

pub returns-then-dims-gt-MOST_DIMS-clause-computed : goal.returns-then-dims-gt-MOST_DIMS-clause-computed
returns-then-dims-gt-MOST_DIMS-clause-computed c = same_read (IsField c.args.text.now) _ _ (returns-then-dims-gt-MOST_DIMS-clause-some c) tt (field_decides c.args.text.now)

pub returns-then-is_element-clause-computed : goal.returns-then-is_element-clause-computed
returns-then-is_element-clause-computed c = same_read (IsField c.args.text.now) _ _ (returns-then-is_element-clause-some c) (search rules) (field_decides c.args.text.now)

pub returns-else-is_element-clause-computed : goal.returns-else-is_element-clause-computed
returns-else-is_element-clause-computed c = same_read (IsField c.args.text.now) _ _ (returns-else-is_element-clause-some c) tt (field_decides c.args.text.now)

pub returns-then-is_element-clause-tree : goal.returns-then-is_element-clause-tree
returns-then-is_element-clause-tree c = search rules
