use Rattle.std.proofs.Common.{ℕ, Option, option_and_then, ap, ◌∙◌}
use Rattle.jc_view.specs.ConstantPool.{class_name_index}
use Rattle.jc_view.proofs.places.ConstantPlaces.{read_at, found}
use Rattle.jc_view.proofs.constant_reader.class_name_index.Goals as goal

pub returns-in_err-place_at : goal.returns-in_err-place_at
returns-in_err-place_at c =
    λ k h. rw c.from_residual.ensures (ap (λ (place : Option ℕ). option_and_then class_name_index (read_at c.args.bytes.now place)) c.in_err-place_at.ensures ∙ ap (option_and_then class_name_index) (found c.args.bytes.now c.args.offsets.now k c.args.index h))

pub returns : goal.returns
returns c =
    λ k h. c.class_at.ensures ∙ ap (λ (place : Option ℕ). option_and_then class_name_index (read_at c.args.bytes.now place)) c.in_ok-place_at.ensures ∙ ap (option_and_then class_name_index) (found c.args.bytes.now c.args.offsets.now k c.args.index h)
