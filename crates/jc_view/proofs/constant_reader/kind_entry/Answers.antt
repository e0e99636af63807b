use Rattle.std.proofs.Common.{ap, ◌∙◌}
use Rattle.jc_view.proofs.places.ConstantPlaces.{kind_read_at, kind_found}
use Rattle.jc_view.proofs.constant_reader.kind_entry.Goals as goal

pub returns-in_err-place_at : goal.returns-in_err-place_at
returns-in_err-place_at c =
    λ k h. rw c.from_residual.ensures (ap (kind_read_at c.args.bytes.now) c.in_err-place_at.ensures ∙ kind_found c.args.bytes.now c.args.offsets.now k c.args.index h)

pub returns : goal.returns
returns c =
    λ k h. c.kind_at.ensures ∙ ap (kind_read_at c.args.bytes.now) c.in_ok-place_at.ensures ∙ kind_found c.args.bytes.now c.args.offsets.now k c.args.index h
