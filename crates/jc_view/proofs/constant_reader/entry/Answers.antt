use Rattle.std.proofs.Common.{ap, ◌∙◌}
use Rattle.jc_view.proofs.places.ConstantPlaces.{read_at, found}
use Rattle.jc_view.proofs.constant_reader.entry.Goals as goal

pub returns-in_err-place_at : goal.returns-in_err-place_at
returns-in_err-place_at c =
    λ k h. rw c.from_residual.ensures (ap (read_at c.args.bytes.now) c.in_err-place_at.ensures ∙ found c.args.bytes.now c.args.offsets.now k c.args.index h)

pub returns : goal.returns
returns c =
    λ k h. c.constant_at.ensures ∙ ap (read_at c.args.bytes.now) c.in_ok-place_at.ensures ∙ found c.args.bytes.now c.args.offsets.now k c.args.index h
