use Rattle.std.proofs.Common.{◌≡◌, ◌<◌, ℕ, zero, suc, true, [], eqb, refl, arith}
use Rattle.std.proofs.lemmas.Bool.{agree_below_at, eqb-true}
use Rattle.std.specs.Prelude.{slice_index_or}
use Rattle.jc_base.specs.declared.names.TheConstants.{PLACES}
use Rattle.jc_base.specs.inside.PlainNames.{place_behind}
use Rattle.jc_base.proofs.names.place_behind.Goals as goal

by_place : (place byte : ℕ) → place < 3 → byte < 256 → slice_index_or (slice_index_or PLACES place []) byte 0 ≡ place_behind place byte
by_place zero byte p b = eqb-true _ _ (agree_below_at (λ x. eqb (slice_index_or (slice_index_or PLACES 0 []) x 0) (place_behind 0 x)) (λ _. true) 256 byte refl b)
by_place (suc zero) byte p b = eqb-true _ _ (agree_below_at (λ x. eqb (slice_index_or (slice_index_or PLACES 1 []) x 0) (place_behind 1 x)) (λ _. true) 256 byte refl b)
by_place (suc (suc zero)) byte p b = eqb-true _ _ (agree_below_at (λ x. eqb (slice_index_or (slice_index_or PLACES 2 []) x 0) (place_behind 2 x)) (λ _. true) 256 byte refl b)
by_place (suc (suc (suc place))) byte p b = absurd (omega (arith, p))

pub returns : goal.returns
returns c = by_place c.args.place c.args.byte c.requires c.ranges.byte.fits
