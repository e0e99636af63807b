-- Lists that are bytes, by a test.
use Rattle.std.proofs.Common.{◌≡◌, ℕ, zero, suc, true, ltb, List, [], ◌∷◌, arith}
use Rattle.std.specs.List.{list_all}
use Rattle.std.proofs.lemmas.Bool.{ltb-true}
use Rattle.jc_base.proofs.Common.{both_true}
use Rattle.jc_view.specs.Outcome.{AreBytes}

pub are_bytes : (b : List ℕ) → list_all (λ x. ltb x 256) b ≡ true → AreBytes b
are_bytes [] h i = omega arith
are_bytes (x ∷ b) h zero = ltb-true x 256 (both_true (ltb x 256) (list_all (λ y. ltb y 256) b) h).0
are_bytes (x ∷ b) h (suc i) = are_bytes b (both_true (ltb x 256) (list_all (λ y. ltb y 256) b) h).1 i
