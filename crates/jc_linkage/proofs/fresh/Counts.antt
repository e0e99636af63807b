-- What making parts counts.
use Rattle.std.proofs.Common.{◌≡◌, ℕ, ◌+◌, ◌<◌, ◌^◌, List, length, arith}
use Rattle.std.specs.declared.vec.Vec.{Vec}
use Rattle.std.specs.declared.alloc.Global.{Global}
use Rattle.jc_classes.specs.Names.{names_of}
use Rattle.jc_link.specs.Meters.{counted}
use Rattle.std.proofs.lemmas.List.{length-map}

pub counted_add : (a k j : ℕ) → counted (counted a k) j ≡ counted a (k + j)
counted_add a k j = omega arith

pub counted_none : (a : ℕ) → a < 2 ^ 64 → a ≡ counted a 0
counted_none a h = omega arith

pub names_length : (vs : List (Vec ℕ Global)) → length (names_of vs) ≡ length vs
names_length vs = length-map vs (λ (v : Vec ℕ Global). v.items)
