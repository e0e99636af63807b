use Rattle.std.proofs.Common.{◌≡◌, map, take}
use Rattle.jc_resolve.specs.inside.Loading.{is_good}
use Rattle.jc_resolve.proofs.all_loads.good_all.Given as goal

abbrev pub invariant-loop-load : goal.invariant-loop-load
invariant-loop-load l = l.good.items ≡ map is_good (take l.load-index l.loads)
