use Rattle.std.proofs.Common.{refl}
use Rattle.jc_resolve.proofs.unimplemented.Search.finish.Goals as goal

pub invariant_of-result : goal.invariant_of-result
invariant_of-result c = λ n i h k. c.requires n i h ((c.sort_all.ensures n).sound i k)

pub returns : goal.returns
returns c = (c.sort_all.new.lists.items, c.sort_all.ensures, refl)
