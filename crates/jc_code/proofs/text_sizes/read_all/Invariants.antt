use Rattle.std.proofs.Common.{◌≡◌}
use Rattle.jc_code.specs.inside.TextSizes.{AreSizesBefore}
use Rattle.jc_code.proofs.text_sizes.read_all.Given as goal

-- the sizes so far are those before the index
abbrev pub invariant-loop-index : goal.invariant-loop-index
invariant-loop-index l = record {
  class : l.known ≡ l.class;
  sizes : AreSizesBefore l.class l.index l.sizes;
}
