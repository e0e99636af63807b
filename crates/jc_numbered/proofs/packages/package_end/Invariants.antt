use Rattle.std.proofs.Common.{◌≡◌, ◌≤◌, length}
use Rattle.jc_classes.specs.Names.{package_to}
use Rattle.jc_numbered.proofs.packages.package_end.Given as goal

abbrev pub invariant-loop-end : goal.invariant-loop-end
invariant-loop-end l = record {
  within : l.end ≤ length l.name;
  same : package_to l.name l.end ≡ package_to l.name (length l.name);
}

abbrev pub decreases-loop-end : goal.decreases-loop-end
decreases-loop-end l = l.end
