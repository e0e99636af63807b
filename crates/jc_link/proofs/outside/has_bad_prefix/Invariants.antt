use Rattle.std.proofs.Common.{◌≡◌, drop, map}
use Rattle.std.specs.List.{list_any}
use Rattle.jc_link.specs.Prefixes.{is_bad_prefix}
use Rattle.jc_link.proofs.outside.has_bad_prefix.Given as goal

abbrev pub invariant-loop-prefix : goal.invariant-loop-prefix
invariant-loop-prefix l = list_any is_bad_prefix (map (λ p. p.now) (drop l.prefix-index l.prefixes)) ≡ list_any is_bad_prefix (map (λ p. p.now) l.prefixes)
