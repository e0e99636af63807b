use Rattle.std.proofs.Common.{◌≡◌, map, take}
use Rattle.jc_session.proofs.words.given_prefixes.Given as goal

abbrev pub invariant-loop-prefix : goal.invariant-loop-prefix
invariant-loop-prefix l = map (λ p. p.now) l.texts.items ≡ map (λ p. p.now) (take l.prefix-index l.prefixes)
