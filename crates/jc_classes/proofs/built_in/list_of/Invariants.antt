use Rattle.std.proofs.Common.{◌≡◌, ℕ, List, map, take, Bor}
use Rattle.jc_classes.proofs.built_in.list_of.Given as goal

abbrev pub invariant-loop-text : goal.invariant-loop-text
invariant-loop-text l = l.list ≡ map (λ (text : Bor (List ℕ)). text.now) (take l.text-index l.texts)
