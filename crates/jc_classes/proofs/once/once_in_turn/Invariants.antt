use Rattle.std.proofs.Common.{◌≡◌, ◌<◌, length, map, take}
use Rattle.std.specs.List.{All}
use Rattle.jc_classes.specs.FactsOf.{once}
use Rattle.jc_classes.specs.inside.FactsShown.{text_at}
use Rattle.jc_classes.proofs.once.once_in_turn.Given as goal

abbrev pub invariant-loop-name : goal.invariant-loop-name
invariant-loop-name l = record {
  below : All (λ name. name < length l.texts) l.kept.items;
  firsts : map (text_at l.texts) l.kept.items ≡ once (map (text_at l.texts) (take l.name-index l.names));
}
