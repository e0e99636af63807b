use Rattle.std.proofs.Common.{◌<◌, length, take}
use Rattle.std.specs.List.{All}
use Rattle.jc_classes.proofs.texts.FirstNames.{HaveMet}
use Rattle.jc_classes.proofs.once.once_by_ranks.Given as goal

abbrev pub invariant-loop-name : goal.invariant-loop-name
invariant-loop-name l = record {
  below : All (λ name. name < length l.ranks) l.kept.items;
  met : HaveMet l.ranks (take l.name-index l.names) l.seen.items l.kept.items;
}
