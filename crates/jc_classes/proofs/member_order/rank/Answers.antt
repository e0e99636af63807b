use Rattle.std.proofs.Common.{Bor, List, ℕ, rules}
use Rattle.std.proofs.lemmas.List.Sorted.{IsPartitionPoint-from_clause}
use Rattle.jc_classes.specs.Names.{name_less}
use Rattle.jc_classes.proofs.members.Ranking.{rank_of, texts_parted}
use Rattle.jc_classes.proofs.member_order.rank.Goals as goal

pub returns : goal.returns
returns c =
    let sorted = c.args.sorted.now in
    let text = c.args.text.now in
    rank_of sorted c.requires text c.partition_point.result c.partition_point.ensures.bound
    (IsPartitionPoint-from_clause (λ (y : Bor (List ℕ)). name_less y.now text) sorted c.partition_point.result c.partition_point.ensures.partitioned (texts_parted sorted c.requires text) (λ a r k q. search rules))
