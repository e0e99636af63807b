use Rattle.std.proofs.Common.{◌≡◌, ℕ, ◌<◌, length, slice_index}
use Rattle.jc_classes.specs.inside.FactsShown.{text_at}
use Rattle.jc_classes.specs.inside.Ranks.{IsRank, texts_lent}
use Rattle.jc_classes.proofs.member_order.rank_texts.Given as goal

abbrev pub invariant-loop-number : goal.invariant-loop-number
invariant-loop-number l = record {
  size : length l.ranks.items ≡ l.number;
  ranks : (at : ℕ) → at < l.number → IsRank (texts_lent l.sorted.items) (text_at l.texts at) (slice_index l.ranks.items at);
}
