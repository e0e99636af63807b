use Rattle.std.proofs.Common.{◌≡◌, ◌<◌, ℕ, IfSome, Some, length}
use Rattle.std.specs.List.{slice_get}
use Rattle.jc_resolve.specs.inside.Answered.{IsAnswered, IsAnsweredBefore}
use Rattle.jc_resolve.specs.inside.Rooms.{IsRoom}
use Rattle.jc_resolve.proofs.all_answers.answer_each.Given as goal

abbrev pub invariant-loop-number : goal.invariant-loop-number
invariant-loop-number l = record {
  room : IsRoom l.look.classes.now l.room;
  size : length l.entries.items ≡ length l.facts.references;
  before : IfSome l.before (IsAnsweredBefore l.look l.facts.references l.entries.items);
  answered : (i n : ℕ) → i < l.number-index → slice_get l.number-items i ≡ Some n → IsAnswered l.look l.facts.references l.entries.items n;
}
