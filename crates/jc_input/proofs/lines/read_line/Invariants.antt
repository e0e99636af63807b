use Rattle.std.proofs.Common.{◌≡◌, ◌+◌, ◌≤◌, true, IsSome, length, position}
use Rattle.jc_input.specs.LineReading.{bytes_left, is_line_feed}
use Rattle.jc_input.proofs.cutting.LinesCut.{IsReading}
use Rattle.jc_input.proofs.lines.read_line.Given as goal

abbrev pub invariant-loop-input : goal.invariant-loop-input
invariant-loop-input g l = record {
  reading : IsReading (bytes_left l.fn.ahead (g.R.Input.remaining l.fn.input)) l.line l.ahead (g.R.Input.remaining l.input);
  spent : g.R.Input.bound l.input + (length l.ahead + length l.line) ≤ g.R.Input.bound l.fn.input + length l.fn.ahead;
  ahead : IsSome (position is_line_feed l.fn.ahead) → (l.ahead ≡ l.fn.ahead) × (l.input ≡ l.fn.input);
  ended : g.R.Input.ended l.fn.input ≡ true → l.input ≡ l.fn.input;
  failures : g.R.Input.failures l.input ≡ g.R.Input.failures l.fn.input;
}

abbrev pub decreases-loop-input : goal.decreases-loop-input
decreases-loop-input g l = g.R.Input.bound l.input
