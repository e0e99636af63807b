use Rattle.std.proofs.Common.{◌≡◌, ◌+◌, ◌≤◌, true, List, ℕ, Some, length}
use Rattle.jc_input.specs.Sources.{SourceAnswers}
use Rattle.jc_edits.specs.SessionState.{contents_of}
use Rattle.jc_session.proofs.runs.RunsSoFar.{IsSoFar}
use Rattle.jc_session.proofs.runs.ByAnswers.{IsSoFarByAnswers}
use Rattle.jc_session.proofs.line_session.run.Given as goal

abbrev pub invariant-loop-line : goal.invariant-loop-line
invariant-loop-line g l = record {
  so_far : (bytes : List ℕ) (s : SourceAnswers) → g.R.Input.remaining l.fn.input ≡ Some bytes → g.S.Source.answers l.fn.source ≡ Some s
      → IsSoFar (contents_of l.fn.session) s bytes l.ahead (g.R.Input.remaining l.input) (g.S.Source.answers l.source) (contents_of l.session) (g.W.Output.written l.fn.out) (g.W.Output.written l.out);
  by_answers : (bytes : List ℕ) → g.R.Input.remaining l.fn.input ≡ Some bytes
      → IsSoFarByAnswers (contents_of l.fn.session) bytes l.ahead (g.R.Input.remaining l.input) (contents_of l.session) (g.W.Output.written l.fn.out) (g.W.Output.written l.out);
  asks_rise : l.fn.session.asks ≤ l.session.asks;
  made_rise : l.fn.session.made ≤ l.session.made;
  ended : g.R.Input.ended l.fn.input ≡ true → l.input ≡ l.fn.input;
  reads : g.R.Input.failures l.input ≡ g.R.Input.failures l.fn.input;
  writes : g.W.Output.failures l.out ≡ g.W.Output.failures l.fn.out;
}

abbrev pub decreases-loop-line : goal.decreases-loop-line
decreases-loop-line g l = g.R.Input.bound l.input + length l.ahead
