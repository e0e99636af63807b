use Rattle.std.proofs.Common.{◌∙◌, sym, ap, true≢false, arith}
use Rattle.jc_input.proofs.cutting.LinesCut.{reading_stops, reading_moves, reading_reads, reading_ends, reading_fails, reading_finds, longer_by, no_feed}
use Rattle.jc_input.proofs.lines.read_line.Goals as goal

pub returns-in-Ok-eq0-clause-takes : goal.returns-in-Ok-eq0-clause-takes
returns-in-Ok-eq0-clause-takes g c =
    let moved = reading_moves _ _ _ _ _ c.loop-input.invariant.reading c.loop-input-test.ensures.found c.take_front.ensures.line in
    let read = reading_reads _ _ _ _ _ moved c.in-Ok-eq0.ensures.bytes in
    reading_ends _ _ _ _ read (omega (arith, c.in-Ok-eq0.ensures.count, c.in-Ok-eq0.field-0-test)) (c.in-Ok-eq0.ensures.end c.in-Ok-eq0.field-0-test)

pub loop-input-preserved : goal.loop-input-preserved
loop-input-preserved g c =
    let at = c.loop-input.invariant in
    let moved = reading_moves _ _ _ _ _ at.reading c.loop-input-test.ensures.found c.take_front.ensures.line in
    record {
      reading = reading_reads _ _ _ _ _ moved c.in-Ok.ensures.bytes;
      spent = omega (arith, at.spent, c.in-Ok.ensures.bound, c.in-Ok.ensures.count, longer_by c.loop-input.line c.loop-input.ahead c.take_front.new.line c.take_front.ensures.line);
      ahead = λ there. absurd (no_feed c.args.ahead.now c.loop-input.ahead (at.ahead there).0 there c.loop-input-test.ensures.found);
      ended = λ h. let same = at.ended h in let open_yet = c.if-has_ended.ensures in absurd (true≢false (sym h ∙ ap g.R.Input.ended (sym same) ∙ sym open_yet));
      failures = c.in-Ok.ensures.failures ∙ at.failures;
    }

pub returns-in-Err-clause-loses : goal.returns-in-Err-clause-loses
returns-in-Err-clause-loses g c =
    let moved = reading_moves _ _ _ _ _ c.loop-input.invariant.reading c.loop-input-test.ensures.found c.take_front.ensures.line in
    reading_fails _ _ _ _ moved c.in-Err.ensures.kept

pub returns-clause-takes : goal.returns-clause-takes
returns-clause-takes g c =
    reading_finds _ _ _ _ _ _ c.loop-input.invariant.reading c.loop-input-test.ensures.found c.take_front.ensures.line c.take_front.ensures.rest

pub returns-then-has_ended-clause-takes : goal.returns-then-has_ended-clause-takes
returns-then-has_ended-clause-takes g c =
    let at_end = g.met.R.Input.ended_at_end c.loop-input.input (sym c.if-has_ended.ensures) in
    reading_stops _ _ _ _ _ _ c.loop-input.invariant.reading c.loop-input-test.ensures.found c.take_front.ensures.line c.take_front.ensures.rest at_end
