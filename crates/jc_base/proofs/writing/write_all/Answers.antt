use Rattle.std.proofs.lemmas.Grind.{common_steps}
use Rattle.std.proofs.Common.{◌∙◌, take-add, length-drop, arith}
use Rattle.std.proofs.lemmas.List.{take_rest}
use Rattle.std.proofs.KnownBytes.{Appends-trans}
use Rattle.jc_base.proofs.writing.write_all.Goals as goal

pub loop-at-preserved : goal.loop-at-preserved
loop-at-preserved g c =
    let so_far = c.loop-at.invariant in
    let all = c.args.bytes.now in
    let at = c.loop-at.at in
    let room = rw (take_rest all at) at c.in_ok-at.ensures.room in
    let more = rw (take_rest all at) at c.in_ok-at.ensures.bytes in
    record {
      within = omega (arith, so_far.within, room, length-drop at all);
      so_far = rw (take-add at c.in_ok-at.field-0 all) (Appends-trans _ _ _ _ _ so_far.so_far more);
      failures = c.in_ok-at.ensures.failures ∙ so_far.failures;
    }

pub returns-clause-ok : goal.returns-clause-ok
returns-clause-ok c = grind (arith, common_steps)
