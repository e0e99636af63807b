use Rattle.std.proofs.Common.{◌≡◌, ◌+◌, length, sym, ap, subst, ◌∙◌, arith}
use Rattle.std.proofs.lemmas.List.{length-append}
use Rattle.jc_classes.proofs.texts.NamedBefore.{AreNoted, none_noted, one_noted}
use Rattle.jc_classes.proofs.named_before.before_each.Goals as goal

pub loop-number-init : goal.loop-number-init
loop-number-init c =
    let e = c.in_ok-before.ensures.items in
    record { size = ap length e; named = subst (AreNoted c.args.entries.now) (sym e) (none_noted c.args.entries.now) }

pub loop-number-preserved : goal.loop-number-preserved
loop-number-preserved c =
    let old = c.loop-number.before.items in
    let e = c.in_ok-push.ensures.items in
    let s = c.loop-number.invariant.size in
    record {
      size = let l : length c.push.new.self.items ≡ length old + 1 = ap length e ∙ length-append old _ in omega (arith, l, s);
      named = one_noted c.args.entries.now old c.push.new.self.items c.note_class.result c.loop-number.number c.loop-number.invariant.named s e c.note_class.ensures;
    }

pub returns-clause-size : goal.returns-clause-size
returns-clause-size c = omega (arith, c.loop-number.invariant.size, c.loop-number-test.false, c.loop-number.auto.number-end)

pub returns-clause-named : goal.returns-clause-named
returns-clause-named c = c.loop-number.invariant.named
