use Rattle.std.proofs.Common.{◌∙◌, ap, sym}
use Rattle.std.specs.List.{list_any}
use Rattle.jc_file.specs.Faults.{same_key}
use Rattle.jc_file.specs.inside.Repeated.{key_now}
use Rattle.jc_file.proofs.sets.KeysApart.{none_passed, one_passed}
use Rattle.jc_file.proofs.repeats.are_few_and_apart.Goals as goal

pub loop-member-init : goal.loop-member-init
loop-member-init c = none_passed c.args.members c.new-keys.result.items c.into_iter-member-iterator.result c.new-keys.ensures.items c.into_iter-member-iterator.ensures.into_iter_gives

pub loop-member-preserved : goal.loop-member-preserved
loop-member-preserved c =
    let key = c.in-Some-short_key.key in
    one_passed c.args.members c.loop-member.member-iterator c.next.new.self c.in-Some.member key c.loop-member.keys.items c.push.new.self.items c.in-Some.ensures.steps
    c.in-Some-short_key.ensures
    (ap (list_any (λ earlier. same_key (key_now key) (key_now earlier))) (sym c.deref.ensures.value) ∙ sym c.has_key.ensures ∙ c.if-not-has_key.true)
    c.in_ok-push-in-Some-short_key.ensures.items c.loop-member.invariant
