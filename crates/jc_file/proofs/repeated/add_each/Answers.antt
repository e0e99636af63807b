use Rattle.std.proofs.Common.{◌∙◌, ap}
use Rattle.jc_file.proofs.keys.MembersPassed.{passed_none, passed_more}
use Rattle.jc_file.proofs.repeated.add_each.Goals as goal

pub loop-place-init : goal.loop-place-init
loop-place-init c =
    let given = c.into_iter-place-iterator.ensures.into_iter_gives in
    passed_none c.args.members c.args.rule c.args.texts.now _ c.into_iter-place-iterator.result.count c.into_iter-place-iterator.result.iter c.args.faults.now.items
    c.requires.numbers c.requires.none (ap (λ i. i.count) given ∙ c.enumerate-place-items.ensures.count) (ap (λ i. i.iter) given ∙ c.enumerate-place-items.ensures.source)

pub loop-place-preserved : goal.loop-place-preserved
loop-place-preserved c =
    passed_more c.args.members.class c.args.rule _ c.loop-place.texts c.numbered_key.new.texts c.loop-place.seen.keys c.note.new.seen.keys c.loop-place.place-iterator.count c.next.new.self.count c.in-Some.place c.in_ok-is_repeated.is_repeated c.in_ok-numbered_key.field-0
    c.loop-place.place-iterator.iter c.next.new.self.iter c.in-Some.member c.loop-place.faults.items c.add_if.new.faults.items
    c.loop-place.invariant c.in-Some.ensures.steps.0 c.in-Some.ensures.steps.1 c.in-Some.ensures.steps.2
    c.in_ok-numbered_key.ensures.sound c.in_ok-numbered_key.ensures.keeps c.in_ok-numbered_key.ensures.ok
    c.in_ok-is_repeated.ensures.was c.in_ok-is_repeated.ensures.ok c.in_ok-add_if.ensures
