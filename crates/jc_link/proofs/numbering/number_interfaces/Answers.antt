use Rattle.std.proofs.Common.{◌<◌, ◌∷◌, [], length, take, sym, subst, arith}
use Rattle.std.proofs.lemmas.List.{take_all, take_more}
use Rattle.jc_classes.specs.Numbers.{AddsNumbers, name_at}
use Rattle.jc_classes.proofs.numbering.NumberLemmas.{adds_none, adds_more}
use Rattle.jc_link.proofs.numbering.number_interfaces.Goals as goal

pub loop-number-init : goal.loop-number-init
loop-number-init c = adds_none c.args.numbers.now c.args.direct.now.items c.requires.once c.requires.direct

pub loop-number-preserved : goal.loop-number-preserved
loop-number-preserved c =
    let a = c.args.numbers.now in
    let b = c.loop-number.numbers in
    let d = c.number_into.new.self in
    let direct = c.args.direct.now.items in
    let names = c.args.facts.now.interfaces in
    let at = c.loop-number.number in
    let less : at < length names = omega (arith, c.loop-number-test.true, c.interface_count-number-end.ensures) in
    let step = subst (λ z. AddsNumbers b c.loop-number.direct.items d c.number_into.new.list.items (z ∷ [])) c.interface_name-name.ensures c.in_ok-number_into.ensures.adds in
    subst (AddsNumbers a direct d c.number_into.new.list.items) (sym (take_more names at [] less))
    (adds_more a b d direct c.loop-number.direct.items c.number_into.new.list.items (take at names) (name_at names at ∷ []) c.loop-number.invariant step)

pub returns : goal.returns
returns c =
    let names = c.args.facts.now.interfaces in
    subst (AddsNumbers c.args.numbers.now c.args.direct.now.items c.loop-number.numbers c.loop-number.direct.items)
    (take_all c.loop-number.number names (omega (arith, c.loop-number-test.false, c.interface_count-number-end.ensures))) c.loop-number.invariant
