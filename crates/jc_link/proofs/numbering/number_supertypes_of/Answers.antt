use Rattle.jc_classes.specs.Worlds.{Stands as stands}
use Rattle.std.proofs.Common.{◌≡◌, ◌++◌, [], ap, subst}
use Rattle.std.specs.Option.{option_to_list, option_copied}
use Rattle.jc_classes.specs.Worlds.{supertypes_of}
use Rattle.jc_classes.specs.Numbers.{AddsNumbers}
use Rattle.jc_classes.proofs.numbering.NumberLemmas.{adds_more}
use Rattle.jc_link.proofs.numbering.number_supertypes_of.Goals as goal

pub returns : goal.returns
returns c =
    let a = c.args.numbers.now in
    let b = c.number_some.new.numbers in
    let d = c.number_interfaces.new.numbers in
    let supertypes = c.number_some.new.direct.items in
    let xs = option_to_list (option_copied c.superclass.result) in
    let ys = c.args.facts.now.interfaces in
    let first : AddsNumbers a [] b supertypes xs = subst (λ z. AddsNumbers a z b supertypes xs) c.in_ok-supertypes.ensures.items c.in_ok-number_some.ensures in
    let e : xs ++ ys ≡ supertypes_of (stands.Class c.args.facts.now) = ap (λ z. option_to_list z ++ ys) c.superclass.ensures in
    subst (λ z. AddsNumbers a [] d c.number_interfaces.new.direct.items z) e (adds_more a b d [] supertypes c.number_interfaces.new.direct.items xs ys first c.in_ok-number_interfaces.ensures)
