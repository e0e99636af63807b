use Rattle.std.proofs.Common.{◌≡◌, ◌+◌, ◌-◌, ◌/◌, ◌<◌, ◌≤◌, length, sym, ap, subst, ◌∙◌, arith}
use Rattle.std.specs.declared.cmp.Ordering.TheVariants.{Less, Equal, Greater}
use Rattle.jc_classes.specs.NameLists.{has}
use Rattle.jc_classes.specs.Names.{name_cmp}
use Rattle.jc_classes.specs.Numbers.{name_at}
use Rattle.jc_index.specs.inside.Places.{IsNarrowed}
use Rattle.jc_index.proofs.lists.Edited.{gap_lacks, stands_has}
use Rattle.jc_index.proofs.lists.Searching.{narrowed_up, narrowed_down, found_here}
use Rattle.jc_index.proofs.packed_names.PackedNames.find.Goals as goal

pub loop-low-preserved-in-Less : goal.loop-low-preserved-in-Less
loop-low-preserved-in-Less c =
    let middle = c.loop-low.low + (c.loop-low.high - c.loop-low.low) / 2 in
    let names = c.self.inside.names in
    let name = c.args.name.now in
    let less : middle < c.loop-low.high = omega (arith, c.loop-low-test.true) in
    let here : name_cmp (name_at names middle) name ≡ Less = ap (λ z. name_cmp z name) (sym c.text.ensures) ∙ sym c.in-Less.ensures in
    narrowed_up names name c.loop-low.low c.loop-low.high middle c.self.invariant c.loop-low.invariant less here

pub returns-in-Equal : goal.returns-in-Equal
returns-in-Equal c =
    let middle = c.loop-low.low + (c.loop-low.high - c.loop-low.low) / 2 in
    let names = c.self.inside.names in
    let name = c.args.name.now in
    let within : middle < length names = omega (arith, c.loop-low-test.true, c.loop-low.invariant.fits) in
    let here : name_cmp (name_at names middle) name ≡ Equal = ap (λ z. name_cmp z name) (sym c.text.ensures) ∙ sym c.in-Equal.ensures in
    sym (stands_has names name middle (found_here names name middle within here)) ∙ ap (λ l. has l name) c.self.view_is

pub loop-low-preserved : goal.loop-low-preserved
loop-low-preserved c =
    let middle = c.loop-low.low + (c.loop-low.high - c.loop-low.low) / 2 in
    let names = c.self.inside.names in
    let name = c.args.name.now in
    let less : middle < c.loop-low.high = omega (arith, c.loop-low-test.true) in
    let least : c.loop-low.low ≤ middle = omega arith in
    let here : name_cmp (name_at names middle) name ≡ Greater = ap (λ z. name_cmp z name) (sym c.text.ensures) ∙ sym c.in-Greater.ensures in
    narrowed_down names name c.loop-low.low c.loop-low.high middle c.self.invariant c.loop-low.invariant least less here

pub returns : goal.returns
returns c =
    let names = c.self.inside.names in
    let name = c.args.name.now in
    let met : c.loop-low.high ≡ c.loop-low.low = omega (arith, c.loop-low-test.false, c.loop-low.invariant.ordered) in
    sym (gap_lacks names name c.loop-low.low (subst (IsNarrowed names name c.loop-low.low) met c.loop-low.invariant)) ∙ ap (λ l. has l name) c.self.view_is
