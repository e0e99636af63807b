use Rattle.std.proofs.Common.{◌+◌, ◌-◌, ◌/◌, ◌<◌, ◌≤◌, ℕ, length, List, arith, subst}
use Rattle.std.proofs.lemmas.List.{length-map}
use Rattle.std.specs.declared.cmp.Ordering.TheVariants.{Less, Equal, Greater}
use Rattle.std.specs.declared.vec.Vec.{Vec}
use Rattle.std.specs.declared.alloc.Global.{Global}
use Rattle.jc_classes.specs.Names.{Name, names_of}
use Rattle.jc_index.specs.inside.Places.{StandsAt}
use Rattle.jc_index.proofs.lists.Searching.{narrowed_up, narrowed_down, found_here, held_at}
use Rattle.jc_index.proofs.name_list.NameList.place.Goals as goal

pub loop-low-preserved-in-Less : goal.loop-low-preserved-in-Less
loop-low-preserved-in-Less c =
    let middle = c.loop-low.low + (c.loop-low.high - c.loop-low.low) / 2 in
    let names = c.self.inside.names.items in
    let less : middle < c.loop-low.high = omega (arith, c.loop-low-test.true) in
    let within : middle < length names = omega (arith, c.loop-low.invariant.fits, length-map names (λ (v : Vec ℕ Global). v.items)) in
    narrowed_up (names_of names) c.args.name.now c.loop-low.low c.loop-low.high middle c.self.invariant c.loop-low.invariant less
    (held_at names middle c.index.result.now c.as_slice.result.now c.args.name.now Less within c.index.ensures c.as_slice.ensures.value c.in-Less.ensures)

pub returns-in-Equal-clause-found : goal.returns-in-Equal-clause-found
returns-in-Equal-clause-found c =
    let middle = c.loop-low.low + (c.loop-low.high - c.loop-low.low) / 2 in
    let names = c.self.inside.names.items in
    let name = c.args.name.now in
    let within : middle < length names = omega (arith, c.loop-low-test.true, c.loop-low.invariant.fits, length-map names (λ (v : Vec ℕ Global). v.items)) in
    subst (λ (ns : List Name). StandsAt ns name middle) c.self.view_is
    (found_here (names_of names) name middle (omega (arith, within, length-map names (λ (v : Vec ℕ Global). v.items)))
    (held_at names middle c.index.result.now c.as_slice.result.now name Equal within c.index.ensures c.as_slice.ensures.value c.in-Equal.ensures))

pub loop-low-preserved : goal.loop-low-preserved
loop-low-preserved c =
    let middle = c.loop-low.low + (c.loop-low.high - c.loop-low.low) / 2 in
    let names = c.self.inside.names.items in
    let less : middle < c.loop-low.high = omega (arith, c.loop-low-test.true) in
    let least : c.loop-low.low ≤ middle = omega arith in
    let within : middle < length names = omega (arith, c.loop-low.invariant.fits, length-map names (λ (v : Vec ℕ Global). v.items)) in
    narrowed_down (names_of names) c.args.name.now c.loop-low.low c.loop-low.high middle c.self.invariant c.loop-low.invariant least less
    (held_at names middle c.index.result.now c.as_slice.result.now c.args.name.now Greater within c.index.ensures c.as_slice.ensures.value c.in-Greater.ensures)
