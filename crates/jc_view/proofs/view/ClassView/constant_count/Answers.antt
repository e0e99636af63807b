use Rattle.std.proofs.Common.{◌^◌, ◌<◌, length, arith, ap, rules}
use Rattle.jc_view.specs.ClassFile.{ClassFile, all_slots}
use Rattle.jc_view.specs.inside.ClassView.{class_shown}
use Rattle.jc_view.proofs.places.ConstantPlaces.{holds_count}
use Rattle.jc_view.proofs.view.ClassView.constant_count.Goals as goal

pub overflow_cast-result : goal.overflow_cast-result
overflow_cast-result c =
    let few = c.self.invariant.holds.fits.indexes in
    let items = ap length c.as_slice.ensures.value in
    let count : length c.as_slice.result.now < 2 ^ 16 = omega (arith, few, items, holds_count c.self.inside.bytes.now c.self.inside.offsets.items (class_shown c.self.inside) c.self.invariant.holds) in
    search rules

pub returns : goal.returns
returns c =
    let items = ap length c.as_slice.ensures.value in
    let same = ap (λ (k : ClassFile). all_slots k.constants) c.self.view_is in
    omega (arith, items, same, holds_count c.self.inside.bytes.now c.self.inside.offsets.items (class_shown c.self.inside) c.self.invariant.holds)
