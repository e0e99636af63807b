use Rattle.std.proofs.Common.{◌≡◌, ◌+◌, None, subst, sym, arith}
use Rattle.jc_view.specs.ClassFile.{all_slots}
use Rattle.jc_code.specs.inside.TextSizes.{AreSizesBefore, dimensions_in, interface_slots}
use Rattle.jc_code.proofs.sizes.FilledLists.{all_filled, empty_fills}
use Rattle.jc_code.proofs.sizes.SizesAt.{past_dims, past_slots}
use Rattle.jc_code.proofs.text_sizes.read_all.Goals as goal

pub loop-index-init : goal.loop-index-init
loop-index-init c =
    let class = c.args.class.now in
    record {
      class = c.new-known.ensures;
      sizes = record {
        dims = empty_fills 0 (dimensions_in class) _ c.requires.dims;
        slots = empty_fills None (interface_slots class) _ c.requires.slots;
      };
    }

pub read_at-requires : goal.read_at-requires
read_at-requires c = subst (λ k. AreSizesBefore k c.loop-index.index c.loop-index.sizes) (sym c.loop-index.invariant.class) c.loop-index.invariant.sizes

pub returns : goal.returns
returns c =
    let class = c.args.class.now in
    let index = c.loop-index.index in
    let before = c.loop-index.invariant.sizes in
    let all : index ≡ 1 + all_slots class.constants = omega (arith, c.loop-index-test.false, c.loop-index.auto.index-end, c.constant_count-index-end.ensures) in
    record {
      dims = all_filled 0 (dimensions_in class) index _ before.dims (λ i le. past_dims class i (omega (arith, le, all)));
      slots = all_filled None (interface_slots class) index _ before.slots (λ i le. past_slots class i (omega (arith, le, all)));
    }
