use Rattle.std.proofs.Common.{◌∙◌, None, ap, sym}
use Rattle.std.specs.Option.{option_copied}
use Rattle.std.proofs.lemmas.Result.{on_ok_weaker}
use Rattle.jc_view.specs.declared.constant_pool.ConstantKind.TheVariants as kinds
use Rattle.jc_view.specs.Lookups.{is_entry, utf8_at}
use Rattle.jc_code.specs.inside.TextSizes.{at_index, dimensions_in, interface_slots}
use Rattle.jc_code.proofs.sizes.FilledLists.{none_more}
use Rattle.jc_code.proofs.sizes.SizesAt.{dims_none, dims_text, slots_none, slots_text}
use Rattle.jc_code.proofs.text_sizes.read_at.Goals as goal

pub returns-in-Some-clause-sizes : goal.returns-in-Some-clause-sizes
returns-in-Some-clause-sizes c =
    let class = c.args.known.now in
    let index = c.args.index in
    let is = ap option_copied (sym c.in-Some.is) ∙ c.utf8-2.ensures ∙ ap (λ k. utf8_at k (at_index index)) c.class-class.ensures in
    on_ok_weaker c.add_dimensions.result (λ dims. record {
      dims = dims;
      slots = none_more None (interface_slots class) index c.args.sizes.now.slots.items c.requires.slots (slots_text class index c.in-Some.text.now is);
    }) (c.add_dimensions.ensures (dimensions_in class) c.requires.dims (dims_text class index c.in-Some.text.now is))

pub returns-else-is_entry-clause-sizes : goal.returns-else-is_entry-clause-sizes
returns-else-is_entry-clause-sizes c =
    let class = c.args.known.now in
    let index = c.args.index in
    let none = ap option_copied (sym c.in_default.is) ∙ c.utf8-2.ensures ∙ ap (λ k. utf8_at k (at_index index)) c.class-class.ensures in
    let other = ap (λ k. is_entry k kinds.InterfaceMethodref (at_index index)) (sym c.class-class.ensures) ∙ sym c.is_entry.ensures ∙ c.if-is_entry.false in
    record {
      dims = none_more 0 (dimensions_in class) index c.args.sizes.now.dims.items c.requires.dims (dims_none class index none);
      slots = none_more None (interface_slots class) index c.args.sizes.now.slots.items c.requires.slots (slots_none class index other);
    }
