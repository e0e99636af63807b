use Rattle.std.proofs.Common.{◌≡◌, ◌∙◌, None, Some, ap, refl, sym}
use Rattle.std.specs.Option.{option_map}
use Rattle.jc_view.specs.ClassFile.{constant_at}
use Rattle.jc_view.specs.Lent.{constant_of}
use Rattle.jc_code.specs.inside.TextSizes.{at_index, interface_slots}
use Rattle.jc_code.proofs.sizes.FilledLists.{none_more}
use Rattle.jc_code.proofs.sizes.SizesAt.{slots_method, slots_missing, slots_other}
use Rattle.jc_code.proofs.text_sizes.read_slots.Goals as goal

pub returns-in_default : goal.returns-in_default
returns-in_default c =
    let class = c.args.known.now in
    let is = ap (option_map constant_of) (sym c.in_default.is) ∙ c.constant.ensures ∙ ap (λ k. constant_at k (at_index c.args.index)) c.class.ensures in
    record {
      class = refl;
      slots = none_more None (interface_slots class) c.args.index c.args.slots.now.items c.requires (slots_missing class c.args.index is);
    }

pub returns-in_default-constant : goal.returns-in_default-constant
returns-in_default-constant c =
    let class = c.args.known.now in
    let is : Some (constant_of c.in-Some.constant) ≡ constant_at class (at_index c.args.index) = ap (option_map constant_of) (sym c.in-Some.is) ∙ c.constant.ensures ∙ ap (λ k. constant_at k (at_index c.args.index)) c.class.ensures in
    record {
      class = refl;
      slots = none_more None (interface_slots class) c.args.index c.args.slots.now.items c.requires (slots_other class c.args.index c.in-Some.constant is c.in_default-constant.not-InterfaceMethodref);
    }

pub returns-in_ok-more-in-InterfaceMethodref-clause-slots : goal.returns-in_ok-more-in-InterfaceMethodref-clause-slots
returns-in_ok-more-in-InterfaceMethodref-clause-slots c =
    let class = c.args.known.now in
    let is : Some (constant_of c.in-Some.constant) ≡ constant_at class (at_index c.args.index) = ap (option_map constant_of) (sym c.in-Some.is) ∙ c.constant.ensures ∙ ap (λ k. constant_at k (at_index c.args.index)) c.class.ensures in
    let given = slots_method class c.args.index c.in-Some.constant is _ c.in-InterfaceMethodref.entry c.in-InterfaceMethodref.is in
    c.add_slots.ensures (interface_slots class) c.requires (given ∙ sym c.in_ok-more-in-InterfaceMethodref.ensures.slots)
