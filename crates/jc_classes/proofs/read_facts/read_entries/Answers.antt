use Rattle.std.proofs.Common.{◌+◌, length, ap, arith, subst, sym, ◌∙◌}
use Rattle.std.specs.Prelude.{option_map}
use Rattle.std.specs.List.{flat_map}
use Rattle.std.specs.Option.{option_to_list}
use Rattle.jc_view.specs.declared.attribute_kind.Holder.TheVariants as holders
use Rattle.jc_view.specs.ClassFile.{ClassFile, class_text_at}
use Rattle.jc_view.specs.Lent.{MembersLeft}
use Rattle.jc_view.specs.Places.{PlacedMember, fields_place, methods_place}
use Rattle.jc_classes.specs.MemberOrder.{IsOrder}
use Rattle.jc_classes.specs.FactsOf.{interfaces_in, member_of, once, references_in}
use Rattle.jc_classes.specs.inside.ConstantTexts.{texts_of}
use Rattle.jc_classes.specs.inside.FactsShown.{text_at}
use Rattle.jc_classes.specs.inside.Ranks.{AreBelow}
use Rattle.jc_code.proofs.appended.Fronts.{begins_whole}
use Rattle.jc_classes.proofs.texts.AskedTexts.{both, so, with_front}
use Rattle.jc_classes.proofs.members.Numbered.{members_below, names_below, names_stay, order_of, shown_few}
use Rattle.jc_classes.proofs.texts.Entries.{members_placed}
use Rattle.jc_classes.proofs.read_facts.read_entries.Goals as goal

pub returns : goal.returns
returns c =
    let class = c.args.class.now in
    let name = c.in_ok-name.ensures in
    let superclass = c.in_ok-superclass.ensures in
    let interfaces = c.in_ok-interfaces.ensures in
    let fields = c.in_ok-fields.ensures in
    let methods = with_front c.in_ok-methods.ensures in
    let references = c.in_ok-references.ensures in
    -- all are of this class
    let of_texts = c.requires in
    let of_name = name.class ∙ of_texts in
    let of_superclass = superclass.class ∙ of_name in
    let of_interfaces = interfaces.class ∙ of_superclass in
    let of_fields = fields.class ∙ of_interfaces in
    let of_methods = methods.class ∙ of_fields in
    let of = λ (k : ClassFile) (left : MembersLeft). flat_map (λ (m : PlacedMember). option_to_list (member_of k m.member)) left.left in
    -- the orders are of the texts up to the methods
    let told = both interfaces (both fields methods) in
    let first = c.members-2.new.self.texts in
    let shown = told.holds first (begins_whole first) in
    so (both name (both superclass (both interfaces (both fields (both methods references))))) (λ texts h. record {
      name = h.0 ∙ ap (λ k. text_at (texts_of k) c.own_name_index.result) of_texts ∙ c.own_name_index.ensures;
      superclass = h.1.0 ∙ ap (λ k. option_map (text_at (texts_of k)) c.name_index.result) of_name ∙ c.name_index.ensures ∙ ap (class_text_at class) c.super_class.ensures;
      interfaces = names_stay first texts h.1.1.1.1.0.1 c.in_ok-interfaces-2.interfaces.items c.in_ok-interfaces-2.ensures.below ∙ c.in_ok-interfaces-2.ensures.once ∙ ap once (shown.0 ∙ ap interfaces_in of_superclass);
      fields = h.1.1.1.0 ∙ ap (λ k. of k c.fields.result) of_interfaces ∙ ap (of class) c.fields.ensures.left ∙ members_placed class holders.Field (fields_place class + 2) class.fields;
      methods = h.1.1.1.1.0.0 ∙ ap (λ k. of k c.methods.result) of_fields ∙ ap (of class) c.methods.ensures.left ∙ members_placed class holders.Method (methods_place class + 2) class.methods;
      field_order = subst (λ ms. IsOrder ms c.in_ok-field_order.field_order.items) (shown.1.0 ∙ sym h.1.1.1.0) (order_of first c.deref.result.now c.in_ok-fields.fields.items c.in_ok-field_order.field_order.items c.deref.ensures.value c.in_ok-field_order.ensures);
      method_order = subst (λ ms. IsOrder ms c.in_ok-method_order.method_order.items) (shown.1.1.0 ∙ sym h.1.1.1.1.0.0) (order_of first c.deref-2.result.now c.in_ok-methods.methods.items c.in_ok-method_order.method_order.items c.deref-2.ensures.value c.in_ok-method_order.ensures);
      references = h.1.1.1.1.1 ∙ ap references_in of_methods;
    })

pub order-requires-clause-few : goal.order-requires-clause-few
order-requires-clause-few c =
    let texts = c.members.new.self.texts in
    let shown = c.in_ok-fields.ensures.holds texts (begins_whole texts) in
    omega (arith, shown_few texts c.in_ok-fields.fields.items (λ (m : PlacedMember). member_of c.interfaces.new.self.class m.member) c.fields.result.left shown, c.fields.ensures.few, c.fields.ensures.all, ap length c.deref.ensures.value)

pub order-requires-clause-below : goal.order-requires-clause-below
order-requires-clause-below c =
    let texts = c.members-2.new.self.texts in
    let told = both c.in_ok-fields.ensures c.in_ok-methods.ensures in
    subst (AreBelow (length texts)) (sym c.deref.ensures.value) (members_below texts c.in_ok-fields.fields.items _ (λ ts f. (told.holds ts f).0))

pub order-requires-2-clause-few : goal.order-requires-2-clause-few
order-requires-2-clause-few c =
    let texts = c.members-2.new.self.texts in
    let shown = c.in_ok-methods.ensures.holds texts (begins_whole texts) in
    omega (arith, shown_few texts c.in_ok-methods.methods.items (λ (m : PlacedMember). member_of c.members.new.self.class m.member) c.methods.result.left shown, c.methods.ensures.few, c.methods.ensures.all, ap length c.deref-2.ensures.value)

pub order-requires-2-clause-below : goal.order-requires-2-clause-below
order-requires-2-clause-below c =
    let texts = c.members-2.new.self.texts in
    subst (AreBelow (length texts)) (sym c.deref-2.ensures.value) (members_below texts c.in_ok-methods.methods.items _ (λ ts f. c.in_ok-methods.ensures.holds ts f))

pub once-requires : goal.once-requires
once-requires c =
    let texts = c.members-2.new.self.texts in
    let told = both c.in_ok-interfaces.ensures (both c.in_ok-fields.ensures c.in_ok-methods.ensures) in
    names_below texts c.in_ok-interfaces.interfaces.items _ (λ ts f. (told.holds ts f).0)
