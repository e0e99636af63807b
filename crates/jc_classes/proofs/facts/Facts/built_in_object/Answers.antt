use Rattle.std.proofs.Common.{map, subst, sym}
use Rattle.jc_classes.specs.MemberOrder.{IsOrder}
use Rattle.jc_classes.specs.inside.FactsShown.{member_shown}
use Rattle.jc_classes.proofs.members.Ordering.{no_members}
use Rattle.jc_classes.proofs.texts.ReferenceIndexes.{no_references, no_uses}
use Rattle.jc_classes.proofs.facts.Facts.built_in_object.Goals as goal

pub boxed-requires : goal.boxed-requires
boxed-requires c =
    let texts = c.in_ok-texts.texts in
    let order = c.in_ok-method_order.method_order.items in
    record {
      fields = no_members _ _ _ c.new-4.ensures.items c.new-5.ensures.items;
      methods = subst (λ ts. IsOrder (map (member_shown ts) c.in_ok-methods.methods.items) order) (sym c.in_ok-texts_shared.ensures.ok) (subst (λ members. IsOrder (map (member_shown texts) members) order) c.deref.ensures.value c.in_ok-method_order.ensures);
      references = no_references _ _ c.in_ok-references.ensures;
      uses = no_uses _ cc;
    }
