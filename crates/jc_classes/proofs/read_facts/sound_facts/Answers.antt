use Rattle.std.proofs.Common.{◌+◌, ◌<◌, map, ap, subst, sym, ◌∙◌}
use Rattle.std.proofs.lemmas.Result.{IfOk-weaker}
use Rattle.std.specs.List.{All}
use Rattle.jc_view.specs.ClassFile.{all_slots}
use Rattle.jc_classes.specs.MemberOrder.{IsOrder}
use Rattle.std.specs.Prelude.{option_map}
use Rattle.jc_classes.specs.Facts.{Reference}
use Rattle.jc_classes.specs.FactsOf.{references_in, sound_facts}
use Rattle.jc_classes.specs.FactsOrder.{AreByIndex, AreByPlace}
use Rattle.jc_classes.specs.declared.facts.ReferenceEntry.{ReferenceEntry}
use Rattle.jc_classes.specs.inside.FactsShown.{member_shown, reference_shown, text_at}
use Rattle.jc_code.proofs.appended.Fronts.{begins_whole}
use Rattle.jc_classes.proofs.links.Uses.{uses_sorted}
use Rattle.jc_classes.proofs.texts.Entries.{facts_eta}
use Rattle.jc_classes.proofs.texts.ReferenceIndexes.{references_below, references_rise}
use Rattle.jc_classes.proofs.using.UsersOf.{all_shown, entry_user, users_shown}
use Rattle.jc_classes.proofs.read_facts.sound_facts.Goals as goal

pub returns : goal.returns
returns c =
    let class = c.args.class.now in
    let e = c.in_ok-entries.entries in
    let h = c.in_ok-entries.ensures.holds _ (begins_whole _) in
    let t = c.in_ok-texts_shared.ensures.ok ∙ c.into_list.ensures in
    let r = c.in_ok-references.ensures.ok in
    let code = c.in_ok-uses.ensures in
    IfOk-weaker c.boxed.result _ _ (λ facts boxed. boxed ∙ facts_eta _ (sound_facts c.args.path.now class)
    c.in_ok-path.ensures.items
    (ap (λ ts. text_at ts e.name) t ∙ h.name)
    c.flags.ensures
    (ap (λ ts. option_map (text_at ts) e.superclass) t ∙ h.superclass)
    (ap (λ ts. map (text_at ts) e.interfaces.items) t ∙ h.interfaces)
    (ap (λ ts. map (member_shown ts) e.fields.items) t ∙ h.fields)
    (ap (λ ts. map (member_shown ts) e.methods.items) t ∙ h.methods)
    (ap (λ rs. map (reference_shown c.in_ok-texts_shared.texts_shared.value) rs.items) r ∙ ap (λ ts. map (reference_shown ts) e.references.items) t ∙ h.references)
    code.uses
    (code.users ∙ ap (map (entry_user class)) c.deref.ensures.value ∙ users_shown class _ e.references.items h.references)
    code.format
    code.faults) c.boxed.ensures

pub code_facts-requires : goal.code_facts-requires
code_facts-requires c =
    let class = c.args.class.now in
    let e = c.in_ok-entries.entries in
    let h = c.in_ok-entries.ensures.holds _ (begins_whole _) in
    subst (All (λ (entry : ReferenceEntry). entry.index < 1 + all_slots class.constants)) (sym c.deref.ensures.value)
    (all_shown (reference_shown _) (λ (r : Reference). r.index < 1 + all_slots class.constants) e.references.items (references_in class) h.references (references_below class))

pub boxed-requires : goal.boxed-requires
boxed-requires c =
    let class = c.args.class.now in
    let e = c.in_ok-entries.entries in
    let h = c.in_ok-entries.ensures.holds _ (begins_whole _) in
    let t = sym (c.in_ok-texts_shared.ensures.ok ∙ c.into_list.ensures) in
    record {
      fields = subst (λ ts. IsOrder (map (member_shown ts) e.fields.items) e.field_order.items) t h.field_order;
      methods = subst (λ ts. IsOrder (map (member_shown ts) e.methods.items) e.method_order.items) t h.method_order;
      references = subst AreByIndex
          (sym (ap (λ rs. map (reference_shown c.in_ok-texts_shared.texts_shared.value) rs.items) c.in_ok-references.ensures.ok ∙ ap (λ ts. map (reference_shown ts) e.references.items) (sym t) ∙ h.references))
          (references_rise class);
      uses = subst AreByPlace (sym c.in_ok-uses.ensures.uses) (uses_sorted class);
    }
