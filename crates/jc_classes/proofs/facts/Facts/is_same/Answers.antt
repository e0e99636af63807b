use Rattle.std.proofs.Common.{◌≡◌, ◌∙◌, ap, map, sym}
use Rattle.std.proofs.lemmas.Bool.Decides.{Decides-at}
use Rattle.jc_classes.specs.Facts.{Facts}
use Rattle.jc_classes.specs.inside.FactsShown.{facts_shown, member_shown, reference_shown, text_at}
use Rattle.jc_classes.proofs.compared.SameClasses.{decides_head, head_of, refused, same_facts}
use Rattle.jc_classes.proofs.facts.Facts.is_same.Goals as goal

pub returns-then-not-is_same_head : goal.returns-then-not-is_same_head
returns-then-not-is_same_head c =
    let f = c.args.self.now in
    let g = c.args.other.now in
    refused c.is_same_head.result (Decides-at _ _ c.is_same_head.ensures (decides_head f g)) c.if-not-is_same_head.true (head_of f g)

pub returns : goal.returns
returns c =
    let f = c.args.self.now in
    let g = c.args.other.now in
    let self_is = ap facts_shown c.deref-own.ensures ∙ c.self.view_is in
    let other_is = ap facts_shown c.deref-theirs.ensures ∙ c.other.view_is in
    let head = (Decides-at _ _ c.is_same_head.ensures (decides_head f g)).0 c.if-not-is_same_head.false in
    let interfaces : f.interfaces ≡ g.interfaces =
    sym ((λ i. map (text_at (c.as_ref-texts.ensures i)) (c.deref.ensures.value i)) ∙ ap (λ (x : Facts). x.interfaces) self_is)
    ∙ c.are_same_names.ensures.0 c.if-not-are_same_names.false
    ∙ (λ i. map (text_at (c.as_ref-others.ensures i)) (c.deref-2.ensures.value i)) ∙ ap (λ (x : Facts). x.interfaces) other_is in
    let fields : f.fields ≡ g.fields =
    sym ((λ i. map (member_shown (c.as_ref-texts.ensures i)) (c.deref-3.ensures.value i)) ∙ ap (λ (x : Facts). x.fields) self_is)
    ∙ c.are_same_members.ensures.0 c.if-not-are_same_members.false
    ∙ (λ i. map (member_shown (c.as_ref-others.ensures i)) (c.deref-4.ensures.value i)) ∙ ap (λ (x : Facts). x.fields) other_is in
    let methods : f.methods ≡ g.methods =
    sym ((λ i. map (member_shown (c.as_ref-texts.ensures i)) (c.deref-5.ensures.value i)) ∙ ap (λ (x : Facts). x.methods) self_is)
    ∙ c.are_same_members-2.ensures.0 c.if-not-are_same_members-2.false
    ∙ (λ i. map (member_shown (c.as_ref-others.ensures i)) (c.deref-6.ensures.value i)) ∙ ap (λ (x : Facts). x.methods) other_is in
    let own = c.deref-7.ensures.value ∙ ap (λ v. v.items) c.as_ref.ensures in
    let theirs = c.deref-8.ensures.value ∙ ap (λ v. v.items) c.as_ref-2.ensures in
    let references : f.references ≡ g.references =
    sym ((λ i. map (reference_shown (c.as_ref-texts.ensures i)) (own i)) ∙ ap (λ (x : Facts). x.references) self_is)
    ∙ c.are_same_references.ensures.0 c.if-not-are_same_references.false
    ∙ (λ i. map (reference_shown (c.as_ref-others.ensures i)) (theirs i)) ∙ ap (λ (x : Facts). x.references) other_is in (
      λ t.
          let faults = c.are_same_faults.ensures.0 t in
          same_facts f g head interfaces fields methods references (c.is_same_use.ensures.0 c.if-not-is_same_use.false) faults.0 faults.1,
      λ e. c.are_same_faults.ensures.1 (ap (λ (x : Facts). x.format_faults) e, ap (λ (x : Facts). x.code_faults) e),
    )
