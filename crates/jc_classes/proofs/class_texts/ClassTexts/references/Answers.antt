use Rattle.std.proofs.Common.{◌≡◌, ◌∙◌, ◌+◌, ◌-◌, ℕ, ap, arith, map, subst}
use Rattle.std.specs.Prelude.{option_map}
use Rattle.std.specs.List.{flat_map, range_with_len}
use Rattle.std.specs.Option.{option_to_list}
use Rattle.jc_view.specs.ClassFile.{all_slots}
use Rattle.jc_classes.specs.FactsOf.{reference_at, references_in}
use Rattle.jc_classes.specs.inside.ConstantTexts.{texts_of}
use Rattle.jc_classes.specs.inside.FactsShown.{reference_shown}
use Rattle.jc_classes.proofs.texts.AskedTexts.{one_more_done, so}
use Rattle.jc_classes.proofs.texts.ConstantTexts.{found_more}
use Rattle.jc_classes.proofs.class_texts.ClassTexts.references.Goals as goal

pub loop-index-preserved : goal.loop-index-preserved
loop-index-preserved c =
    let class = c.args.self.now.class in
    let f = λ (index : ℕ). option_to_list (reference_at class index) in
    let index = c.loop-index.index in
    let is : option_map (reference_shown (texts_of class)) c.reference_entry.result ≡ reference_at class index =
    subst (λ k. option_map (reference_shown (texts_of k)) c.reference_entry.result ≡ reference_at k index) (ap (λ k. k.class) c.self.view_is) c.reference_entry.ensures in
    one_more_done reference_shown c.loop-index.entries.items c.push_some.new.entries.items c.reference_entry.result c.in_ok-entry.entry (reference_at class index) is c.in_ok-entry.ensures c.in_ok-push_some.ensures
    _ _ c.loop-index.invariant (found_more f index c.loop-index.auto.index)

pub returns : goal.returns
unfolding references_in
returns c =
    let class = c.args.self.now.class in
    let slots : c.constant_count-index-end.result ≡ 1 + all_slots class.constants =
    c.constant_count-index-end.ensures ∙ ap (λ k. 1 + all_slots k.class.constants) c.self.view_is in
    let n : c.loop-index.index - 1 ≡ all_slots class.constants = omega (arith, c.loop-index-test.false, c.loop-index.auto.index-end, slots) in
    so c.loop-index.invariant (λ ts h.
    ap (map (reference_shown ts)) c.shrink_to_fit.ensures.items ∙ h ∙ ap (λ k. flat_map (λ index. option_to_list (reference_at class index)) (range_with_len 1 k)) n)
