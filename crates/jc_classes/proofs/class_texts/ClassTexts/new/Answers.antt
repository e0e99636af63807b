use Rattle.std.proofs.Common.{◌≡◌, ◌∙◌, ◌++◌, ◌∷◌, ◌<◌, ◌^◌, [], None, replicate, ap, rules, subst, sym}
use Rattle.jc_classes.specs.inside.ClassTexts.{AreNumbered}
use Rattle.jc_classes.proofs.texts.AskedTexts.{none_numbered}
use Rattle.jc_classes.proofs.class_texts.ClassTexts.new.Goals as goal

pub invariant_of-result : goal.invariant_of-result
invariant_of-result c =
    let n = c.constant_count-count.result in
    let items : c.in_ok-numbers.numbers.items ≡ replicate n None = search rules in
    let texts : c.push.new.self ≡ [] ∷ [] = c.in_ok-push.ensures.ok ∙ ap (λ ts. ts ++ [] ∷ []) c.in_ok-texts.ensures in
    let few : n < 2 ^ 16 = search rules in
    subst (λ xs. AreNumbered c.args.class.now xs c.push.new.self) (sym items)
    (subst (AreNumbered c.args.class.now (replicate n None)) (sym texts) (none_numbered c.args.class.now n c.constant_count-count.ensures few))
