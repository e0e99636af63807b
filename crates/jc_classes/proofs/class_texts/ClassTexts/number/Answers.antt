use Rattle.std.proofs.Common.{◌≡◌, ◌∙◌, ◌<◌, ◌^◌, ◌++◌, ◌∷◌, [], None, Some, length, slice_index_or, slice_set, ap, arith, rules, subst, sym}
use Rattle.jc_classes.specs.inside.ClassTexts.{AreNumbered, Tells}
use Rattle.jc_classes.specs.inside.ConstantTexts.{texts_of}
use Rattle.jc_classes.specs.inside.FactsShown.{text_at}
use Rattle.jc_classes.proofs.texts.AskedTexts.{count_less, index_within, one_numbered, told_known, told_new, told_none}
use Rattle.jc_classes.proofs.class_texts.ClassTexts.number.Goals as goal

pub returns-in-Some : goal.returns-in-Some
returns-in-Some c =
    let numbers = c.self.inside.numbers.items in
    let number = c.in-Some.number in
    let is : slice_index_or numbers c.args.index None ≡ Some number = sym (ap (λ xs. slice_index_or xs c.args.index None) c.deref.ensures.value) ∙ sym c.in-Some.ensures in
    subst (λ k. Tells k k (λ ts. text_at ts number ≡ text_at (texts_of k.class) c.args.index)) c.self.view_is
    (told_known c.self.inside.class.now numbers c.self.inside.texts c.self.invariant c.args.index number is)

pub returns-in_default-utf8 : goal.returns-in_default-utf8
returns-in_default-utf8 c =
    subst (λ k. Tells k k (λ ts. text_at ts 0 ≡ text_at (texts_of k.class) c.args.index)) c.self.view_is
    (told_none c.self.inside.class.now c.self.inside.numbers.items c.self.inside.texts c.self.invariant c.args.index (sym c.in_default-utf8.ensures))

pub overflow_cast-number : goal.overflow_cast-number
overflow_cast-number c =
    let numbers = c.self.inside.numbers.items in
    let within : c.args.index < length numbers = omega (arith, index_within c.self.inside.class.now c.args.index c.in-Some-utf8.text.now (sym c.in-Some-utf8.ensures), c.self.invariant.size) in
    let none : slice_index_or numbers c.args.index None ≡ None = sym (ap (λ xs. slice_index_or xs c.args.index None) c.deref.ensures.value) ∙ sym c.known.ensures ∙ c.in_default.is in
    let few : c.len-number.result < 2 ^ 16 = omega (arith, c.len-number.ensures, c.self.invariant.count, c.self.invariant.few, count_less numbers c.args.index within none) in
    search rules

pub index_mut-requires : goal.index_mut-requires
index_mut-requires c = omega (arith, index_within c.self.inside.class.now c.args.index c.in-Some-utf8.text.now (sym c.in-Some-utf8.ensures), c.self.invariant.size, c.self.inside.numbers.ok)

pub invariant_of-self-2 : goal.invariant_of-self-2
invariant_of-self-2 c =
    let class = c.self.inside.class.now in
    let numbers = c.self.inside.numbers.items in
    let texts = c.self.inside.texts in
    let text = c.in-Some-utf8.text.now in
    let there = sym c.in-Some-utf8.ensures in
    let within : c.args.index < length numbers = omega (arith, index_within class c.args.index text there, c.self.invariant.size) in
    let none : slice_index_or numbers c.args.index None ≡ None = sym (ap (λ xs. slice_index_or xs c.args.index None) c.deref.ensures.value) ∙ sym c.known.ensures ∙ c.in_default.is in
    subst (AreNumbered class (slice_set numbers c.args.index (Some c.len-number.result))) (sym c.in_ok-push.ensures.ok)
    (subst (λ n. AreNumbered class (slice_set numbers c.args.index (Some n)) (texts ++ text ∷ [])) (sym c.len-number.ensures)
    (one_numbered class numbers texts c.self.invariant c.args.index text there within none))

pub returns : goal.returns
returns c =
    let class = c.self.inside.class.now in
    let index = c.args.index in
    let texts = c.self.inside.texts in
    let text = c.in-Some-utf8.text.now in
    let told = told_new class c.self.inside.numbers.items texts c.self.invariant index text (sym c.in-Some-utf8.ensures) in
    subst (λ k. Tells k (record { class = class; texts = c.push.new.self }) (λ ts. text_at ts c.len-number.result ≡ text_at (texts_of k.class) index)) c.self.view_is
    (subst (λ new. Tells (record { class = class; texts = texts }) (record { class = class; texts = new }) (λ ts. text_at ts c.len-number.result ≡ text_at (texts_of class) index)) (sym c.in_ok-push.ensures.ok)
    (subst (λ n. Tells (record { class = class; texts = texts }) (record { class = class; texts = texts ++ text ∷ [] }) (λ ts. text_at ts n ≡ text_at (texts_of class) index)) (sym c.len-number.ensures) told))
