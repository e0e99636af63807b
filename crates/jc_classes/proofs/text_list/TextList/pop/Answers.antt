use Rattle.std.proofs.Common.{◌≡◌, ◌∙◌, ◌-◌, ◌<◌, ◌∷◌, [], List, ℕ, length, take, ap, arith, subst, sym}
use Rattle.std.proofs.lemmas.List.{length-take-le}
use Rattle.jc_classes.specs.inside.TextList.{texts_from, AreEnds, start_at}
use Rattle.jc_classes.proofs.texts.TextLists.{ends_cut, length_texts, starts_within, texts_cut}
use Rattle.jc_classes.proofs.text_list.TextList.pop.Goals as goal

-- a list without texts
emptied : (ts : List (List ℕ)) → length ts ≡ 0 → ts ≡ take (length ts - 1) ts
emptied [] e = cc
emptied (t ∷ ts) e = absurd (omega (arith, e))

pub returns-then-count-eq0 : goal.returns-then-count-eq0
returns-then-count-eq0 c = emptied c.args.self.now (omega (arith, c.len-count.ensures, c.if-count-eq0.true, c.self.inside.ends.ok, length_texts c.self.inside.bytes.items 0 c.self.inside.ends.items, ap length c.self.view_is))

pub invariant_of-self : goal.invariant_of-self
invariant_of-self c =
    let bytes = c.self.inside.bytes.items in
    let ends = c.self.inside.ends.items in
    let n = c.len-count.result - 1 in
    let less : n < length ends = omega (arith, c.len-count.ensures, c.if-count-eq0.false, c.self.inside.ends.ok) in
    let start = c.start-start.ensures ∙ ap (λ es. start_at 0 es n) c.as_slice.ensures.value in
    let far = starts_within bytes 0 ends n c.self.invariant less in
    let size : length c.truncate.new.self.items ≡ start_at 0 ends n = ap length c.truncate.ensures.items ∙ ap (λ s. length (take s bytes)) start ∙ length-take-le (start_at 0 ends n) bytes far in
    let rest : c.pop.new.self.items ≡ take n ends = c.pop.ensures.rest ∙ ap (λ k. take (k - 1) ends) (omega (arith, c.len-count.ensures)) in
    subst (λ s. AreEnds s 0 c.pop.new.self.items) (sym size) (subst (AreEnds (start_at 0 ends n) 0) (sym rest) (ends_cut (length bytes) 0 ends n c.self.invariant less))

pub returns : goal.returns
returns c =
    let bytes = c.self.inside.bytes.items in
    let ends = c.self.inside.ends.items in
    let n = c.len-count.result - 1 in
    let less : n < length ends = omega (arith, c.len-count.ensures, c.if-count-eq0.false, c.self.inside.ends.ok) in
    let start = c.start-start.ensures ∙ ap (λ es. start_at 0 es n) c.as_slice.ensures.value in
    let bytes_left : c.truncate.new.self.items ≡ take (start_at 0 ends n) bytes = c.truncate.ensures.items ∙ ap (λ s. take s bytes) start in
    let rest : c.pop.new.self.items ≡ take n ends = c.pop.ensures.rest ∙ ap (λ k. take (k - 1) ends) (omega (arith, c.len-count.ensures)) in
    ap (λ b. texts_from b 0 c.pop.new.self.items) bytes_left
    ∙ ap (texts_from (take (start_at 0 ends n) bytes) 0) rest
    ∙ texts_cut bytes 0 ends n c.self.invariant less
    ∙ ap (λ k. take k (texts_from bytes 0 ends)) (omega (arith, less, length_texts bytes 0 ends, c.len-count.ensures, c.self.inside.ends.ok))
    ∙ ap (λ ts. take (length ts - 1) ts) c.self.view_is
