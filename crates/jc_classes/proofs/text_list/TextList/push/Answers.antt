use Rattle.std.proofs.Common.{◌≡◌, ◌++◌, ◌∷◌, [], ◌+◌, ℕ, List, length, sym, ap, subst, ◌∙◌, arith}
use Rattle.std.proofs.lemmas.List.{length-append}
use Rattle.jc_classes.specs.inside.TextList.{texts_from, AreEnds}
use Rattle.jc_classes.proofs.texts.TextLists.{texts_push, ends_push}
use Rattle.jc_classes.proofs.text_list.TextList.push.Goals as goal

pub invariant_of-self-in-Ok : goal.invariant_of-self-in-Ok
invariant_of-self-in-Ok c =
    let bytes = c.self.inside.bytes.items in
    let ends = c.self.inside.ends.items in
    let b = c.in_ok-extend_from_slice.ensures.items in
    let e = ap length b ∙ length-append bytes c.args.text.now in
    let n : c.len.result ≡ length c.extend_from_slice.new.self.items = omega (arith, c.len.ensures, c.extend_from_slice.new.self.ok) in
    subst (AreEnds (length c.extend_from_slice.new.self.items) 0) (sym c.in-Ok.ensures.ok)
    (subst (λ k. AreEnds (length c.extend_from_slice.new.self.items) 0 (ends ++ k ∷ [])) (sym n)
    (ends_push (length bytes) 0 (length c.extend_from_slice.new.self.items) ends c.self.invariant (omega (arith, e))))

pub returns-in-Ok-clause-ok : goal.returns-in-Ok-clause-ok
returns-in-Ok-clause-ok c =
    let bytes = c.self.inside.bytes.items in
    let ends = c.self.inside.ends.items in
    let t = c.args.text.now in
    let b = c.in_ok-extend_from_slice.ensures.items in
    let e = ap length b ∙ length-append bytes t in
    let n : c.len.result ≡ length bytes + length t = omega (arith, e, c.len.ensures, c.extend_from_slice.new.self.ok) in
    ap (texts_from c.extend_from_slice.new.self.items 0) c.in-Ok.ensures.ok
    ∙ ap (λ x. texts_from x 0 (ends ++ c.len.result ∷ [])) b
    ∙ ap (λ k. texts_from (bytes ++ t) 0 (ends ++ k ∷ [])) n
    ∙ texts_push bytes t 0 ends c.self.invariant
    ∙ ap (λ (v : List (List ℕ)). v ++ t ∷ []) c.self.view_is
