use Rattle.std.proofs.Common.{◌≡◌, ℕ, ◌-◌, ◌<◌, ◌≤◌, List, [], length, take, drop, slice_index_or, sym, ap, subst, ◌∙◌}
use Rattle.jc_classes.specs.inside.TextList.{start_at}
use Rattle.jc_classes.proofs.texts.TextLists.{IsPart, part_is, texts_end}
use Rattle.jc_classes.proofs.text_list.TextList.text.Goals as goal

pub returns-then-number-ends : goal.returns-then-number-ends
returns-then-number-ends c =
    let bytes = c.self.inside.bytes.items in
    let ends = c.self.inside.ends.items in
    let h = subst (λ xs. length xs ≤ c.args.number) c.as_slice-ends.ensures.value c.if-number-ends.true in
    sym (subst (λ (v : List (List ℕ)). slice_index_or v c.args.number [] ≡ []) c.self.view_is (texts_end bytes 0 ends c.args.number h))

part_at : (c : goal.After-start) → IsPart c.self.inside.bytes.items 0 c.self.inside.ends.items c.args.number
part_at c = part_is c.self.inside.bytes.items 0 c.self.inside.ends.items c.args.number c.self.invariant (subst (λ xs. c.args.number < length xs) c.as_slice-ends.ensures.value c.if-number-ends.false)

pub part-requires-clause-rises : goal.part-requires-clause-rises
part-requires-clause-rises c =
    let p = part_at c in
    let e = c.start.ensures ∙ ap (λ xs. start_at 0 xs c.args.number) c.as_slice-ends.ensures.value in
    subst (λ s. s ≤ slice_index_or c.as_slice-ends.result.now c.args.number 0) (sym e) (subst (λ xs. start_at 0 c.self.inside.ends.items c.args.number ≤ slice_index_or xs c.args.number 0) (sym c.as_slice-ends.ensures.value) p.rises)

pub part-requires-clause-within : goal.part-requires-clause-within
part-requires-clause-within c =
    let p = part_at c in
    subst (λ b. slice_index_or c.as_slice-ends.result.now c.args.number 0 ≤ length b) (sym c.as_slice.ensures.value) (subst (λ xs. slice_index_or xs c.args.number 0 ≤ length c.self.inside.bytes.items) (sym c.as_slice-ends.ensures.value) p.within)

pub returns : goal.returns
returns c =
    let bytes = c.self.inside.bytes.items in
    let ends = c.self.inside.ends.items in
    let p = part_is bytes 0 ends c.args.number c.self.invariant (subst (λ xs. c.args.number < length xs) c.as_slice-ends.ensures.value c.if-number-ends.false) in
    let e = c.start.ensures ∙ ap (λ xs. start_at 0 xs c.args.number) c.as_slice-ends.ensures.value in
    c.part.ensures
    ∙ ap (λ s. take (slice_index_or c.as_slice-ends.result.now c.args.number 0 - s) (drop s c.as_slice.result.now)) e
    ∙ ap (λ xs. take (slice_index_or xs c.args.number 0 - start_at 0 ends c.args.number) (drop (start_at 0 ends c.args.number) c.as_slice.result.now)) c.as_slice-ends.ensures.value
    ∙ ap (λ b. take (slice_index_or ends c.args.number 0 - start_at 0 ends c.args.number) (drop (start_at 0 ends c.args.number) b)) c.as_slice.ensures.value
    ∙ p.text
    ∙ ap (λ (v : List (List ℕ)). slice_index_or v c.args.number []) c.self.view_is
