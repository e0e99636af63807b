use Rattle.std.proofs.Common.{◌≡◌, ◌∙◌, [], ◌∷◌, List, ℕ, arith, length, refl, sym, ap, subst, vec_len, ◌⊎◌}
use Rattle.std.proofs.lemmas.Bool.{eqb-true}
use Rattle.std.proofs.lemmas.List.Elements.{All-append}
use Rattle.std.specs.List.{Contains}
use Rattle.jc_classes.specs.NameLists.{has}
use Rattle.jc_report.specs.RequiredRows.{AreOf, rows_numbered, spelled_all}
use Rattle.jc_report.specs.declared.required_row.RequiredRow.{RequiredRow}
use Rattle.jc_linkage.specs.inside.RowLists.{IsThere}
use Rattle.jc_linkage.proofs.required_rows.NumberedRows.{in_order_all, in_order_alone, stay_of}
use Rattle.jc_linkage.proofs.row_list.changed.Goals as goal

nil_of : {X : Type 0} (xs : List X) → length xs ≡ 0 → xs ≡ []
nil_of [] e = refl
nil_of (x ∷ xs) e = absurd (omega (arith, e))

pub returns-then-is_empty : goal.returns-then-is_empty
returns-then-is_empty c =
    let comes = c.in_ok-comes.comes.items in
    let complete : (n : ℕ) → Contains c.args.numbers.now n → Contains comes n ⊎ IsThere c.in_ok-rows.rows.items n =
    λ n there. subst (λ (xs : List RequiredRow). Contains comes n ⊎ IsThere xs n) c.deref.ensures.value (c.in_ok-comes.ensures.complete n there) in
    in_order_alone c.args.references.now c.args.before.now c.in_ok-rows.rows.items c.requires.of c.args.numbers.now comes c.in_ok-rows.ensures c.in_ok-comes.ensures.sound complete
    c.requires.rises (nil_of comes (sym c.in_ok-comes.comes.ok.0 ∙ eqb-true (vec_len c.in_ok-comes.comes) 0 (sym c.is_empty.ensures ∙ c.if-is_empty.true)))

pub returns : goal.returns
returns c =
    let refs = c.args.references.now in
    let before = c.args.before.now in
    let numbers = c.args.numbers.now in
    let rows = c.in_ok-rows.rows.items in
    let comes = c.in_ok-comes.comes.items in
    let more = c.in_ok-more.more.items in
    let stay = c.in_ok-rows.ensures in
    let complete : (n : ℕ) → Contains numbers n → Contains comes n ⊎ IsThere rows n =
    λ n there. subst (λ (xs : List RequiredRow). Contains comes n ⊎ IsThere xs n) c.deref.ensures.value (c.in_ok-comes.ensures.complete n there) in
    let of = All-append (λ (row : RequiredRow). row.references ≡ refs) rows more (stay_of refs before rows c.requires.of numbers comes stay) c.in_ok-more.ensures.of in
    in_order_all refs before rows c.requires.of numbers comes stay c.in_ok-comes.ensures.sound complete more c.in_order.result.items
    (c.in_ok-more.ensures.rows ∙ ap (rows_numbered refs) c.deref-2.ensures.value)
    (λ key. c.in_order.ensures.same key ∙ ap (λ (xs : List RequiredRow). has (spelled_all xs) key) c.in_ok-joined.ensures)
    c.in_order.ensures.rises
    (c.in_order.ensures.of refs (subst (AreOf refs) (sym c.in_ok-joined.ensures) of))
