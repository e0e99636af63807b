use Rattle.std.proofs.Common.{◌≡◌, ◌∙◌, ◌<◌, ◌++◌, ◌∷◌, [], length, map, take, get_or, sym, ap, subst, arith}
use Rattle.std.proofs.lemmas.List.{map-append, take_all, take_more}
use Rattle.std.proofs.lemmas.List.Elements.{All-nil, All-push}
use Rattle.jc_report.specs.RequiredRows.{AreOf, row_numbered, row_required, rows_numbered}
use Rattle.jc_report.specs.declared.required_row.RequiredRow.{RequiredRow}
use Rattle.jc_report.proofs.required_references.rows_of.Goals as goal

pub loop-number-init : goal.loop-number-init
loop-number-init c =
    let refs = c.args.references.now in
    record {
      rows = ap (map row_required) c.in_ok-rows.ensures.items;
      of = subst (AreOf refs) (sym c.in_ok-rows.ensures.items) (All-nil (λ (row : RequiredRow). row.references ≡ refs));
    }

pub loop-number-preserved : goal.loop-number-preserved
loop-number-preserved c =
    let refs = c.args.references.now in
    let numbers = c.args.numbers.now in
    let i = c.loop-number.number-index in
    let less : i < length numbers = omega (arith, c.loop-number-test.true) in
    let row = c.in_ok-numbered.field-0 in
    let rows = c.loop-number.rows.items in
    record {
      rows = ap (map row_required) c.in_ok-push.ensures.items
          ∙ map-append row_required rows (row ∷ [])
          ∙ ap (λ z. z ++ row_required row ∷ []) c.loop-number.invariant.rows
          ∙ ap (λ r. rows_numbered refs (take i numbers) ++ r ∷ []) c.in_ok-numbered.ensures.row
          ∙ sym (ap (rows_numbered refs) (take_more numbers i 0 less) ∙ map-append (row_numbered refs) (take i numbers) (get_or numbers i 0 ∷ []));
      of = subst (AreOf refs) (sym c.in_ok-push.ensures.items) (All-push (λ (r : RequiredRow). r.references ≡ refs) rows row c.loop-number.invariant.of c.in_ok-numbered.ensures.of);
    }

pub returns-clause-rows : goal.returns-clause-rows
returns-clause-rows c =
    let numbers = c.args.numbers.now in
    c.loop-number.invariant.rows
    ∙ ap (rows_numbered c.args.references.now) (take_all c.loop-number.number-index numbers (omega (arith, c.loop-number-test.false)))

pub returns-clause-of : goal.returns-clause-of
returns-clause-of c = c.loop-number.invariant.of
