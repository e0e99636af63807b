use Rattle.std.proofs.Common.{◌≡◌, ◌∙◌, List, Bool, ap, sym, Vec, Global}
use Rattle.std.proofs.lemmas.Result.{IfOk-weaker}
use Rattle.std.specs.List.{filter}
use Rattle.jc_report.specs.declared.required_row.RequiredRow.{RequiredRow}
use Rattle.jc_linkage.specs.inside.RowLists.{Stay, is_marked}
use Rattle.jc_linkage.proofs.row_list.staying.Goals as goal

pub returns : goal.returns
returns c =
    let rows = c.args.rows.now in
    let numbers = c.args.numbers.now in
    let marks = c.deref.result.now in
    IfOk-weaker c.marked_rows.result
    (λ (kept : Vec RequiredRow Global). kept.items ≡ filter (λ (row : RequiredRow). is_marked marks row.number) rows)
    (λ (kept : Vec RequiredRow Global). Stay rows numbers kept.items)
    (λ kept e. record {
      test = λ (row : RequiredRow). is_marked marks row.number;
      passed = e;
      sound = λ row t. c.in_ok-marks.ensures row.number (ap (λ (ms : List Bool). is_marked ms row.number) (sym c.deref.ensures.value) ∙ t);
    })
    c.marked_rows.ensures
