use Rattle.std.proofs.Common.{◌≡◌, ◌∙◌, ℕ, List, Some, option_map, ap, sym}
use Rattle.std.specs.Borrow.{Bor}
use Rattle.std.specs.Cmp.Lexicographic.{bytes_decides}
use Rattle.std.specs.FinMap as map
use Rattle.jc_input.specs.Changes.{change_lent, path_of}
use Rattle.jc_edits.specs.inside.Changing.{bytes_of}
use Rattle.jc_input.specs.declared.edit.LentEdit.{LentEdit}
use Rattle.jc_edits.proofs.placing.EditPlaced.{unchanged}
use Rattle.jc_edits.proofs.report.Report.is_unchanged.Goals as goal

pub returns-in-Some : goal.returns-in-Some
returns-in-Some c = λ t.
    let files = c.args.self.now.files in
    let there = c.in-Some.there.now in
    let same = (bytes_decides there c.as_slice.result.now).0 (sym c.eq.ensures ∙ t) ∙ c.as_slice.ensures.value in
    let bytes : bytes_of (change_lent c.args.edit.now) ≡ Some there = ap (λ (e : LentEdit). bytes_of (change_lent e)) c.in-Replace.is ∙ ap (λ (x : List ℕ). Some x) (sym same) in
    let at : map.get files (path_of (change_lent c.args.edit.now)) ≡ Some there =
    ap (λ (e : LentEdit). map.get files (path_of (change_lent e))) c.in-Replace.is ∙ sym c.file.ensures ∙ ap (option_map (λ (b : Bor (List ℕ)). b.now)) c.in-Some.is in
    unchanged files (change_lent c.args.edit.now) there bytes at
