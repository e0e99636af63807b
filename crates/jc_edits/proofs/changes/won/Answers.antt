-- The class is put where no other file before the path names it.
use Rattle.std.proofs.Common.{◌≡◌, ◌∙◌, true, false, Some, None, sym, ap}
use Rattle.std.specs.Prelude.{if◌then◌else◌}
use Rattle.std.specs.FinMap as map
use Rattle.jc_classes.specs.Facts.{Facts}
use Rattle.jc_classes.specs.FactsOf.{facts_of}
use Rattle.jc_report.specs.FileRows.{winner}
use Rattle.jc_report.specs.Winners.{wins}
use Rattle.jc_edits.proofs.changes.won.Goals as goal

pub returns-in_ok-of : goal.returns-in_ok-of
returns-in_ok-of c = λ f are.
    let path = c.args.path.now in
    let order : wins path (winner (map.remove f path) c.args.name.now) ≡ true = ap (wins path) (sym (c.other.ensures f are)) ∙ sym c.wins.ensures ∙ c.if-wins.true in
    ap (λ (x : Facts). Some x) c.in_ok-of.ensures ∙ sym (ap (λ b. if b then Some (facts_of path c.args.view.now) else None) order)

pub returns-else-wins : goal.returns-else-wins
returns-else-wins c = λ f are.
    let path = c.args.path.now in
    let order : wins path (winner (map.remove f path) c.args.name.now) ≡ false = ap (wins path) (sym (c.other.ensures f are)) ∙ sym c.wins.ensures ∙ c.if-wins.false in
    sym (ap (λ b. if b then Some (facts_of path c.args.view.now) else None) order)
