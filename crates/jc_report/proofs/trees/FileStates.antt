-- What a file of a tree is, by the class that stands at the name that it names.
use Rattle.std.proofs.Common.{◌≡◌, ℕ, true, false, List, Option, Some, None, Ok, refl, sym, ap, ◌∙◌}
use Rattle.std.specs.Prelude.{option_map}
use Rattle.std.specs.FinMap as fin
use Rattle.jc_base.proofs.maps.FiniteMaps.{same_bytes_equiv}
use Rattle.jc_view.specs.Outcome.{class_named}
use Rattle.jc_classes.specs.Facts.{Facts}
use Rattle.jc_classes.specs.Names.{Name}
use Rattle.jc_link.specs.Tables.{or_built_in, class_found}
use Rattle.jc_report.specs.Files.{Files}
use Rattle.jc_report.specs.FileRows.{names_by, state_by, winner}
use Rattle.jc_report.specs.Trees.{IsTree, Tree}
use Rattle.jc_report.specs.inside.Naming.{names_there, names_at}
use Rattle.jc_report.proofs.winners.LeastPathWins.{winner_none}
use Rattle.jc_report.proofs.trees.FactsOfNames.{winner_facts}

is_named : (f : Files) (path bytes n : List ℕ) → fin.get f path ≡ Some bytes → class_named bytes ≡ Ok n → names_at f path n ≡ true
is_named f path bytes n there named = ap (λ o. names_there o n) there ∙ ap (λ o. names_by o n) named ∙ same_bytes_equiv.refl n

path_by : (f : Files) (t : Tree) (n : Name) (w : Option (List ℕ)) → IsTree f t → winner f n ≡ w → ((q : List ℕ) → w ≡ None → names_at f q n ≡ false) → (path : List ℕ) → names_at f path n ≡ true
    → option_map (λ (facts : Facts). facts.path) (class_found t.classes n) ≡ w
path_by f t n None h is lacks path has = absurd (let e : false ≡ true = sym (lacks path refl) ∙ has in cc)
path_by f t n (Some p) h is lacks path has =
    let given = winner_facts f n p is in
    ap (λ o. option_map (λ (facts : Facts). facts.path) (or_built_in o n)) (h.classes n ∙ given.gives)
    ∙ ap (λ (x : List ℕ). Some x) given.is_path

-- the class at a name that a file names has the winner's path
pub state_kept : (f : Files) (t : Tree) (path bytes : List ℕ) (n : Name) → IsTree f t → fin.get f path ≡ Some bytes → class_named bytes ≡ Ok n
    → state_by path n (option_map (λ (facts : Facts). facts.path) (class_found t.classes n)) ≡ state_by path n (winner f n)
state_kept f t path bytes n h there named =
    ap (λ o. state_by path n o) (path_by f t n (winner f n) h refl (λ q none. winner_none f n q none) path (is_named f path bytes n there named))
