-- The code of a tree.
use Rattle.std.specs.Prelude.{refl}
use Rattle.std.specs.Coded.{Coded, code_by, coded_list, coded_result, coded×, coded_ℕ}
use Rattle.std.specs.FinMap as map
use Rattle.jc_view.specs.declared.parse_error.ParseError.{ParseError}
use Rattle.jc_link.specs.Tables.{Places}
use Rattle.jc_report.specs.Trees.{Outcomes, Tree}

abbrev pub outcomes_code : Coded ParseError → Coded Outcomes
outcomes_code refusals = map.code (coded_list coded_ℕ) (coded_result (coded_list coded_ℕ) refusals)

-- the code of a tree from those of its two maps
abbrev pub tree_code : Coded Outcomes → Coded Places → Coded Tree
tree_code outcomes classes = code_by (Outcomes × Places) (coded× outcomes classes)
    (λ t. (t.outcomes, t.classes)) (λ maps. record { outcomes = maps.0; classes = maps.1 }) (λ _. refl)
