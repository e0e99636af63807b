-- The code of the state of a session.
use Rattle.std.specs.Prelude.{ℕ, List, refl}
use Rattle.std.specs.Coded.{Coded, code_by, coded_list, coded×, coded_ℕ}
use Rattle.std.specs.FinMap as map
use Rattle.jc_classes.specs.Names.{Name}
use Rattle.jc_report.specs.Files.{Files}
use Rattle.jc_edits.specs.SessionState.{Contents, SessionState}

coded_names : Coded (List Name)
coded_names = coded_list (coded_list coded_ℕ)

abbrev pub contents_code : Coded Contents
contents_code = code_by (Files × List Name)
    (coded× (map.code (coded_list coded_ℕ) (coded_list coded_ℕ)) (coded_list (coded_list coded_ℕ)))
    (λ a. (a.files, a.prefixes)) (λ p. record { files = p.0; prefixes = p.1 }) (λ _. refl)

abbrev pub state_code : Coded SessionState
state_code = code_by (Contents × (ℕ × ℕ)) (coded× contents_code (coded× coded_ℕ coded_ℕ))
    (λ a. (record { files = a.files; prefixes = a.prefixes }, (a.asks, a.made)))
    (λ p. record { files = p.0.files; prefixes = p.0.prefixes; asks = p.1.0; made = p.1.1 }) (λ _. refl)
