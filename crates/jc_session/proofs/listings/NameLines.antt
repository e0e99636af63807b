-- Names, each on its line.
use Rattle.std.proofs.Common.{◌≡◌, ◌==◌, ℕ, List, [], ◌∷◌, arith, false, length, refl, true}
use Rattle.std.specs.Prelude.{codes}
use Rattle.std.specs.List.{flat_map}
use Rattle.std.specs.declared.vec.Vec.{Vec}
use Rattle.std.specs.declared.alloc.Global.{Global}
use Rattle.std.proofs.lemmas.Bool.{eqb-true}
use Rattle.std.proofs.lemmas.List.Folds.{flat_map-map}
use Rattle.jc_classes.specs.Names.{names_of}
use Rattle.jc_report.specs.ReportText.{name_line}
use Rattle.jc_session.specs.AnswerText.{names_text}

abbrev pub line_of : Vec ℕ Global → List ℕ
line_of name = name_line name.items

pub lines_of_names : (names : List (Vec ℕ Global)) → (length names == 0) ≡ false → names_text (names_of names) ≡ flat_map line_of names
lines_of_names [] some = absurd cc
lines_of_names (name ∷ names) some = flat_map-map name_line (λ (v : Vec ℕ Global). v.items) (name ∷ names)

pub none_of_names : (names : List (Vec ℕ Global)) → (length names == 0) ≡ true → names_text (names_of names) ≡ codes "none\n"
none_of_names [] none = refl
none_of_names (name ∷ names) none = absurd (omega (arith, eqb-true (length (name ∷ names)) 0 none))
