-- Where all errors are asked for, a report has one exactly if it is wrong.
use Rattle.std.proofs.Common.{◌≡◌, ◌∙◌, ◌||◌, ◌+◌, ◌==◌, ℕ, false, not, length, List, [], ◌∷◌, ap, refl}
use Rattle.std.specs.List.{list_any}
use Rattle.jc_classes.specs.Facts.{Facts}
use Rattle.jc_classes.specs.Parts.{Part}
use Rattle.jc_classes.specs.Resolution.{Answer}
use Rattle.jc_report.specs.ErrorsText.{all_errors, has_listed_error, is_wrong_among, is_wrong_class, is_wrong_listed}
use Rattle.jc_report.specs.FileRows.{is_unreadable}
use Rattle.jc_report.specs.Reports.{Class, Report, is_error, is_load_error, is_wrong, is_wrong_part}

answers_all : (f : Facts) (number : ℕ) (answers : List Answer) → has_listed_error false f number answers ≡ list_any is_error answers
answers_all f number [] = refl
answers_all f number (a ∷ answers) = ap (λ b. is_error a || b) (answers_all f (number + 1) answers)

part_all : (f : Facts) (p : Part) → is_wrong_listed false f p ≡ is_wrong_part p
part_all f p =
    ap (λ b. not (length p.format_faults == 0) || not (length p.code_faults == 0) || is_load_error p.load || not (length p.links == 0) || b)
    (answers_all f 0 p.answers)

classes_all : (classes : List Class) → list_any (is_wrong_class all_errors) classes ≡ list_any (λ c. is_wrong_part c.part) classes
classes_all [] = refl
classes_all (c ∷ classes) =
    ap (λ b. b || list_any (is_wrong_class all_errors) classes) (part_all c.facts c.part) ∙ ap (λ b. is_wrong_part c.part || b) (classes_all classes)

pub wrong_all : (r : Report) → is_wrong_among all_errors r ≡ is_wrong r
wrong_all r = ap (λ b. list_any is_unreadable r.files || b) (classes_all r.classes)
