use Rattle.std.proofs.Common.{◌≡◌, drop}
use Rattle.jc_report.specs.ErrorsText.{asked_lent, has_inheritance_error}
use Rattle.jc_report.proofs.tree_errors.has_inheritance_error.Given as goal

-- those that are left decide
abbrev pub invariant-loop-place : goal.invariant-loop-place
invariant-loop-place l =
    has_inheritance_error (asked_lent l.asked) l.classes l.inheritance l.unimplemented
    ≡ has_inheritance_error (asked_lent l.asked) (drop l.place l.classes) (drop l.place l.inheritance) (drop l.place l.unimplemented)
