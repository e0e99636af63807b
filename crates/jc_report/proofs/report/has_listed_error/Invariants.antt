use Rattle.std.proofs.Common.{◌≡◌, drop}
use Rattle.jc_report.specs.ErrorsText.{has_listed_error}
use Rattle.jc_report.proofs.report.has_listed_error.Given as goal

-- those that are left decide
abbrev pub invariant-loop-number : goal.invariant-loop-number
invariant-loop-number l = has_listed_error l.used_only l.facts 0 l.answers ≡ has_listed_error l.used_only l.facts l.number (drop l.number l.answers)
