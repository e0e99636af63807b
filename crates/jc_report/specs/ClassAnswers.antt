-- The answers to the references of a class, by the indexes of their constants.
use Rattle.std.specs.Prelude.{◌≡◌, ℕ}
use Rattle.jc_classes.specs.Facts.{Reference}
use Rattle.jc_classes.specs.LinkLaws.{HasAnswer}
use Rattle.jc_classes.specs.Resolution.{Answer}
use Rattle.jc_report.specs.Reports.{Class}

-- an answer to the reference of the constant at an index
abbrev pub HasAnswerAt : Class → (index : ℕ) → Answer → Type 0
HasAnswerAt c index a = (r : Reference) × (r.index ≡ index) × HasAnswer c.facts.references c.part.answers r a
