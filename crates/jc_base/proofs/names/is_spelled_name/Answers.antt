use Rattle.std.proofs.lemmas.Grind.{common_steps}
use Rattle.std.proofs.Common.{◌∙◌, sym, length, ap, arith}
use Rattle.std.proofs.lemmas.Bool.{eqb-false}
use Rattle.jc_base.proofs.texts.TestsDecide.{same_answer, unqualified_decides}
use Rattle.jc_base.proofs.names.is_spelled_name.Goals as goal
use Rattle.jc_base.proofs.names.is_spelled_name.Goals.{then-not-is_empty, else-not-is_empty}

pub returns-then-is_ok-clause-name : goal.returns-then-is_ok-clause-name
returns-then-is_ok-clause-name c =
    elim c.if-not-is_empty.branch [
      | then-not-is_empty w ↦ (
        λ yes. (w.check_units.ensures.ok.0 (sym w.is_ok.ensures.value ∙ sym w.value-is ∙ c.if-is_ok.true), (λ e. eqb-false (length c.args.text.now) 0 (sym c.is_empty.ensures ∙ w.if-not-is_empty.true) (ap length e)), c.lacks_name_stops.ensures.0 yes),
        λ name. c.lacks_name_stops.ensures.1 name.2,
      )
      | else-not-is_empty w ↦ absurd (cc)
    ]

pub returns-then-is_ok-clause-computed : goal.returns-then-is_ok-clause-computed
returns-then-is_ok-clause-computed c = same_answer _ _ (returns-then-is_ok-clause-name c) (unqualified_decides c.args.text.now)

pub returns-else-is_ok-clause-name : goal.returns-else-is_ok-clause-name
returns-else-is_ok-clause-name c = grind (arith, common_steps)

pub returns-else-is_ok-clause-computed : goal.returns-else-is_ok-clause-computed
returns-else-is_ok-clause-computed c = grind (arith, common_steps)
