use Rattle.std.proofs.Common.{◌≡◌, ◌∙◌, ◌<◌, length, sym, arith}
use Rattle.std.proofs.lemmas.Bool.{eqb-false}
use Rattle.jc_base.proofs.texts.PlainNames.{plain_part}
use Rattle.jc_base.proofs.names.is_plain_name.Goals as goal

pub returns-then-not-is_empty : goal.returns-then-not-is_empty
returns-then-not-is_empty c =
    let text = c.args.text.now in
    let none : length text ≡ 0 → ⊥ = eqb-false (length text) 0 (sym c.is_empty.ensures ∙ c.if-not-is_empty.true) in
    let some : 0 < length text = omega (arith, none) in
    λ yes. plain_part text some (sym c.are_plain.ensures ∙ yes)
