use Rattle.std.proofs.Common.{inl, inr, sym, ◌∙◌}
use Rattle.std.proofs.lemmas.Bool.{false≢true}
use Rattle.jc_base.proofs.texts.TestsDecide.{same_answer, method_name_decides}
use Rattle.jc_base.proofs.names.is_method_name.Goals as goal

pub returns-then-is_unqualified-clause-name : goal.returns-then-is_unqualified-clause-name
returns-then-is_unqualified-clause-name c = (
  λ yes. inr (c.is_unqualified.ensures.name.0 c.if-is_unqualified.true, c.lacks_method_name_stops.ensures.0 yes),
  λ name. elim name [
    | inl special ↦ absurd (false≢true (sym c.if-is_special_method_name.false ∙ c.is_special_method_name.ensures.1 special))
    | inr (unqualified, lacks) ↦ c.lacks_method_name_stops.ensures.1 lacks
  ],
)

pub returns-then-is_unqualified-clause-computed : goal.returns-then-is_unqualified-clause-computed
returns-then-is_unqualified-clause-computed c = same_answer _ _ (returns-then-is_unqualified-clause-name c) (method_name_decides c.args.text.now)
