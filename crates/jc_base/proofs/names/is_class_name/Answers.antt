use Rattle.std.proofs.Common.{◌∙◌, [], eqb, refl, rules, sym, tests}
use Rattle.std.proofs.lemmas.Bool.{false≢true}
use Rattle.std.specs.List.{slice_split}
use Rattle.std.proofs.lemmas.Iterator.{cases_from_all}
use Rattle.std.proofs.lemmas.Iterator.Splits.{YieldsList-from_slice_split}
use Rattle.jc_base.specs.Names.{IsUnqualifiedName}
use Rattle.jc_base.proofs.texts.Names.{all_decides, class_name_by_split}
use Rattle.jc_base.proofs.texts.PlainNames.{plain_class_name}
use Rattle.jc_base.proofs.texts.TestsDecide.{same_answer, class_decides}
use Rattle.jc_base.proofs.names.is_class_name.Goals as goal

pub returns-else-is_plain_class_name-clause-name : goal.returns-else-is_plain_class_name-clause-name
returns-else-is_plain_class_name-clause-name c =
    let names = class_name_by_split c.args.text.now in
    let decided = all_decides IsUnqualifiedName [] c.all.result (slice_split (λ b. eqb b 47) c.args.text.now)
    (cases_from_all _ _ _ IsUnqualifiedName (λ x. IsUnqualifiedName x → ⊥) c.all.ensures.ran
    (YieldsList-from_slice_split _ (λ b. eqb b 47) c.args.text.now c.split.ensures.rest c.split.ensures.done c.split.ensures.closure (λ x b q k. search (rules, tests)))
    (λ x q k. (refl, k.met.0.0 refl)) (λ x q k name. false≢true (k.met.0.1 name))) in
    (λ yes. names.0 (decided.0 yes), λ name. decided.1 (names.1 name))

pub returns-else-is_plain_class_name-clause-computed : goal.returns-else-is_plain_class_name-clause-computed
returns-else-is_plain_class_name-clause-computed c = same_answer _ _ (returns-else-is_plain_class_name-clause-name c) (class_decides c.args.text.now)

pub returns-then-is_plain_class_name-clause-name : goal.returns-then-is_plain_class_name-clause-name
returns-then-is_plain_class_name-clause-name c = (λ yes. plain_class_name c.args.text.now (sym c.is_plain_class_name.ensures ∙ c.if-is_plain_class_name.true), λ name. c.if-is_plain_class_name.true)

pub returns-then-is_plain_class_name-clause-computed : goal.returns-then-is_plain_class_name-clause-computed
returns-then-is_plain_class_name-clause-computed c = same_answer _ _ (returns-then-is_plain_class_name-clause-name c) (class_decides c.args.text.now)
