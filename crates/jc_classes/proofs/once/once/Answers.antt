use Rattle.std.proofs.Common.{◌<◌, ◌∙◌, ap, length, map, subst, sym}
use Rattle.std.proofs.lemmas.Result.{IfOk-weaker}
use Rattle.std.specs.List.{All}
use Rattle.jc_classes.specs.FactsOf.{once}
use Rattle.jc_classes.specs.inside.FactsShown.{text_at}
use Rattle.jc_classes.specs.inside.Ranks.{AreRanks}
use Rattle.jc_classes.proofs.once.once.Goals as goal

pub returns-clause-below : goal.returns-clause-below
returns-clause-below c =
    IfOk-weaker c.once_by_ranks.result _ _
    (λ kept below. subst (λ n. All (λ name. name < n) kept.items) (ap length c.deref-2.ensures.value ∙ c.in_ok-ranks.ensures.size) below) c.once_by_ranks.ensures.below

pub returns-clause-once : goal.returns-clause-once
returns-clause-once c =
    let texts = c.args.texts.now in
    let ranks = subst (AreRanks texts) (sym c.deref-2.ensures.value) c.in_ok-ranks.ensures in
    IfOk-weaker c.once_by_ranks.result _ _
    (λ kept same. same texts ranks ∙ ap (λ names. once (map (text_at texts) names)) c.deref-3.ensures.value) c.once_by_ranks.ensures.once
