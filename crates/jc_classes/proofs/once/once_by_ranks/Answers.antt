use Rattle.std.proofs.Common.{◌≡◌, ◌∙◌, ◌+◌, ◌<◌, ◌≤◌, ap, arith, false, length, map, rules, slice_index, slice_index_or, slice_set, subst, sym, take, true}
use Rattle.std.proofs.lemmas.List.{get_or_default, take_all}
use Rattle.std.proofs.lemmas.List.Elements.{All-push}
use Rattle.std.specs.List.{All}
use Rattle.jc_classes.specs.FactsOf.{once}
use Rattle.jc_classes.specs.inside.FactsShown.{text_at}
use Rattle.jc_classes.proofs.texts.FirstNames.{HaveMet, next_again, next_first}
use Rattle.jc_classes.proofs.once.once_by_ranks.Goals as goal

pub loop-name-preserved-then-index : goal.loop-name-preserved-then-index
loop-name-preserved-then-index c =
    let ranks = c.args.ranks.now in
    let names = c.args.names.now in
    let i = c.loop-name.name-index in
    let seen = c.loop-name.seen.items in
    let l : i < length names = search rules in
    let within : slice_index ranks (slice_index names i) < length seen = omega (arith, c.requires.ranks (slice_index names i) 0 (c.requires.names i 0 l), c.loop-name.invariant.met.size) in
    let flag : slice_index_or seen (slice_index ranks (slice_index names i)) false ≡ true =
    get_or_default seen (slice_index ranks (slice_index names i)) false c.index.result.now within ∙ sym c.index.ensures ∙ c.if-index.true in
    record {
      below = c.loop-name.invariant.below;
      met = next_again ranks names c.requires.names i seen c.loop-name.kept.items l c.loop-name.invariant.met flag;
    }

pub loop-name-preserved : goal.loop-name-preserved
loop-name-preserved c =
    let ranks = c.args.ranks.now in
    let names = c.args.names.now in
    let i = c.loop-name.name-index in
    let seen = c.loop-name.seen.items in
    let kept = c.loop-name.kept.items in
    let l : i < length names = search rules in
    let within : slice_index ranks (slice_index names i) < length seen = omega (arith, c.requires.ranks (slice_index names i) 0 (c.requires.names i 0 l), c.loop-name.invariant.met.size) in
    let flag : slice_index_or seen (slice_index ranks (slice_index names i)) false ≡ false =
    get_or_default seen (slice_index ranks (slice_index names i)) false c.index.result.now within ∙ sym c.index.ensures ∙ c.if-index.false in
    let next = next_first ranks names c.requires.names i seen kept l c.loop-name.invariant.met within flag in
    record {
      below = subst (λ new. All (λ n. n < length ranks) new) (sym c.in_ok-push.ensures.items) (All-push (λ n. n < length ranks) kept (slice_index names i) c.loop-name.invariant.below (c.requires.names i 0 l));
      met = subst (λ new. HaveMet ranks (take (i + 1) names) (slice_set seen (slice_index ranks (slice_index names i)) true) new) (sym c.in_ok-push.ensures.items) next;
    }

pub returns-clause-once : goal.returns-clause-once
returns-clause-once c = λ texts r.
    let names = c.args.names.now in
    let end : length names ≤ c.loop-name.name-index = search rules in
    ap (map (text_at texts)) c.shrink_to_fit.ensures.items ∙ c.loop-name.invariant.met.kept texts r ∙ ap (λ done. once (map (text_at texts) done)) (take_all c.loop-name.name-index names end)
