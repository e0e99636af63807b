use Rattle.std.proofs.Common.{◌≡◌, ◌∙◌, ℕ, ◌<◌, ap, length, List, map, rules, slice_index, subst, sym}
use Rattle.std.specs.List.{All}
use Rattle.std.proofs.lemmas.List.Elements.{All-push}
use Rattle.jc_classes.specs.NameLists.{has}
use Rattle.jc_classes.specs.Names.{Name}
use Rattle.jc_classes.specs.inside.FactsShown.{text_at}
use Rattle.jc_classes.proofs.texts.FirstNames.{turn_again, turn_first}
use Rattle.jc_classes.proofs.once.once_in_turn.Goals as goal
use Rattle.jc_classes.proofs.once.once_in_turn.Goals.{then-not-has_text+in_ok-push, else-not-has_text}

pub loop-name-preserved : goal.loop-name-preserved
loop-name-preserved c =
    let texts = c.args.texts.now in
    let names = c.args.names.now in
    let i = c.loop-name.name-index in
    let kept = c.loop-name.kept.items in
    let l : i < length names = search rules in
    let asked : c.has_text.result ≡ has (map (text_at texts) kept) (text_at texts (slice_index names i)) =
    c.has_text.ensures ∙ ap (λ (ks : List ℕ). has (map (text_at texts) ks) c.text.result.now) c.deref.ensures.value ∙ ap (λ (t : Name). has (map (text_at texts) kept) t) c.text.ensures in
    elim c.if-not-has_text.branch [
      | then-not-has_text+in_ok-push w ↦
          let first = turn_first texts names i l kept c.loop-name.invariant.firsts (sym w.if-not-has_text.true ∙ asked) in
          let pushed = ap (λ v. v.items) w.kept-is ∙ w.in_ok-push.ensures.items in
          record {
            below = subst (All (λ n. n < length texts)) (sym pushed) (All-push (λ n. n < length texts) kept (slice_index names i) c.loop-name.invariant.below (c.requires i 0 l));
            firsts = ap (map (text_at texts)) pushed ∙ first;
          }
      | else-not-has_text w ↦
          let again = turn_again texts names i l kept c.loop-name.invariant.firsts (sym w.if-not-has_text.false ∙ asked) in
          let same = ap (λ v. v.items) w.kept-is in
          record {
            below = subst (All (λ n. n < length texts)) (sym same) c.loop-name.invariant.below;
            firsts = ap (map (text_at texts)) same ∙ again;
          }
    ]
