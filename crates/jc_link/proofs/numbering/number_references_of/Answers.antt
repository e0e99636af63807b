use Rattle.std.proofs.Common.{◌≡◌, ◌∙◌, ◌<◌, ◌+◌, ◌∷◌, ◌++◌, [], Some, get_or, ap, length, slice_get, take, sym, subst, arith}
use Rattle.std.proofs.lemmas.List.{length-take-le, take_all, take_more}
use Rattle.std.proofs.lemmas.Option.{slice_get-get_or}
use Rattle.jc_link.specs.inside.Gathering.{Nodes}
use Rattle.jc_link.proofs.numbering.number_references_of.Goals as goal
use Rattle.jc_link.proofs.numbering.number_references_of.Goals.{in-Some, in-None+in_ok-node-in-None}
use Rattle.jc_link.proofs.reaches.Gathered.{no_reference, nodes_count, refs_again, refs_start, refs_more}

pub loop-number-init : goal.loop-number-init
loop-number-init c = subst (λ z. Nodes c.args.numbers.now [] c.args.numbers.now z []) (sym c.in_ok-nodes.ensures.items) (refs_start c.args.numbers.now c.requires)

pub loop-number-preserved : goal.loop-number-preserved
loop-number-preserved c =
    let a = c.args.numbers.now in
    let b = c.loop-number.numbers in
    let d = c.match-index.numbers in
    let references = c.args.facts.now.references in
    let at = c.loop-number.number in
    let old = c.loop-number.nodes.items in
    let less : at < length references = omega (arith, c.loop-number-test.true, c.reference_count-count.ensures) in
    let x = get_or references at no_reference in
    let there : slice_get references at ≡ Some x = slice_get-get_or references at no_reference less in
    let more = take_more references at no_reference less in
    let pushed = c.in_ok-push.ensures.items in
    subst (λ z. Nodes a [] d z (take (at + 1) references)) (sym pushed)
    (subst (Nodes a [] d (old ++ c.match-index.node ∷ [])) (sym more)
    (elim c.match-index.branch [
      | in-Some w ↦
          let before = c.in_ok-before.before.items in
          let size = nodes_count a b old (take at references) c.loop-number.invariant ∙ length-take-le at references (omega (arith, less)) in
          let noted : slice_get before at ≡ Some (Some w.in-Some.earlier) =
          slice_get-get_or before at c.index.result.now (omega (arith, less, c.in_ok-before.ensures.size)) ∙ ap Some (sym c.index.ensures ∙ w.in-Some.is) in
          let again = refs_again a b old references at w.in-Some.earlier w.index-in-Some.result.now x c.loop-number.invariant size
          (c.in_ok-before.ensures.named at w.in-Some.earlier noted) there w.index-in-Some.ensures in
          subst (λ ns. Nodes a [] ns (old ++ c.match-index.node ∷ []) (take at references ++ x ∷ [])) (sym w.numbers-is)
          (subst (λ n. Nodes a [] b (old ++ n ∷ []) (take at references ++ x ∷ [])) (sym w.node-is) again)
      | in-None+in_ok-node-in-None w ↦
          let step = w.in_ok-node-in-None.ensures x there in
          let one = refs_more a b w.number_reference.new.numbers [] old w.in_ok-node-in-None.node (take at references) x c.loop-number.invariant step in
          subst (λ ns. Nodes a [] ns (old ++ c.match-index.node ∷ []) (take at references ++ x ∷ [])) (sym w.numbers-is)
          (subst (λ n. Nodes a [] w.number_reference.new.numbers (old ++ n ∷ []) (take at references ++ x ∷ [])) (sym w.node-is) one)
    ]))

pub returns : goal.returns
returns c =
    let references = c.args.facts.now.references in
    subst (Nodes c.args.numbers.now [] c.loop-number.numbers c.loop-number.nodes.items)
    (take_all c.loop-number.number references (omega (arith, c.loop-number-test.false, c.reference_count-count.ensures))) c.loop-number.invariant
