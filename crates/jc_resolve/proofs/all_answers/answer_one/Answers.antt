use Rattle.std.proofs.Common.{ℕ, subst, ◌≡◌, length, option_map, Some, sym, ap, ◌∙◌}
use Rattle.std.proofs.lemmas.Option.{slice_get_within, get_or_from_slice_get}
use Rattle.std.specs.List.{slice_get}
use Rattle.jc_classes.specs.Facts.{Reference}
use Rattle.jc_classes.specs.Lent.{reference_lent}
use Rattle.jc_classes.specs.Parts.{IsAnswer, ResolvesOf, class_of}
use Rattle.jc_classes.specs.Worlds.{World}
use Rattle.jc_numbered.specs.inside.Indexed.{indexed_name, IsIndexed}
use Rattle.jc_numbered.specs.inside.Shown.{indexed_of}
use Rattle.jc_resolve.specs.declared.entry.Entry.{Entry}
use Rattle.jc_resolve.specs.inside.Entries.{entry_shown}
use Rattle.jc_resolve.specs.inside.Resolved.{loading_of, IsWithinSome, TellsLoads}
use Rattle.jc_resolve.proofs.answering.Entries.{answered_set}
use Rattle.jc_resolve.proofs.loading.Nets.{node_of_ref, node_within}
use Rattle.jc_resolve.proofs.lookups.Looks.{asker_loaded}
use Rattle.jc_resolve.proofs.all_answers.answer_one.Goals as goal

pub resolve-requires-clause-node : goal.resolve-requires-clause-node
resolve-requires-clause-node c =
    let refs = c.args.facts.now.references in
    let at = c.args.number in
    let r = reference_lent c.in-Some.reference in
    let got : slice_get refs at ≡ Some r = sym c.reference.ensures ∙ ap (option_map reference_lent) c.in-Some.is in
    sym (ap (λ (z : Reference). class_of z.named) (get_or_from_slice_get refs at r r got)) ∙ node_of_ref (indexed_name (indexed_of c.args.look.now.classes.now)) c.args.nodes.now refs at r c.requires.nodes.named (slice_get_within refs at r got)
    ∙ ap (option_map (indexed_name (indexed_of c.args.look.now.classes.now))) (sym c.wide-node.ensures)

pub resolve-requires-clause-within : goal.resolve-requires-clause-within
resolve-requires-clause-within c =
    subst (IsWithinSome (length c.args.look.now.classes.now.standing.now)) (sym c.wide-node.ensures)
    (node_within (length c.args.look.now.classes.now.standing.now) c.args.nodes.now c.args.number c.requires.nodes.within)

pub returns-clause-answered : goal.returns-clause-answered
returns-clause-answered c =
    let x = indexed_of c.args.look.now.classes.now in
    let count = length c.args.look.now.classes.now.standing.now in
    let refs = c.args.facts.now.references in
    let at = c.args.number in
    let r = reference_lent c.in-Some.reference in
    let got : slice_get refs at ≡ Some r = sym c.reference.ensures ∙ ap (option_map reference_lent) c.in-Some.is in
    let d = indexed_name x c.args.look.now.class in
    let size : length x.names ≡ count = c.args.look.now.classes.now.graph.names in
    let f = λ (e : Entry ℕ) (h : (m : World) → TellsLoads m x count c.args.look.now.loads.now → IsIndexed m x → ResolvesOf m d r.kind r (entry_shown (indexed_name x) r e))
    (m : World) (told : TellsLoads m x (length x.names) c.args.look.now.loads.now) (index : IsIndexed m x).
    subst (λ z. IsAnswer m d (loading_of x z) r (entry_shown (indexed_name x) r e)) (sym (asker_loaded c.args.look.now)) (h m (subst (λ n. TellsLoads m x n c.args.look.now.loads.now) size told) index) in
    answered_set x c.args.look.now.loads.now c.args.look.now.class refs c.args.entries.now.items at r c.in_ok-entry.entry got (f c.in_ok-entry.entry c.in_ok-entry.ensures.found)
