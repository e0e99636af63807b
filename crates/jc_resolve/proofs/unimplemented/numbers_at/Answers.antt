use Rattle.std.proofs.Common.{◌≡◌, ◌∙◌, Some, [], ap, sym}
use Rattle.std.specs.Option.{option_map_or}
use Rattle.std.specs.Prelude.{slice_get}
use Rattle.std.proofs.lemmas.Option.{slice_get_past}
use Rattle.jc_graph.specs.Graph.{successors_of}
use Rattle.jc_resolve.proofs.lookups.AbstractLemmas.{get_there, item_there}
use Rattle.jc_resolve.proofs.lookups.SortedLists.{beyond}
use Rattle.jc_resolve.proofs.unimplemented.numbers_at.Goals as goal

pub returns-in-Some-get : goal.returns-in-Some-get
returns-in-Some-get c =
    let there : slice_get c.args.list_of.now c.args.place ≡ Some c.in-Some.number.now
    = get_there c.args.list_of.now c.args.place c.in-Some.number.now c.in-Some.ensures.lookup.3.0 ∙ ap Some (sym c.in-Some.ensures.lookup.1) in
    c.as_slice.ensures.value ∙ ap (λ z. z.items) c.in-Some-get.ensures.lookup.1 ∙ item_there c.args.lists.now c.in-Some.number.now _ c.in-Some-get.ensures.lookup.3.0
    ∙ sym (ap (λ o. option_map_or (successors_of c.args.lists.now) o []) there)

pub returns-in-None-get : goal.returns-in-None-get
returns-in-None-get c =
    let there : slice_get c.args.list_of.now c.args.place ≡ Some c.in-Some.number.now
    = get_there c.args.list_of.now c.args.place c.in-Some.number.now c.in-Some.ensures.lookup.3.0 ∙ ap Some (sym c.in-Some.ensures.lookup.1) in
    sym (ap (λ o. option_map_or (successors_of c.args.lists.now) o []) there ∙ beyond c.args.lists.now c.in-Some.number.now c.in-None-get.ensures.lookup.3)

pub returns-in-None : goal.returns-in-None
returns-in-None c = sym (ap (λ o. option_map_or (successors_of c.args.lists.now) o []) (slice_get_past c.args.list_of.now c.args.place c.in-None.ensures.lookup.3))
