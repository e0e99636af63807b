use Rattle.std.proofs.Common.{◌≡◌, ◌<◌, ◌∙◌, ◌++◌, [], length, ap, subst, sym, true}
use Rattle.std.specs.List.{All, Contains, filter}
use Rattle.std.proofs.lemmas.Bool.Decides.{Decides-eqb}
use Rattle.jc_graph.specs.Graph.{successors_of}
use Rattle.jc_numbered.specs.inside.Shown.{indexed_of}
use Rattle.jc_resolve.specs.inside.Unimplemented.{stays_number}
use Rattle.jc_resolve.proofs.lookups.AbstractLemmas.{item_there}
use Rattle.jc_resolve.proofs.lookups.SearchLemmas.{filter_all, nothing_in, pushed_kept, pushed_search}
use Rattle.jc_resolve.proofs.unimplemented.Search.extend.Goals as goal

pub all_stay-requires-clause-methods : goal.all_stay-requires-clause-methods
all_stay-requires-clause-methods c = λ e h. (c.requires.search.methods.all.sound e (subst (λ z. Contains z e) c.as_slice-methods.ensures.value h)).0

pub all_stay-requires-clause-numbers : goal.all_stay-requires-clause-numbers
all_stay-requires-clause-numbers c = λ i h.
    let s = c.args.self.now in
    let e : c.as_slice-inherited.result.now ≡ successors_of s.lists.items c.args.above =
    c.as_slice-inherited.ensures.value ∙ ap (λ z. z.items) c.index.ensures ∙ item_there s.lists.items c.args.above c.index.result.now c.requires.above in
    subst (λ ms. i < length ms) (sym c.as_slice-methods.ensures.value) (c.requires.within i (subst (λ z. Contains z i) e h))

pub staying-requires-clause-methods : goal.staying-requires-clause-methods
staying-requires-clause-methods c = λ e h. (c.requires.search.methods.all.sound e (subst (λ z. Contains z e) c.as_slice-methods.ensures.value h)).0

pub returns-then-all_stay-clause-list : goal.returns-then-all_stay-clause-list
returns-then-all_stay-clause-list c =
    let x = indexed_of c.args.classes.now in
    let s = c.args.self.now in
    let all = s.methods.all.items in
    let inherited = successors_of s.lists.items c.args.above in
    let p = stays_number x c.args.node all in
    let none : c.args.added.items ≡ [] = nothing_in c.args.added.items (sym (c.args.added.ok.0) ∙ (Decides-eqb _ 0).0 (sym c.is_empty.ensures ∙ c.if-is_empty.true)) in
    let e : c.as_slice-inherited.result.now ≡ inherited = c.as_slice-inherited.ensures.value ∙ ap (λ z. z.items) c.index.ensures ∙ item_there s.lists.items c.args.above c.index.result.now c.requires.above in
    let stay : All (λ i. p i ≡ true) inherited = subst (All (λ i. p i ≡ true)) e
    (subst (λ ms. All (λ i. stays_number x c.args.node ms i ≡ true) c.as_slice-inherited.result.now) c.as_slice-methods.ensures.value (c.all_stay.ensures.0 c.if-all_stay.true)) in
    (c.requires.above, sym (ap (λ z. z ++ filter p inherited) none ∙ filter_all p inherited stay))

pub returns-clause-search : goal.returns-clause-search
returns-clause-search c = pushed_search (length c.args.classes.now.standing.now) (indexed_of c.args.classes.now) c.args.self.now c.push.new.self c.push.result _ c.requires.search
    c.push.ensures.lists c.push.ensures.methods c.push.ensures.list_of c.push.ensures.size

pub returns-clause-kept : goal.returns-clause-kept
returns-clause-kept c = pushed_kept c.args.self.now c.push.new.self c.push.result _ c.push.ensures.lists c.push.ensures.methods
