use Rattle.std.proofs.Common.{◌∙◌, ap, inl, inr, length, sym}
use Rattle.std.proofs.lemmas.Bool.{false≢true}
use Rattle.std.proofs.lemmas.Bool.Decides.{Decides-eqb}
use Rattle.jc_numbered.specs.inside.Shown.{indexed_of}
use Rattle.jc_resolve.proofs.lookups.AbstractLemmas.{item_there}
use Rattle.jc_resolve.proofs.lookups.ConcreteLemmas.{class_loaded, loaded_state, not_concrete}
use Rattle.jc_resolve.proofs.lookups.SearchLemmas.{nothing_in}
use Rattle.jc_resolve.proofs.unimplemented.list_for.Goals as goal

pub list-requires-clause-good : goal.list-requires-clause-good
list-requires-clause-good c = c.requires.good c.args.node
    (loaded_state _ (class_loaded (indexed_of c.args.classes.now) c.args.loads.now c.args.node (sym c.is_loaded_class.ensures ∙ c.if-not-is_loaded_class.false)))

pub returns-then-not-is_loaded_class-clause-list : goal.returns-then-not-is_loaded_class-clause-list
returns-then-not-is_loaded_class-clause-list c =
    let x = indexed_of c.args.classes.now in
    inr (record {
      within = c.requires.search.some;
      empty = c.requires.search.none;
      right = inr (λ m h concrete. false≢true ((not_concrete (length c.args.classes.now.standing.now) x c.args.classes.now.graph c.args.loads.now c.requires.told
          c.args.node c.requires.node m h c.is_loaded_class.result c.is_loaded_class.ensures c.if-not-is_loaded_class.true).1 concrete));
    })

pub returns-then-is_empty-clause-list : goal.returns-then-is_empty-clause-list
returns-then-is_empty-clause-list c =
    let list = c.in_ok-number.ensures.list in
    inr (record {
      within = list.0;
      empty = sym (ap (λ z. z.items) c.index.ensures ∙ item_there c.list.new.self.lists.items c.in_ok-number.number c.index.result.now list.0)
          ∙ nothing_in c.index.result.now.items (sym (c.index.result.now.ok.0) ∙ (Decides-eqb _ 0).0 (sym c.is_empty.ensures ∙ c.if-is_empty.true));
      right = inl list;
    })

pub returns-then-branch-clause-list : goal.returns-then-branch-clause-list
returns-then-branch-clause-list c = inl (c.in_ok-number.ensures.list, λ m h. (c.in_ok-is_concrete.ensures.concrete m h).0 c.if-branch.true)

pub returns-else-branch-clause-list : goal.returns-else-branch-clause-list
returns-else-branch-clause-list c =
    inr (record {
      within = c.in_ok-number.ensures.search.some;
      empty = c.in_ok-number.ensures.search.none;
      right = inr (λ m h concrete. false≢true (sym c.if-branch.false ∙ (c.in_ok-is_concrete.ensures.concrete m h).1 concrete));
    })
