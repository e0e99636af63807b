use Rattle.std.proofs.Common.{◌≡◌, ◌∙◌, ◌<◌, ◌+◌, ◌++◌, ◌∷◌, ℕ, Some, [], length, ap, refl, subst, sym, arith}
use Rattle.std.specs.Option.{option_map_or}
use Rattle.std.proofs.lemmas.List.{length-append}
use Rattle.jc_numbered.specs.inside.FinalSearches.{IsPath}
use Rattle.jc_numbered.specs.inside.Indexed.{good_at, rank_at}
use Rattle.jc_numbered.specs.inside.Shown.{indexed_of}
use Rattle.jc_numbered.proofs.lookups.Chain.{super_good, super_node}
use Rattle.jc_graph.specs.Graph.{successors_of}
use Rattle.jc_resolve.specs.declared.unimplemented.Search.{Search}
use Rattle.jc_resolve.specs.inside.Unimplemented.{TellsList}
use Rattle.jc_resolve.proofs.lookups.AbstractLemmas.{get_there}
use Rattle.jc_resolve.proofs.lookups.PathLemmas.{measure_falls, path_begins, path_push}
use Rattle.jc_resolve.proofs.unimplemented.Search.path_to_known.Goals as goal

some_is : {X : Type 0} {a b : X} → Some a ≡ Some b → a ≡ b
some_is e = cc

pub loop-next-init : goal.loop-next-init
loop-next-init c = record {
  path = subst (λ p. IsPath (length c.args.classes.now.standing.now) (indexed_of c.args.classes.now) c.args.class p (Some c.args.class)) (sym c.new-path.ensures.items)
      (path_begins (length c.args.classes.now.standing.now) (indexed_of c.args.classes.now) c.args.class (Some c.args.class));
  empty = λ e. refl;
  within = λ v e. subst (λ z. z < length c.args.classes.now.standing.now) (some_is e) c.requires.class;
  good = λ v e. ap (good_at (indexed_of c.args.classes.now)) (sym (some_is e)) ∙ c.requires.good;
}

pub loop-next-preserved : goal.loop-next-preserved
loop-next-preserved c =
    let x = indexed_of c.args.classes.now in
    let count = length c.args.classes.now.standing.now in
    let graph = c.args.classes.now.graph in
    let v = c.in-Some.node in
    let path = c.loop-next.path.items in
    let held = c.loop-next.invariant in
    let l = held.within v c.in-Some.is in
    let g = held.good v c.in-Some.is in
    let super = c.superclass-next.ensures in
    record {
      path = subst (λ p. IsPath count x c.args.class p c.superclass-next.result) (sym c.in_ok-push.ensures.items)
          (subst (IsPath count x c.args.class (path ++ v ∷ [])) (sym super)
          (path_push count x c.args.class path v (subst (IsPath count x c.args.class path) c.in-Some.is held.path) (λ e. some_is (sym c.in-Some.is ∙ held.empty e)) l g));
      empty = λ e. absurd (let q = sym (length-append path (v ∷ [])) ∙ ap length (sym c.in_ok-push.ensures.items ∙ e) in omega (arith, q));
      within = λ w e. super_node count x graph v w (sym super ∙ e);
      good = λ w e. super_good count x graph v w g (sym super ∙ e);
    }

pub loop-next-smaller : goal.loop-next-smaller
loop-next-smaller c =
    let x = indexed_of c.args.classes.now in
    let v = c.in-Some.node in
    let measure = λ (o : _). option_map_or (λ (w : ℕ). rank_at x w + 1) o 0 in
    subst (λ o. measure c.superclass-next.result < measure o) (sym c.in-Some.is)
    (measure_falls (length c.args.classes.now.standing.now) x c.args.classes.now.graph v (c.loop-next.invariant.good v c.in-Some.is) c.superclass-next.result c.superclass-next.ensures)

pub returns-in-Some-index : goal.returns-in-Some-index
returns-in-Some-index c =
    let x = indexed_of c.args.classes.now in
    let s : Search = c.args.self.now in
    let v = c.in-Some.node in
    let held = c.loop-next.invariant in
    let l : v < length s.list_of.items = let q = held.within v c.in-Some.is in let r = c.requires.search.size in omega (arith, q, r) in
    let there = get_there s.list_of.items v c.index.result.now l ∙ ap Some (sym c.index.ensures ∙ c.in-Some-index.is) in
    let known = c.requires.search.lists v c.in-Some-index.number there in
    record {
      above = Some v;
      path = subst (IsPath (length c.args.classes.now.standing.now) x c.args.class c.loop-next.path.items) c.in-Some.is held.path;
      within = known.0;
      none = λ e. absurd cc;
      some = λ w e. subst (λ z. TellsList x s.methods.all.items z (successors_of s.lists.items c.in-Some-index.number)) (some_is e) known.1;
      empty = λ e. subst (λ z. TellsList x s.methods.all.items z (successors_of s.lists.items c.in-Some-index.number)) (some_is (sym c.in-Some.is ∙ held.empty e)) known.1;
    }
