use Rattle.std.proofs.Common.{◌≡◌, ◌∙◌, ◌<◌, ◌≤◌, ◌+◌, [], length, take, ap, subst, sym, arith, inl, inr, ⊎_elim}
use Rattle.std.specs.List.{Contains, filter}
use Rattle.std.specs.Prelude.{slice_index_or}
use Rattle.std.proofs.lemmas.List.{take_all}
use Rattle.jc_graph.specs.Graph.{successors_of}
use Rattle.jc_numbered.specs.inside.Picks.{is_interface_at}
use Rattle.jc_numbered.specs.inside.Shown.{indexed_of}
use Rattle.jc_resolve.specs.inside.Unimplemented.{Adds, IsOf}
use Rattle.jc_resolve.proofs.lookups.AbstractLemmas.{item_there, none_in}
use Rattle.jc_resolve.proofs.lookups.AddsLemmas.{adds_none, adds_then, taken_cases}
use Rattle.jc_resolve.proofs.lookups.InterfaceLemmas.{adds_all, interfaces_within}
use Rattle.jc_resolve.proofs.unimplemented.Search.push_of_interfaces.Goals as goal

pub loop-interface-init : goal.loop-interface-init
loop-interface-init c = record {
  added = adds_none (indexed_of c.args.classes.now) c.args.node c.args.self.now.methods.all.items (IsOf c.args.self.now []) c.args.added.now.items (λ m h i e p g s. none_in p.0 p.1);
  room = record { above = c.in_ok-see.ensures.known; covered = c.requires.room.covered };
}

pub index-requires : goal.index-requires
index-requires c =
    let count = length c.args.classes.now.standing.now in
    let within = interfaces_within count (indexed_of c.args.classes.now) c.args.node c.see.new.self.seen.flags c.see.new.self.seen.list c.in_ok-see.ensures.seen.seen c.deref-interface-items.result.now
    (c.deref-interface-items.ensures.value ∙ c.in_ok-interfaces.ensures.items ∙ c.interfaces.ensures ∙ c.in_ok-see.ensures.seen.interfaces) in
    let l = within c.loop-interface.interface-index 0 c.loop-interface-test.true in
    let size = c.requires.search.methods.of_class.size in
    let held = c.args.self.now.methods.of_class.ok in
    omega (arith, l, size, held)

pub push_of-requires-clause-methods : goal.push_of-requires-clause-methods
push_of-requires-clause-methods c = λ e h. (c.requires.search.methods.all.sound e h).0

pub loop-interface-preserved : goal.loop-interface-preserved
loop-interface-preserved c =
    let x = indexed_of c.args.classes.now in
    let v = c.args.node in
    let all = c.args.self.now.methods.all.items in
    let vs = c.deref-interface-items.result.now in
    let n = c.loop-interface.interface-index in
    let of = c.args.self.now.methods.of_class.items in
    let u = slice_index_or vs n 0 in
    let within = interfaces_within (length c.args.classes.now.standing.now) x v c.see.new.self.seen.flags c.see.new.self.seen.list c.in_ok-see.ensures.seen.seen vs
    (c.deref-interface-items.ensures.value ∙ c.in_ok-interfaces.ensures.items ∙ c.interfaces.ensures ∙ c.in_ok-see.ensures.seen.interfaces) in
    let l : u < length of = let q = within n 0 c.loop-interface-test.true in let r = c.requires.search.methods.of_class.size in omega (arith, q, r) in
    let is : c.as_slice-numbers.result.now ≡ successors_of of u = c.as_slice-numbers.ensures.value ∙ ap (λ z. z.items) c.index.ensures ∙ item_there of u c.index.result.now l in
    record {
      added = adds_then x v all (IsOf c.args.self.now (take n vs)) (Contains c.as_slice-numbers.result.now) (IsOf c.args.self.now (take (n + 1) vs)) c.args.added.now.items c.loop-interface.added.items _
          c.loop-interface.invariant.added c.in_ok-push_of.ensures.added
          (λ i h. ⊎_elim
          (λ p. inl (h.0, p, h.2))
          (λ p. inr (subst (λ z. Contains z i) (sym is) (subst (λ z. Contains (successors_of c.args.self.now.methods.of_class.items z) i) p h.2)))
          (taken_cases vs n h.0 c.loop-interface-test.true h.1));
      room = c.in_ok-push_of.ensures.room;
    }

pub returns-clause-added : goal.returns-clause-added
returns-clause-added c =
    let x = indexed_of c.args.classes.now in
    let s = c.args.self.now in
    let vs = c.deref-interface-items.result.now in
    let n = c.loop-interface.interface-index in
    let list = c.see.new.self.seen.list in
    let e : vs ≡ filter (is_interface_at x) list = c.deref-interface-items.ensures.value ∙ c.in_ok-interfaces.ensures.items ∙ c.interfaces.ensures ∙ c.in_ok-see.ensures.seen.interfaces in
    let end : length vs ≤ n = let q = c.loop-interface-test.false in omega arith in
    adds_all (length c.args.classes.now.standing.now) x c.args.classes.now.graph c.args.node c.requires.node c.see.new.self.seen.flags list c.in_ok-see.ensures.seen.seen
    s c.requires.search.methods c.args.added.now.items c.loop-interface.added.items
    (subst (λ z. Adds x c.args.node s.methods.all.items (IsOf s z) c.args.added.now.items c.loop-interface.added.items) (take_all n vs end ∙ e) c.loop-interface.invariant.added)
