use Rattle.std.proofs.Common.{◌≡◌, ◌≤◌, ◌+◌, [], length, take, subst, arith}
use Rattle.std.specs.List.{Contains}
use Rattle.std.specs.Prelude.{slice_index_or}
use Rattle.std.proofs.lemmas.List.{take_all}
use Rattle.jc_numbered.specs.inside.Shown.{indexed_of}
use Rattle.jc_resolve.specs.inside.Unimplemented.{Adds}
use Rattle.jc_resolve.proofs.lookups.AbstractLemmas.{none_in}
use Rattle.jc_resolve.proofs.lookups.AddsLemmas.{adds_none, adds_then, taken_cases}
use Rattle.jc_resolve.proofs.unimplemented.Search.push_of.Goals as goal

pub loop-number-init : goal.loop-number-init
loop-number-init c = record {
  added = adds_none (indexed_of c.args.classes.now) c.args.node c.args.self.now.methods.all.items (Contains []) c.args.added.now.items (λ m h i e p g s. none_in i p);
  room = c.requires.room;
}

pub loop-number-preserved : goal.loop-number-preserved
loop-number-preserved c =
    let x = indexed_of c.args.classes.now in
    let v = c.args.node in
    let all = c.args.self.now.methods.all.items in
    let ns = c.args.numbers.now in
    let n = c.loop-number.number-index in
    record {
      added = adds_then x v all (Contains (take n ns)) (λ i. i ≡ slice_index_or ns n 0) (Contains (take (n + 1) ns)) c.args.added.now.items c.loop-number.added.items _
          c.loop-number.invariant.added c.in_ok-push_one.ensures.added (λ i h. taken_cases ns n i c.loop-number-test.true h);
      room = c.in_ok-push_one.ensures.room;
    }

pub returns-clause-added : goal.returns-clause-added
returns-clause-added c =
    let ns = c.args.numbers.now in
    let n = c.loop-number.number-index in
    let end : length ns ≤ n = let q = c.loop-number-test.false in omega arith in
    subst (λ z. Adds (indexed_of c.args.classes.now) c.args.node c.args.self.now.methods.all.items (Contains z) c.args.added.now.items c.loop-number.added.items)
    (take_all n ns end) c.loop-number.invariant.added
