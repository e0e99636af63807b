use Rattle.std.proofs.Common.{◌∙◌, ◌<◌, ◌≤◌, length, ap, arith, subst, ⊎_elim}
use Rattle.std.proofs.lemmas.Bool.{cases_lt}
use Rattle.std.proofs.lemmas.List.{length-set}
use Rattle.jc_resolve.specs.inside.Unimplemented.{IsInOrder}
use Rattle.jc_resolve.proofs.lookups.AbstractLemmas.{item_there}
use Rattle.jc_resolve.proofs.lookups.SortedLists.{all_done, done_before, done_on, left_on}
use Rattle.jc_resolve.proofs.unimplemented.sort_all.Goals as goal

pub loop-place-preserved : goal.loop-place-preserved
loop-place-preserved c =
    let first = c.args.lists.now.items in
    let cur = c.loop-place.lists.items in
    let p = c.loop-place.place in
    let held = c.loop-place.invariant in
    let w = c.sort_one.new.list in
    let l : p < length cur = let q = c.loop-place-test.true in let r = c.len-place-end.ensures in let z = held.size in omega (arith, q, r, z) in
    let is = subst (λ z. IsInOrder z w.items) (ap (λ z. z.items) c.index_mut.ensures.value ∙ item_there cur p c.index_mut.result.now l) c.sort_one.ensures in
    record {
      size = length-set cur p w ∙ held.size;
      done = λ n m. ⊎_elim (done_before first cur p held.done held.left w l is n) (λ o. done_on first cur p held.done held.left w l is n m (λ q. omega (arith, q, o))) (cases_lt n p);
      left = left_on first cur p held.done held.left w l is;
    }

pub returns : goal.returns
returns c =
    let first = c.args.lists.now.items in
    let cur = c.loop-place.lists.items in
    let p = c.loop-place.place in
    let held = c.loop-place.invariant in
    let l : length first ≤ p = let q = c.loop-place-test.false in let r = c.len-place-end.ensures in omega (arith, q, r) in
    λ n. ⊎_elim (held.done n) (λ o. all_done first cur p held.done held.left l n (λ q. omega (arith, q, o))) (cases_lt n p)
