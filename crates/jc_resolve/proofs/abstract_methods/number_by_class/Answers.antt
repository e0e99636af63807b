use Rattle.std.proofs.Common.{◌∙◌, ◌+◌, ◌<◌, ◌++◌, ◌∷◌, [], length, ap, arith, subst, sym}
use Rattle.std.specs.Prelude.{slice_index_or}
use Rattle.jc_resolve.specs.declared.abstract_methods.AbstractMethod.{AbstractMethod}
use Rattle.jc_resolve.specs.inside.AbstractMethods.{AreNumbers}
use Rattle.jc_resolve.proofs.lookups.AbstractLemmas.{get_there, item_there, numbers_on, numbers_past}
use Rattle.jc_resolve.proofs.abstract_methods.number_by_class.Goals.{then-node-len+in_ok-push, else-node-len}
use Rattle.jc_resolve.proofs.abstract_methods.number_by_class.Goals as goal

abbrev nothing : AbstractMethod
nothing = record {
  class = record { ref_ptr = (0, 0); now = [] };
  name = record { ref_ptr = (0, 0); now = [] };
  descriptor = record { ref_ptr = (0, 0); now = [] };
  node = 0;
  flags = 0;
}

pub loop-number-preserved : goal.loop-number-preserved
loop-number-preserved c =
    let all = c.args.all.now in
    let n = c.loop-number.number in
    let count = c.args.count in
    let old = c.loop-number.of_class.items in
    let e : AbstractMethod = slice_index_or all n nothing in
    let there = get_there all n nothing c.loop-number-test.true in
    elim c.if-node-len.branch [
      | then-node-len+in_ok-push w ↦
          let l : e.node < length old = let q = w.if-node-len.true in let r = c.len.ensures in omega arith in
          subst (AreNumbers count (n + 1) all) (ap (λ z. z.items) (sym w.of_class-is))
          (numbers_on count n all old w.push.new.self e there c.loop-number.invariant l
          (w.in_ok-push.ensures.items ∙ ap (λ l. l ++ n ∷ []) (ap (λ z. z.items) w.index_mut.ensures.value ∙ item_there old e.node w.index_mut.result.now l)))
      | else-node-len w ↦
          subst (AreNumbers count (n + 1) all) (ap (λ z. z.items) (sym w.of_class-is))
          (numbers_past count n all old e there c.loop-number.invariant (λ h. absurd (let q = w.if-node-len.false in let r = c.len.ensures in omega (arith, h))))
    ]
