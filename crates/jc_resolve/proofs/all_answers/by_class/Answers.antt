use Rattle.std.proofs.Common.{length, sym, subst}
use Rattle.jc_classes.specs.Facts.{AreNumbers}
use Rattle.jc_resolve.proofs.answering.Asking.{numbers_sorted}
use Rattle.jc_resolve.proofs.all_answers.by_class.Goals as goal
use Rattle.jc_resolve.proofs.all_answers.by_class.Goals.{then-most_walked-ge-FEW+in_ok-sort_by_key, else-most_walked-ge-FEW}

pub returns : goal.returns
returns c =
    let count = length c.args.facts.now.references in
    let alike = c.in_ok-order.order.items in
    elim c.if-most_walked-ge-FEW.branch [
      | then-most_walked-ge-FEW+in_ok-sort_by_key w ↦ subst (λ o. AreNumbers count o.items) (sym w.order-is) (numbers_sorted count alike w.sort_by_key.new.self.items w.sort_by_key.ensures.permutation c.in_ok-order.ensures)
      | else-most_walked-ge-FEW w ↦ subst (λ o. AreNumbers count o.items) (sym w.order-is) c.in_ok-order.ensures
    ]
