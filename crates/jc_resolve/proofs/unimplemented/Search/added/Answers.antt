use Rattle.std.proofs.Common.{◌≡◌, ◌∙◌, Bool, true, false, not, length, ap, refl, subst, sym, arith}
use Rattle.std.proofs.lemmas.Bool.{false≢true}
use Rattle.jc_graph.specs.Graph.{successors_of}
use Rattle.jc_numbered.specs.inside.Shown.{indexed_of}
use Rattle.jc_resolve.specs.inside.Unimplemented.{AreAdded}
use Rattle.jc_resolve.proofs.lookups.AbstractLemmas.{item_there}
use Rattle.jc_resolve.proofs.lookups.SearchLemmas.{added_all, added_own}
use Rattle.jc_resolve.proofs.unimplemented.Search.added.Goals.{then-has_interfaces+in_ok-push_of_interfaces, else-has_interfaces}
use Rattle.jc_resolve.proofs.unimplemented.Search.added.Goals as goal

not_no : (b : Bool) → not b ≡ false → b ≡ true
not_no true e = refl
not_no false e = absurd (false≢true (sym e))

pub returns-clause-added : goal.returns-clause-added
returns-clause-added c =
    let x = indexed_of c.args.classes.now in
    let v = c.args.node in
    let s = c.args.self.now in
    let count = length c.args.classes.now.standing.now in
    let of = s.methods.of_class.items in
    let are = c.requires.search.methods in
    let own = c.in_ok-added.added.items in
    let first : own ≡ successors_of of v = c.in_ok-added.ensures.items ∙ c.as_slice.ensures.value ∙ ap (λ z. z.items) c.index.ensures
    ∙ item_there of v c.index.result.now (let l = c.requires.node in let q = are.of_class.size in omega arith) in
    elim c.if-has_interfaces.branch [
      | then-has_interfaces+in_ok-push_of_interfaces w ↦ subst (λ z. AreAdded x v s z.items) (sym w.added-is)
          (added_all count x v s are own first w.push_of_interfaces.new.added.items w.in_ok-push_of_interfaces.ensures.added)
      | else-has_interfaces w ↦ subst (λ z. AreAdded x v s z.items) (sym w.added-is)
          (added_own count x v s are own first (not_no _ (sym c.has_interfaces.ensures ∙ w.if-has_interfaces.false)))
    ]
