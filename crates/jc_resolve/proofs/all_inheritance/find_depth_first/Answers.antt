use Rattle.std.proofs.Common.{◌≡◌, ◌∙◌, Some, sym, subst, ⊎_elim}
use Rattle.std.specs.Prelude.{slice_index_or}
use Rattle.std.proofs.lemmas.List.{length-set}
use Rattle.jc_classes.specs.Inheritance.{InheritanceErrors}
use Rattle.jc_file.proofs.keys.NumberedTexts.{set_cases}
use Rattle.jc_numbered.specs.inside.Loading.{load_at}
use Rattle.jc_numbered.specs.inside.Shown.{indexed_of}
use Rattle.jc_resolve.specs.inside.Inheritance.{TellsErrorsOf}
use Rattle.jc_resolve.proofs.all_inheritance.find_depth_first.Goals as goal

some_is : {X : Type 0} {a b : X} → Some a ≡ Some b → a ≡ b
some_is e = cc

pub loop-node-preserved : goal.loop-node-preserved
loop-node-preserved c =
    let x = indexed_of c.args.classes.now in
    let loads = c.args.loads.now in
    let node = slice_index_or c.deref-node-items.result.now c.loop-node.node-index 0 in
    let new = c.replace.new.dest in
    record {
      size = length-set c.loop-node.found.items node new ∙ c.loop-node.invariant.size;
      found = λ v e h. ⊎_elim (c.loop-node.invariant.found v e)
          (λ q.
          let same : c.in_ok-errors.errors ≡ e = some_is (sym c.replace.ensures.after ∙ sym q.1) in
          subst (λ z. TellsErrorsOf x (load_at loads z) z e) (sym q.0)
          (subst (λ (z : InheritanceErrors). TellsErrorsOf x (load_at loads node) node z) same c.in_ok-errors.ensures.errors))
          (set_cases c.loop-node.found.items node new v (Some e) h);
      search = c.in_ok-errors.ensures.search;
    }
