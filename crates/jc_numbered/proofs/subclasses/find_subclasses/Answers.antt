use Rattle.std.proofs.Common.{◌≡◌, ◌∙◌, None, length, replicate, sym, ap}
use Rattle.std.proofs.lemmas.List.{length-replicate}
use Rattle.jc_numbered.proofs.lookups.SubclassLemmas.{no_some, none_below, none_copied}
use Rattle.jc_numbered.proofs.subclasses.find_subclasses.Goals as goal

pub loop-node-init : goal.loop-node-init
loop-node-init c =
    let count = length c.args.classes.now.standing.now in
    let first : c.in_ok-vec.field-0.items ≡ replicate c.len.result None = c.in_ok-vec.ensures.items_if_clones_equal (none_copied _ (λ w h. h)) in
    let next : c.in_ok-vec-2.field-0.items ≡ replicate c.len-2.result None = c.in_ok-vec-2.ensures.items_if_clones_equal (none_copied _ (λ w h. h)) in
    record {
      first_size = ap length first ∙ length-replicate c.len.result None ∙ c.len.ensures;
      next_size = ap length next ∙ length-replicate c.len-2.result None ∙ c.len-2.ensures;
      first = none_below count c.len.result _ first;
      next = none_below count c.len-2.result _ next;
      root = λ v e. no_some e;
    }
