use Rattle.std.proofs.Common.{None, ap, length, refl, replicate, ◌∙◌}
use Rattle.jc_numbered.specs.inside.Shown.{indexed_of}
use Rattle.jc_numbered.proofs.lookups.SubclassLemmas.{none_copied}
use Rattle.jc_resolve.proofs.lookups.SearchLemmas.{search_begins}
use Rattle.jc_resolve.proofs.unimplemented.Search.new.Goals as goal

pub returns : goal.returns
returns c = search_begins (length c.args.classes.now.standing.now) (indexed_of c.args.classes.now) _ c.new.result c.in_ok-methods.ensures
    (c.in_ok-list_of.ensures.items_if_clones_equal (none_copied _ (λ w h. h)) ∙ ap (λ n. replicate n None) c.len.ensures) c.in_ok-lists.ensures.items c.new.ensures.items refl
