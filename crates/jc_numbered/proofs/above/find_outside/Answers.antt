use Rattle.std.proofs.Common.{◌≡◌, ◌<◌, length, sym, ap, subst, ◌∙◌}
use Rattle.std.specs.List.{All, filter}
use Rattle.jc_numbered.specs.inside.Outside.{lies_outside}
use Rattle.jc_numbered.specs.inside.Shown.{indexed_of}
use Rattle.jc_numbered.specs.inside.Picks.{TellsLowest}
use Rattle.jc_graph.proofs.marked.Climbs.{seen_in}
use Rattle.jc_numbered.proofs.lookups.Bridge.{filter_out}
use Rattle.jc_numbered.proofs.lookups.OutsideLemmas.{outside_of}
use Rattle.jc_numbered.proofs.above.find_outside.Goals as goal

pub lowest-requires : goal.lowest-requires
lowest-requires c =
    let list = c.args.seen.now.list in
    let out = lies_outside (indexed_of c.args.classes.now) in
    let e : c.as_slice.result.now ≡ filter out list = c.as_slice.ensures.value ∙ c.in_ok-nodes.ensures ∙ ap (filter out) c.nodes.ensures in
    let t = c.requires.seen in
    subst (λ ns. All (λ v. v < length c.args.classes.now.names.now) ns) (sym e) (seen_in (length c.args.classes.now.names.now) c.args.seen.now.flags list (filter out list) (t.size ∙ sym c.args.classes.now.names_size) t.seen (λ v h. (filter_out out list v h).0))

pub returns : goal.returns
returns c =
    let x = indexed_of c.args.classes.now in
    let list = c.args.seen.now.list in
    let e : c.as_slice.result.now ≡ filter (lies_outside x) list = c.as_slice.ensures.value ∙ c.in_ok-nodes.ensures ∙ ap (filter (lies_outside x)) c.nodes.ensures in
    λ m h. outside_of m (length c.args.classes.now.standing.now) x c.args.classes.now.graph h c.args.start c.requires.start c.args.seen.now.flags list c.requires.seen c.lowest.result
    (subst (λ ns. TellsLowest x ns c.lowest.result) e c.lowest.ensures)
