use Rattle.std.proofs.Common.{◌≡◌, ◌<◌, length, sym, ap, subst, ◌∙◌}
use Rattle.std.specs.List.{All, filter}
use Rattle.jc_classes.specs.Lent.{key_lent}
use Rattle.jc_numbered.specs.inside.Shown.{indexed_of}
use Rattle.jc_numbered.specs.inside.Picks.{is_interface_at, offers}
use Rattle.jc_graph.proofs.marked.Climbs.{seen_in}
use Rattle.jc_numbered.proofs.lookups.Bridge.{filter_out, offers_interfaces}
use Rattle.jc_resolve.proofs.lookups.IfOks.{if_ok_map}
use Rattle.jc_resolve.proofs.superinterfaces.find_above.Goals as goal

pub candidates-requires : goal.candidates-requires
candidates-requires c =
    let x = indexed_of c.args.classes.now in
    let count = length c.args.classes.now.standing.now in
    let list = c.see.new.self.seen.list in
    let t = c.in_ok-see.ensures.seen.seen in
    subst (λ ns. All (λ v. v < count) ns) (sym (c.interfaces.ensures ∙ c.in_ok-see.ensures.seen.interfaces))
    (seen_in count c.see.new.self.seen.flags list (filter (is_interface_at x) list) t.size t.seen (λ v h. (filter_out (is_interface_at x) list v h).0))

pub choose-requires-clause-nodes : goal.choose-requires-clause-nodes
choose-requires-clause-nodes c =
    let x = indexed_of c.args.classes.now in
    let k = key_lent c.args.key in
    let list = c.see.new.self.seen.list in
    let e : c.as_slice.result.now ≡ filter (offers x k) list = c.as_slice.ensures.value ∙ c.in_ok-nodes.ensures ∙ ap (filter (offers x k)) (c.interfaces.ensures ∙ c.in_ok-see.ensures.seen.interfaces) ∙ offers_interfaces x k list in
    let t = c.in_ok-see.ensures.seen.seen in
    subst (λ ns. All (λ v. v < length c.args.classes.now.standing.now) ns) (sym e) (seen_in (length c.args.classes.now.standing.now) c.see.new.self.seen.flags list (filter (offers x k) list) t.size t.seen (λ v h. (filter_out (offers x k) list v h).0))

pub see-requires-clause-above : goal.see-requires-clause-above
see-requires-clause-above c = c.requires.room.above

pub choose-requires-clause-covered : goal.choose-requires-clause-covered
choose-requires-clause-covered c = c.requires.room.covered

pub returns-clause-found : goal.returns-clause-found
returns-clause-found c =
    let x = indexed_of c.args.classes.now in
    let k = key_lent c.args.key in
    let list = c.see.new.self.seen.list in
    let e : c.as_slice.result.now ≡ filter (offers x k) list = c.as_slice.ensures.value ∙ c.in_ok-nodes.ensures ∙ ap (filter (offers x k)) (c.interfaces.ensures ∙ c.in_ok-see.ensures.seen.interfaces) ∙ offers_interfaces x k list in
    if_ok_map c.choose.result _ _ (λ r f. f c.args.start c.see.new.self.seen c.requires.start c.in_ok-see.ensures.seen.seen e) c.choose.ensures.chosen
