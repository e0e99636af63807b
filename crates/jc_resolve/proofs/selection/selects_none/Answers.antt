use Rattle.std.proofs.Common.{◌≡◌, ◌<◌, Bool, true, false, not, length, refl, sym, ap, subst, ◌∙◌, arith}
use Rattle.std.proofs.lemmas.Bool.{false≢true}
use Rattle.std.specs.List.{All, filter}
use Rattle.std.proofs.lemmas.List.Elements.{All-weaker}
use Rattle.jc_classes.specs.Lent.{key_lent}
use Rattle.jc_numbered.specs.inside.Shown.{indexed_of}
use Rattle.jc_numbered.specs.inside.Picks.{TellsLowest, is_interface_at, is_pick, offers}
use Rattle.jc_graph.proofs.marked.Climbs.{seen_in}
use Rattle.jc_numbered.proofs.lookups.Bridge.{filter_out, offers_interfaces}
use Rattle.jc_graph.specs.Seen.{TellsAbove}
use Rattle.jc_resolve.specs.inside.Picks.{TellsSole}
use Rattle.jc_resolve.specs.inside.Selection.{is_abstract_at}
use Rattle.jc_resolve.proofs.lookups.Choose.{lowest_found, lowest_in, lowest_refuted, sole_decided}
use Rattle.jc_resolve.proofs.selection.selects_none.Goals as goal

not_yes : (b : Bool) → not b ≡ true → b ≡ false
not_yes true e = absurd (false≢true e)
not_yes false e = refl

not_no : (b : Bool) → not b ≡ false → b ≡ true
not_no true e = refl
not_no false e = absurd (false≢true (sym e))

pub candidates-requires : goal.candidates-requires
candidates-requires c =
    let x = indexed_of c.args.classes.now in
    let count = length c.args.classes.now.standing.now in
    let list = c.see.new.self.seen.list in
    let t = c.in_ok-see.ensures.seen.seen in
    subst (λ ns. All (λ v. v < count) ns) (sym (c.interfaces.ensures ∙ c.in_ok-see.ensures.seen.interfaces))
    (seen_in count c.see.new.self.seen.flags list (filter (is_interface_at x) list) t.size t.seen (λ v h. (filter_out (is_interface_at x) list v h).0))

pub abstract_among-requires : goal.abstract_among-requires
abstract_among-requires c =
    let x = indexed_of c.args.classes.now in
    let k = key_lent c.args.key in
    let count = length c.args.classes.now.standing.now in
    let list = c.see.new.self.seen.list in
    let t = c.in_ok-see.ensures.seen.seen in
    let e : c.as_slice.result.now ≡ filter (offers x k) list = c.as_slice.ensures.value ∙ c.in_ok-nodes.ensures ∙ ap (filter (offers x k)) (c.interfaces.ensures ∙ c.in_ok-see.ensures.seen.interfaces) ∙ offers_interfaces x k list in
    subst (λ ns. All (λ v. v < count) ns) (sym e) (seen_in count c.see.new.self.seen.flags list (filter (offers x k) list) t.size t.seen (λ v h. (filter_out (offers x k) list v h).0))

pub lowest-requires : goal.lowest-requires
lowest-requires c =
    let x = indexed_of c.args.classes.now in
    let k = key_lent c.args.key in
    let count = length c.args.classes.now.standing.now in
    let list = c.see.new.self.seen.list in
    let t = c.in_ok-see.ensures.seen.seen in
    let nodes : c.as_slice.result.now ≡ filter (offers x k) list = c.as_slice.ensures.value ∙ c.in_ok-nodes.ensures ∙ ap (filter (offers x k)) (c.interfaces.ensures ∙ c.in_ok-see.ensures.seen.interfaces) ∙ offers_interfaces x k list in
    let e : c.as_slice-2.result.now ≡ filter (is_abstract_at x k) (filter (offers x k) list) = c.as_slice-2.ensures.value ∙ c.in_ok-abstracts.ensures ∙ ap (filter (is_abstract_at x k)) nodes in
    subst (λ ns. All (λ v. v < length c.args.classes.now.names.now) ns) (sym e)
    (All-weaker (λ v. v < count) (λ v. v < length c.args.classes.now.names.now) (λ v l. let q = c.args.classes.now.names_size in omega (arith, l, q)) (filter (is_abstract_at x k) (filter (offers x k) list))
    (seen_in count c.see.new.self.seen.flags list (filter (is_abstract_at x k) (filter (offers x k) list)) t.size t.seen
    (λ v h. (filter_out (offers x k) list v (filter_out (is_abstract_at x k) (filter (offers x k) list) v h).0).0)))

pub see_above-requires-clause-starts : goal.see_above-requires-clause-starts
see_above-requires-clause-starts c =
    let x = indexed_of c.args.classes.now in
    let k = key_lent c.args.key in
    let count = length c.args.classes.now.standing.now in
    let list = c.see.new.self.seen.list in
    let t = c.in_ok-see.ensures.seen.seen in
    let e : c.as_slice-3.result.now ≡ filter (offers x k) list = c.as_slice-3.ensures.value ∙ c.in_ok-nodes.ensures ∙ ap (filter (offers x k)) (c.interfaces.ensures ∙ c.in_ok-see.ensures.seen.interfaces) ∙ offers_interfaces x k list in
    subst (λ ns. All (λ v. v < count) ns) (sym e) (seen_in count c.see.new.self.seen.flags list (filter (offers x k) list) t.size t.seen (λ v h. (filter_out (offers x k) list v h).0))

pub sole_pick-requires-clause-nodes : goal.sole_pick-requires-clause-nodes
sole_pick-requires-clause-nodes c =
    let x = indexed_of c.args.classes.now in
    let k = key_lent c.args.key in
    let count = length c.args.classes.now.standing.now in
    let list = c.see.new.self.seen.list in
    let t = c.in_ok-see.ensures.seen.seen in
    let e : c.as_slice-4.result.now ≡ filter (offers x k) list = c.as_slice-4.ensures.value ∙ c.in_ok-nodes.ensures ∙ ap (filter (offers x k)) (c.interfaces.ensures ∙ c.in_ok-see.ensures.seen.interfaces) ∙ offers_interfaces x k list in
    subst (λ ns. All (λ v. v < count) ns) (sym e) (seen_in count c.see.new.self.seen.flags list (filter (offers x k) list) t.size t.seen (λ v h. (filter_out (offers x k) list v h).0))

pub returns-then-ne-clause-none : goal.returns-then-ne-clause-none
returns-then-ne-clause-none c =
    let x = indexed_of c.args.classes.now in
    let k = key_lent c.args.key in
    let count = length c.args.classes.now.standing.now in
    let graph = c.args.classes.now.graph in
    let flags = c.see.new.self.seen.flags in
    let list = c.see.new.self.seen.list in
    let t = c.in_ok-see.ensures.seen.seen in
    let nodes : c.as_slice.result.now ≡ filter (offers x k) list = c.as_slice.ensures.value ∙ c.in_ok-nodes.ensures ∙ ap (filter (offers x k)) (c.interfaces.ensures ∙ c.in_ok-see.ensures.seen.interfaces) ∙ offers_interfaces x k list in
    let e : c.as_slice-2.result.now ≡ filter (is_abstract_at x k) (filter (offers x k) list) = c.as_slice-2.ensures.value ∙ c.in_ok-abstracts.ensures ∙ ap (filter (is_abstract_at x k)) nodes in
    λ m h. (
      λ f. absurd (false≢true f),
      λ n. absurd (lowest_refuted m count x graph h k c.args.class c.requires.class flags list t c.args.home c.lowest.result
          (subst (λ ns. TellsLowest x ns c.lowest.result) e c.lowest.ensures)
          (not_yes _ (sym c.ne.ensures ∙ c.if-ne.true))
          (lowest_in m count x graph h k c.args.class c.requires.class flags list t c.args.home c.requires.home n)),
    )

pub returns-clause-none : goal.returns-clause-none
returns-clause-none c =
    let x = indexed_of c.args.classes.now in
    let k = key_lent c.args.key in
    let count = length c.args.classes.now.standing.now in
    let graph = c.args.classes.now.graph in
    let flags = c.see.new.self.seen.flags in
    let list = c.see.new.self.seen.list in
    let t = c.in_ok-see.ensures.seen.seen in
    let covered = c.see_above.new.seen.flags in
    let raw = c.in_ok-nodes.ensures ∙ ap (filter (offers x k)) (c.interfaces.ensures ∙ c.in_ok-see.ensures.seen.interfaces) ∙ offers_interfaces x k list in
    let e2 : c.as_slice-2.result.now ≡ filter (is_abstract_at x k) (filter (offers x k) list) = c.as_slice-2.ensures.value ∙ c.in_ok-abstracts.ensures ∙ ap (filter (is_abstract_at x k)) (c.as_slice.ensures.value ∙ raw) in
    let e3 : c.as_slice-3.result.now ≡ filter (offers x k) list = c.as_slice-3.ensures.value ∙ raw in
    let e4 : c.as_slice-4.result.now ≡ filter (offers x k) list = c.as_slice-4.ensures.value ∙ raw in
    λ m h.
    let low = lowest_found m count x graph h k c.args.class c.requires.class flags list t c.args.home c.lowest.result
    (subst (λ ns. TellsLowest x ns c.lowest.result) e2 c.lowest.ensures)
    (not_no _ (sym c.ne.ensures ∙ c.if-ne.false)) in
    sole_decided m count x graph h k c.args.class c.requires.class flags list t covered c.see_above.new.seen.list
    (subst (λ ns. TellsAbove count x.supertypes ns covered c.see_above.new.seen.list) e3 c.in_ok-see_above.ensures)
    c.args.home (λ d. false≢true (sym c.if-inherits_instance.false ∙ (c.inherits_instance.ensures m h).1 d)) low c.sole_pick.result c.is_none.result c.is_none.ensures
    (subst (λ ns. TellsSole (is_pick x k covered) ns c.sole_pick.result) e4 c.sole_pick.ensures)
