use Rattle.std.proofs.Common.{◌∙◌, length, arith, ap, sym, subst}
use Rattle.std.specs.Option.{option_copied, option_to_list}
use Rattle.jc_classes.specs.Names.{names_of}
use Rattle.jc_link.specs.Graphs.{ClassGraph, IsIn}
use Rattle.jc_link.specs.Meters.{counted}
use Rattle.jc_linkage.proofs.fresh.Counts.{names_length}
use Rattle.jc_linkage.proofs.fresh.NewcomersReady.{class_behind, class_front, newcomer_absent, ready_both}
use Rattle.jc_linkage.proofs.new_parts.prepare_all.Goals as goal

pub make_fresh-requires : goal.make_fresh-requires
make_fresh-requires c = λ place l.
    class_front (names_of c.args.names.now) (option_to_list (option_copied c.args.comes)) c.args.maker.now c.requires.classes place
    (omega (arith, l, names_length c.args.names.now))

pub make_newcomer-requires : goal.make_newcomer-requires
make_newcomer-requires c = λ n comes.
    let xs = names_of c.args.names.now in
    let o = option_copied c.args.comes in
    let classes = ap (λ (g : ClassGraph). g.classes) c.make_fresh.ensures.graph ∙ c.requires.classes in
    class_behind xs o c.make_fresh.new.maker classes (length c.args.names.now) (names_length c.args.names.now) n comes

pub link_all-requires-clause-linked : goal.link_all-requires-clause-linked
link_all-requires-clause-linked c = c.requires.linked

pub link_all-requires-clause-absent : goal.link_all-requires-clause-absent
link_all-requires-clause-absent c =
    newcomer_absent c.in_ok-newcomer.newcomer (option_copied c.args.comes) c.args.kept.now c.in_ok-newcomer.ensures.names c.requires.absent

pub returns-clause-ready : goal.returns-clause-ready
returns-clause-ready c = λ m lies.
    let names = c.args.names.now in
    let fresh = c.in_ok-fresh.ensures in
    let newcomer = c.in_ok-newcomer.ensures in
    ready_both m (names_of names) (option_copied c.args.comes) c.args.kept.now c.link_all.new.kept c.in_ok-fresh.fresh.items (option_to_list c.in_ok-newcomer.newcomer)
    c.args.meter.now c.make_fresh.new.meter c.make_newcomer.new.meter
    fresh.names (fresh.kept m lies) (fresh.made ∙ ap (counted c.args.meter.now.made) (sym (names_length names)))
    newcomer.names (newcomer.kept m (subst (IsIn m) (sym c.make_fresh.ensures.graph) lies)) newcomer.made
    c.in_ok-link_all.ensures.kept_ok
