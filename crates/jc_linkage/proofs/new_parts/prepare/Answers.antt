use Rattle.std.proofs.Common.{◌≡◌, ◌∙◌, ◌==◌, ◌++◌, List, [], None, ap, false, is_some, length, sym, subst, true}
use Rattle.std.proofs.lemmas.Bool.{eqb-true}
use Rattle.std.specs.List.{Contains}
use Rattle.std.specs.Option.{option_copied, option_to_list}
use Rattle.jc_classes.specs.Names.{names_of}
use Rattle.jc_link.specs.Meters.{counted}
use Rattle.jc_link.specs.Graphs.{ClassGraph, IsIn}
use Rattle.jc_link.specs.Tables.{world}
use Rattle.jc_linkage.specs.inside.Kept.{fresh_names}
use Rattle.jc_linkage.specs.declared.class_entry.NewEntry.{NewEntry}
use Rattle.jc_linkage.specs.inside.Prepared.{IsPreparedOver}
use Rattle.jc_linkage.proofs.fresh.FreshLists.{names_append}
use Rattle.jc_linkage.proofs.fresh.NamesAsked.{graph_asked}
use Rattle.jc_linkage.proofs.fresh.NewcomersReady.{no_names, none_over, one_of_both, some_comes}
use Rattle.jc_linkage.proofs.new_parts.prepare.Goals as goal
use Rattle.jc_linkage.proofs.new_parts.prepare.Goals.{else-is_empty-via-then-is_empty+else-is_none, else-is_empty-via-else-is_empty}

pub prepare_all-requires-clause-classes : goal.prepare_all-requires-clause-classes
prepare_all-requires-clause-classes c = ap (λ (g : ClassGraph). g.classes) c.in_ok-maker.ensures ∙ c.in_ok-graph.ensures.classes

pub returns-clause-ready : goal.returns-clause-ready
returns-clause-ready c =
    let m = world c.args.table.now c.args.outside.now in
    let xs = names_of c.args.names.now in
    let o = option_copied c.args.comes in
    let graph = c.in_ok-graph.graph in
    let fresh = c.in_ok-fresh.fresh.items in
    let ready = c.in_ok-fresh.ensures.ready m (subst (IsIn m) (sym c.in_ok-maker.ensures) c.in_ok-graph.ensures.around.stands) in
    let named : fresh_names (fresh ++ ready.last) ≡ xs ++ option_to_list o =
    names_append fresh ready.last ∙ ap (λ ys. ys ++ fresh_names ready.last) ready.others ∙ ap (λ ys. xs ++ ys) ready.newcomer in
    let none : xs ≡ [] → o ≡ None → ⊥ = elim c.else-is_empty.branch [
      | else-is_empty-via-then-is_empty+else-is_none w ↦ λ e f. some_comes c.args.comes w.if-is_none.ensures f
      | else-is_empty-via-else-is_empty w ↦ λ e f. no_names c.args.names.now e w.if-is_empty.ensures
    ] in
    let some = one_of_both xs o none in
    record {
      ready = record {
        last = ready.last;
        others = ready.others;
        newcomer = ready.newcomer;
        parts = ready.parts;
        at = ready.at;
        made = ready.made ∙ ap (λ a. counted a (length (fresh_names (fresh ++ ready.last)))) c.around.ensures.made;
      };
      asked = graph_asked m graph (fresh_names (fresh ++ ready.last)) some.0 c.args.meter.now c.prepare_all.new.meter c.in_ok-graph.ensures.around
          (c.in_ok-graph.ensures.classes ∙ sym named) (subst (λ ys. Contains ys some.0) (sym named) some.1) (c.prepare_all.ensures.asks ∙ c.in_ok-graph.ensures.asks);
    }

pub returns-then-is_none-clause-ready : goal.returns-then-is_none-clause-ready
returns-then-is_none-clause-ready c =
    let a = c.args in
    let empty : true ≡ (length a.names.now == 0) = c.if-is_empty.ensures in
    let none : is_some a.comes ≡ false = c.if-is_none.ensures in
    subst (λ (fresh : List NewEntry). IsPreparedOver a.table.now a.outside.now a.names.now a.comes a.kept.now a.kept.now fresh a.meter.now a.meter.now)
    (sym c.new.ensures.items)
    (none_over a.table.now a.outside.now a.names.now a.comes a.kept.now a.meter.now (eqb-true (length a.names.now) 0 (sym empty)) none)
