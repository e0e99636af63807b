use Rattle.std.proofs.Common.{◌≡◌, ◌<◌, ◌++◌, ◌∷◌, [], ℕ, length, take, refl, sym, ap, subst, ◌∙◌, arith}
use Rattle.std.proofs.lemmas.List.{get_or-map, length-map, length-take-le}
use Rattle.std.specs.declared.vec.Vec.{Vec}
use Rattle.std.specs.declared.alloc.Global.{Global}
use Rattle.jc_classes.specs.Names.{names_of}
use Rattle.jc_classes.specs.Numbers.{name_at}
use Rattle.jc_link.specs.Meters.{counted}
use Rattle.jc_link.specs.Graphs.{IsIn, ClassGraph}
use Rattle.jc_linkage.specs.declared.class_entry.NewEntry.{NewEntry}
use Rattle.jc_linkage.specs.inside.Kept.{AllFresh, IsClassAt, IsKeptOf, fresh_names}
use Rattle.jc_linkage.proofs.fresh.Counts.{counted_add, counted_none, names_length}
use Rattle.jc_linkage.proofs.fresh.FreshLists.{all_fresh_push, fresh_names_push, names_more}
use Rattle.jc_linkage.proofs.class_entry.make_fresh.Goals as goal

pub loop-name-init : goal.loop-name-init
loop-name-init c =
    let none = c.new-fresh.ensures.items in
    let meter = c.args.meter.now in
    record {
      names = ap fresh_names none;
      kept = λ m lies. subst (AllFresh m) (sym none) tt;
      graph = refl;
      made = counted_none meter.made meter.made_fit;
      made_rise = omega arith;
      asks = refl;
    }

pub make_one-requires : goal.make_one-requires
make_one-requires c =
    let names = c.args.names.now in
    let i = c.loop-name.name-index in
    let l : i < length names = c.loop-name-test.true in
    let size : length c.loop-name.fresh.items ≡ i =
    sym (length-map c.loop-name.fresh.items (λ (x : NewEntry). x.name.items)) ∙ ap length c.loop-name.invariant.names
    ∙ names_length (take i names) ∙ length-take-le i names (omega (arith, l)) in
    let place : c.len.result ≡ i = omega (arith, c.len.ensures, c.loop-name.fresh.ok.0, size) in
    let name : name_at (names_of names) i ≡ c.deref-in-loop-name.result.now =
    get_or-map (λ (v : Vec ℕ Global). v.items) names i c.name-item.result [] l
    ∙ ap (λ (v : Vec ℕ Global). v.items) (sym c.name-item.is) ∙ sym c.deref-in-loop-name.ensures.value in
    subst (λ (g : ClassGraph). IsClassAt g c.len.result c.deref-in-loop-name.result.now) (sym c.loop-name.invariant.graph)
    (subst (λ k. IsClassAt c.args.maker.now k c.deref-in-loop-name.result.now) (sym place)
    (subst (IsClassAt c.args.maker.now i) name (c.requires i l)))

pub loop-name-preserved : goal.loop-name-preserved
loop-name-preserved c =
    let x = c.in_ok-one.one in
    let xs = c.loop-name.fresh.items in
    let items : c.push.new.self.items ≡ xs ++ x ∷ [] = c.in_ok-push.ensures.items in
    let names = c.args.names.now in
    let i = c.loop-name.name-index in
    let named : x.name.items ≡ c.name-item.result.items = c.in_ok-one.ensures.name ∙ c.deref-in-loop-name.ensures.value in
    let meter = c.args.meter.now in
    record {
      names = ap fresh_names items ∙ fresh_names_push xs x
          ∙ ap (λ z. z ++ x.name.items ∷ []) c.loop-name.invariant.names
          ∙ ap (λ k. names_of (take i names) ++ k ∷ []) named
          ∙ sym (names_more names i c.name-item.result c.loop-name-test.true c.name-item.is);
      kept = λ m lies.
          subst (AllFresh m) (sym items) (all_fresh_push m xs x (c.loop-name.invariant.kept m lies)
          (subst (λ k. IsKeptOf m k x.kept) (sym c.in_ok-one.ensures.name) (c.in_ok-one.ensures.kept m (subst (IsIn m) (sym c.loop-name.invariant.graph) lies))));
      graph = c.make_one.ensures.graph ∙ c.loop-name.invariant.graph;
      made = c.in_ok-one.ensures.made ∙ ap (λ a. counted a 1) c.loop-name.invariant.made ∙ counted_add meter.made i 1;
      made_rise = omega (arith, c.loop-name.invariant.made_rise, c.make_one.ensures.made_rise);
      asks = c.make_one.ensures.asks ∙ c.loop-name.invariant.asks;
    }
