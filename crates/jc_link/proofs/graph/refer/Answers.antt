use Rattle.std.proofs.Common.{◌≡◌, ◌+◌, ◌<◌, ◌∙◌, ◌++◌, ◌∷◌, [], ℕ, Option, length, length-append, map, arith, refl, sym, ap, subst}
use Rattle.std.proofs.lemmas.List.{get_or-map, length-map, map-append}
use Rattle.std.specs.List.{Contains}
use Rattle.std.specs.declared.vec.Vec.{Vec}
use Rattle.std.specs.declared.alloc.Global.{Global}
use Rattle.jc_classes.specs.Lent.{stands_of}
use Rattle.jc_classes.specs.Numbers.{name_at}
use Rattle.jc_classes.specs.Worlds.{World}
use Rattle.jc_classes.specs.Worlds.Stands.{Absent}
use Rattle.jc_link.specs.inside.Gathering.{stand_at, stands_in, supertypes_in}
use Rattle.jc_link.specs.inside.GraphAsked.{AreReferredIn, IsAskedBy}
use Rattle.jc_link.specs.inside.GraphShown.{class_at, nodes_in}
use Rattle.jc_link.proofs.graphs.Asked.{asked_more}
use Rattle.jc_link.proofs.graphs.ClassesNumbered.{contained_at, kept_all, kept_by_growth, name_there}
use Rattle.jc_link.proofs.graphs.Reaching.{reached_by, referred_none, referred_one}
use Rattle.jc_link.proofs.graph.refer.Goals as goal

pub loop-class-init : goal.loop-class-init
loop-class-init c =
    let none = ap nodes_in c.in_ok-references.ensures.items in
    record {
      size = ap length none;
      once = c.requires.once;
      kept = kept_all c.args.numbers.now;
      asked = λ m h. h;
      referred = λ m h. subst (AreReferredIn m c.args.numbers.now c.args.classes.now) (sym none) (referred_none m c.args.numbers.now c.args.classes.now);
      reached = λ m h all. all;
    }

pub number_references-requires : goal.number_references-requires
number_references-requires c = c.loop-class.invariant.once

pub loop-class-preserved : goal.loop-class-preserved
loop-class-preserved c =
    let a = c.args.numbers.now in
    let b = c.loop-class.numbers in
    let d = c.number_references.new.numbers in
    let classes = c.args.classes.now in
    let r = c.args.reached.now in
    let st = stands_in r.standing.items in
    let rs = supertypes_in r.supertypes.items in
    let i = c.loop-class.class-index in
    let l : i < length classes = c.loop-class-test.true in
    let at = class_at classes i in
    let o = stands_of c.index.result.now in
    let refs = nodes_in c.loop-class.references.items in
    let nodes = c.in_ok-nodes.nodes.items in
    let more = c.in_ok-nodes.ensures in
    let inv = c.loop-class.invariant in
    let here : at < length st = c.requires.classes i 0 l in
    let inside : at < length r.standing.items = omega (arith, here, length-map r.standing.items stands_of) in
    let own : o ≡ stand_at st at = ap stands_of c.index.ensures ∙ sym (get_or-map stands_of r.standing.items at _ Absent inside) in
    let pushed : nodes_in c.push.new.self.items ≡ refs ++ nodes ∷ [] =
    ap nodes_in c.in_ok-push.ensures.items ∙ map-append (λ (v : Vec (Option ℕ) Global). v.items) c.loop-class.references.items (c.in_ok-nodes.nodes ∷ []) in
    let before = λ (m : World) (h : IsAskedBy m a r). (inv.asked m h).standing at here in
    let is : (m : World) → IsAskedBy m a r → o ≡ m (name_at b at) = λ m h. own ∙ (before m h).1 in
    let among = contained_at (map (name_at a) classes) (name_at (map (name_at a) classes) i) i (omega (arith, l, length-map classes (name_at a))) refl in
    record {
      size = ap length pushed ∙ length-append refs (nodes ∷ []) ∙ ap (λ n. n + 1) inv.size;
      once = more.grows.once;
      kept = kept_by_growth a b d _ inv.kept more.grows;
      asked = λ m h. asked_more m b d _ st rs (inv.asked m h) more.grows;
      referred = λ m h.
          subst (AreReferredIn m d classes) (sym pushed)
          (referred_one m b d classes refs o nodes (λ k e p. ((inv.asked m h).standing _ (c.requires.classes k e p)).0) (inv.referred m h) (omega (arith, inv.size, l)) (is m h ∙ ap (λ k. m (name_at b (class_at classes k))) (sym inv.size)) more);
      reached = λ m h all.
          let first = (h.standing at here).0 in
          let there = subst (Contains (map (name_at a) classes)) (name_there a classes i l ∙ sym (inv.kept.same at first)) among in
          reached_by m (map (name_at a) classes) b d (name_at b at) o there (is m h) (inv.reached m h all) more.grows;
    }
