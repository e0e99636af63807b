use Rattle.std.proofs.Common.{◌≡◌, ◌∙◌, ◌<◌, ◌≤◌, [], length, map, arith, sym, ap, subst}
use Rattle.std.proofs.lemmas.List.{get_or_default}
use Rattle.std.specs.List.{All, Contains}
use Rattle.jc_classes.specs.Numbers.{name_at}
use Rattle.jc_classes.proofs.numbering.NumberLemmas.{numbers_same}
use Rattle.jc_link.specs.Meters.{counted}
use Rattle.jc_link.specs.Graphs.{IsReached}
use Rattle.jc_link.specs.Tables.{world}
use Rattle.jc_link.specs.inside.Gathering.{supertypes_in, stands_in}
use Rattle.jc_link.specs.inside.GraphAsked.{AreReferredIn, asked_count}
use Rattle.jc_link.specs.inside.GraphShown.{AllReached, AreKept, nodes_in}
use Rattle.jc_link.proofs.meters.Counting.{counted_none}
use Rattle.jc_link.proofs.graphs.ClassesNumbered.{all_below, kept_all, kept_by_growth, kept_on}
use Rattle.jc_link.proofs.graphs.Reaching.{reached_first, referred_kept, referred_there}
use Rattle.jc_link.proofs.graphs.Walking.{reach_numbered}
use Rattle.jc_link.proofs.reaches.Closing.{all_asked, all_stand, closed_graph}
use Rattle.jc_link.proofs.reaches.Gathered.{asked_as, asked_none}
use Rattle.jc_link.proofs.graph.gather_graph.Goals as goal

pub ask_all-requires : goal.ask_all-requires
ask_all-requires c =
    let m = world c.args.table.now c.args.outside.now in
    let ns = c.number.new.self in
    asked_as m ns _ _ _ _ c.in_ok-reached.ensures.standing c.in_ok-reached.ensures.supertypes (asked_none m ns c.in_ok-object.ensures.grows.once)

pub refer-requires-clause-once : goal.refer-requires-clause-once
refer-requires-clause-once c = c.in_ok-ask_all.ensures.asked.once

pub refer-requires-clause-classes : goal.refer-requires-clause-classes
refer-requires-clause-classes c =
    let kept = kept_by_growth c.args.names c.args.names c.number.new.self _ (kept_all c.args.names) c.in_ok-object.ensures.grows in
    let l = kept.longer in
    let m = c.in_ok-ask_all.ensures.kept.longer in
    let few : length c.args.names ≤ asked_count c.ask_all.new.reached = omega (arith, l, m, c.in_ok-ask_all.ensures.whole) in
    subst (All (λ v. v < asked_count c.ask_all.new.reached)) (sym c.deref.ensures.value)
    (all_below (length c.args.names) (asked_count c.ask_all.new.reached) c.args.classes.items few c.requires.within)

pub ask_all-requires-2 : goal.ask_all-requires-2
ask_all-requires-2 c = c.in_ok-references.ensures.asked (world c.args.table.now c.args.outside.now) c.in_ok-ask_all.ensures.asked

pub invariant_of-result : goal.invariant_of-result
invariant_of-result c =
    let m = world c.args.table.now c.args.outside.now in
    let n0 = c.args.names in
    let ns = c.ask_all-2.new.numbers in
    let r = c.ask_all-2.new.reached in
    let st = stands_in r.standing.items in
    let rs = supertypes_in r.supertypes.items in
    let classes = c.args.classes.items in
    let references = nodes_in c.in_ok-references.references.items in
    let asked = c.in_ok-ask_all-2.ensures.asked in
    let whole = c.in_ok-ask_all-2.ensures.whole in
    let object = c.in_ok-object.ensures.node in
    let first = kept_by_growth n0 n0 c.number.new.self _ (kept_all n0) c.in_ok-object.ensures.grows in
    let second = kept_on n0 c.number.new.self c.refer.new.numbers first
    (kept_on c.number.new.self c.ask_all.new.numbers c.refer.new.numbers c.in_ok-ask_all.ensures.kept c.in_ok-references.ensures.kept) in
    let kept = kept_on n0 c.refer.new.numbers ns second c.in_ok-ask_all-2.ensures.kept in
    let behind = kept_on c.number.new.self c.refer.new.numbers ns
    (kept_on c.number.new.self c.ask_all.new.numbers c.refer.new.numbers c.in_ok-ask_all.ensures.kept c.in_ok-references.ensures.kept) c.in_ok-ask_all-2.ensures.kept in
    let size = all_asked m ns st rs asked whole in
    let given = c.deref.ensures.value in
    record {
      graph = closed_graph m ns st rs asked whole c.in_ok-object.object (omega (arith, object.0, behind.longer), behind.same _ object.0 ∙ object.1);
      referred = referred_there m ns st classes references (λ i l. (asked.standing i (omega (arith, l, size))).1)
          (all_below (length n0) (length ns) classes kept.longer c.requires.within)
          (c.in_ok-references.ensures.size ∙ ap length given)
          (referred_kept m c.refer.new.numbers ns classes references (all_below (length n0) (length c.refer.new.numbers) classes second.longer c.requires.within)
          (subst (λ cs. AreReferredIn m c.refer.new.numbers cs references) given (c.in_ok-references.ensures.referred m c.in_ok-ask_all.ensures.asked))
          c.in_ok-ask_all-2.ensures.kept);
    }

pub returns-clause-classes : goal.returns-clause-classes
returns-clause-classes c =
    let n0 = c.args.names in
    let ns = c.ask_all-2.new.numbers in
    let first = kept_by_growth n0 n0 c.number.new.self _ (kept_all n0) c.in_ok-object.ensures.grows in
    let kept = kept_on n0 c.number.new.self ns first
    (kept_on c.number.new.self c.refer.new.numbers ns (kept_on c.number.new.self c.ask_all.new.numbers c.refer.new.numbers c.in_ok-ask_all.ensures.kept c.in_ok-references.ensures.kept) c.in_ok-ask_all-2.ensures.kept) in
    numbers_same n0 ns c.args.classes.items kept.longer kept.same c.requires.within

pub returns-clause-around : goal.returns-clause-around
returns-clause-around c =
    let m = world c.args.table.now c.args.outside.now in
    let n0 = c.args.names in
    let n1 = c.number.new.self in
    let n2 = c.ask_all.new.numbers in
    let ns = c.ask_all-2.new.numbers in
    let r = c.ask_all-2.new.reached in
    let st = stands_in r.standing.items in
    let rs = supertypes_in r.supertypes.items in
    let cs = c.args.classes.items in
    let asked = c.in_ok-ask_all-2.ensures.asked in
    let grows = c.in_ok-object.ensures.grows in
    let first : AreKept n0 n1 = kept_by_growth n0 n0 n1 _ (kept_all n0) grows in
    let before = kept_on n0 n1 n2 first c.in_ok-ask_all.ensures.kept in
    let same : map (name_at ns) cs ≡ map (name_at n0) cs = returns-clause-classes c in
    let same2 : map (name_at n2) cs ≡ map (name_at n0) cs = numbers_same n0 n2 cs before.longer before.same c.requires.within in
    let given = c.deref.ensures.value in
    record {
      stands = all_stand m ns st rs asked c.in_ok-ask_all-2.ensures.whole;
      once = asked.once;
      reached = λ d x there among.
          let one = reached_first m (map (name_at n0) cs) n0 n1 d (subst (λ zs. Contains zs d) same there) c.requires.only grows in
          let two : AllReached m (map (name_at n2) cs) n2 = subst (λ zs. AllReached m zs n2) (sym same2) (c.in_ok-ask_all.ensures.reached (map (name_at n0) cs) one) in
          let three : AllReached m (map (name_at n2) cs) c.refer.new.numbers =
          subst (λ zs. AllReached m (map (name_at n2) zs) c.refer.new.numbers) given
          (c.in_ok-references.ensures.reached m c.in_ok-ask_all.ensures.asked (subst (λ zs. AllReached m (map (name_at n2) zs) n2) (sym given) two)) in
          let four = c.in_ok-ask_all-2.ensures.reached (map (name_at n2) cs) three in
          subst (λ zs. IsReached m zs x) (same2 ∙ sym same) (subst (IsReached m (map (name_at n2) cs)) (get_or_default ns among.0 [] x among.1 ∙ among.2) (four among.0 among.1));
      whole = λ x from.
          let is = invariant_of-result c in
          reach_numbered m ns st rs c.in_ok-object.object cs (nodes_in c.in_ok-references.references.items)
          is.graph is.referred (all_stand m ns st rs asked c.in_ok-ask_all-2.ensures.whole) from.0 x from.1 from.2;
    }

pub returns-clause-asks : goal.returns-clause-asks
returns-clause-asks c =
    let m = world c.args.table.now c.args.outside.now in
    let ns = c.ask_all-2.new.numbers in
    let r = c.ask_all-2.new.reached in
    let a = c.args.meter.now.asks in
    let none = counted_none a c.args.meter.now.asks_fit ∙ ap (λ st. counted a (length st)) (sym c.in_ok-reached.ensures.standing) in
    c.in_ok-ask_all-2.ensures.asks a (c.in_ok-ask_all.ensures.asks a none)
    ∙ ap (counted a) (all_asked m ns (stands_in r.standing.items) (supertypes_in r.supertypes.items) c.in_ok-ask_all-2.ensures.asked c.in_ok-ask_all-2.ensures.whole)
