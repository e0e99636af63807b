use Rattle.std.proofs.Common.{◌≡◌, [], length, map, refl, ap, subst, ◌∙◌}
use Rattle.jc_graph.specs.Graph.{TellsCircular, IsOrder}
use Rattle.jc_graph.specs.Seen.{flag_at}
use Rattle.jc_numbered.specs.inside.Indexed.{Indexed, filled, IsGraph}
use Rattle.jc_resolve.specs.inside.Loading.{is_good, TellsRank}
use Rattle.jc_resolve.specs.inside.Gathered.{IsGathered}
use Rattle.jc_resolve.proofs.loading.Nets.{net_again, index_again, good_from, graph_first, graph_last}
use Rattle.jc_resolve.proofs.loaded.load_sorted.Goals as goal

pub invariant_of-unloaded : goal.invariant_of-unloaded
invariant_of-unloaded c =
    let n = c.args.names.now in
    let s = c.args.standing.now in
    let u = c.args.supertypes.now in
    let rank = c.new.result.items in
    let good = c.in_ok-good.good.items in
    let names = c.requires.net.names in
    record {
      names_size = names;
      supertypes_size = c.requires.size;
      object_within = c.requires.object;
      object_name = c.requires.object_name;
      packages = c.in_ok-package_ends.ensures;
      graph = graph_first (length s) (filled n s u rank good) (net_again n s u [] rank [] good c.requires.net) c.in_ok-good.ensures.size c.in_ok-good.ensures.none;
    }

pub invariant_of-classes : goal.invariant_of-classes
invariant_of-classes c =
    let n = c.args.names.now in
    let s = c.args.standing.now in
    let u = c.args.supertypes.now in
    let count = length s in
    let rank0 = c.new.result.items in
    let good0 = c.in_ok-good.good.items in
    let rank = c.in_ok-rated.rated.rank.items in
    let good = c.in_ok-rated.rated.good.items in
    let x : Indexed = filled n s u rank0 good0 in
    let y : Indexed = filled n s u rank good in
    let net : IsGathered count x = net_again n s u [] rank0 [] good0 c.requires.net in
    let net2 : IsGathered count y = net_again n s u [] rank [] good c.requires.net in
    let graph : IsGraph count x = graph_first count x net c.in_ok-good.ensures.size c.in_ok-good.ensures.none in
    let names = c.requires.net.names in
    let flags = c.args.sorted.now.circular.items in
    let order = c.args.sorted.now.order.items in
    let rings : TellsCircular x.supertypes count flags = c.requires.circular in
    let ordered : IsOrder x.supertypes count flags order = c.requires.order in
    let loads = c.in_ok-loads.loads.items in
    let ranked : TellsRank count order rank = subst (λ k. TellsRank k order rank) c.requires.size (subst (λ z. TellsRank (length u) z rank) c.as_slice.ensures.value c.in_ok-rated.ensures.rank) in
    let goods : good ≡ map is_good loads = c.in_ok-rated.ensures.good ∙ ap (map is_good) c.as_slice-2.ensures.value in
    record {
      names_size = names;
      supertypes_size = c.requires.size;
      object_within = c.requires.object;
      object_name = c.requires.object_name;
      packages = c.in_ok-package_ends.ensures;
      graph = graph_last count x y net graph flags order rings ordered loads c.in_ok-loads.ensures.size (λ m i. c.in_ok-loads.ensures.loads m i) net2 refl goods ranked;
    }

pub returns-clause-loaded : goal.returns-clause-loaded
returns-clause-loaded c =
    let n = c.args.names.now in
    let s = c.args.standing.now in
    let u = c.args.supertypes.now in
    let rank0 = c.new.result.items in
    let good0 = c.in_ok-good.good.items in
    let rank = c.in_ok-rated.rated.rank.items in
    let good = c.in_ok-rated.rated.good.items in
    let loads = c.in_ok-loads.loads.items in
    let goods : good ≡ map is_good loads = c.in_ok-rated.ensures.good ∙ ap (map is_good) c.as_slice-2.ensures.value in
    record {
      net = net_again n s u [] rank [] good c.requires.net;
      loads_size = c.in_ok-loads.ensures.size;
      rings = c.requires.circular;
      told = λ m i. c.in_ok-loads.ensures.loads m (index_again n s u rank rank0 good good0 i);
      good = λ v h. ap (λ f. flag_at f v) goods ∙ good_from loads v h;
    }

pub returns-clause-names : goal.returns-clause-names
returns-clause-names c = refl

pub returns-clause-standing : goal.returns-clause-standing
returns-clause-standing c = refl

pub returns-clause-supertypes : goal.returns-clause-supertypes
returns-clause-supertypes c = refl
