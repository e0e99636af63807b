-- From classes as they are gathered to classes that look-up takes.
use Rattle.std.proofs.Common.{◌≡◌, ℕ, ◌<◌, ◌≤◌, Bool, true, false, cond, is_some, zero, suc, List, [], ◌∷◌, ◌++◌, map, length, option_map, Option, Some, None, get_or, ◌⊎◌, inl, inr, refl, sym, ap, subst, ◌∙◌, arith}
use Rattle.std.proofs.lemmas.Bool.{false≢true}
use Rattle.std.proofs.lemmas.List.{length-map, get_or_past}
use Rattle.std.specs.List.{Contains}
use Rattle.std.specs.Option.{option_to_list}
use Rattle.jc_classes.specs.Names.{Name, same_name}
use Rattle.jc_classes.specs.Worlds.{World, Stands, superclass_of, interfaces_of}
use Rattle.jc_classes.specs.Facts.{Reference}
use Rattle.jc_classes.specs.Worlds.Stands.{Absent}
use Rattle.jc_classes.specs.Loading.{Loading}
use Rattle.jc_classes.specs.Resolution.Answer.{NotLoaded}
use Rattle.jc_classes.specs.Parts.{IsAnswer, AreAnswers, class_of}
use Rattle.jc_classes.specs.Loading.{Loading as loading}
use Rattle.jc_resolve.specs.inside.Resolved.{IsWithinSome, loading_of, TellsLoads}
use Rattle.jc_classes.proofs.worlds.NameTests.{same_is, same_self}
use Rattle.jc_numbered.specs.declared.loads.Load.{Load}
use Rattle.jc_graph.specs.Graph.{TellsCircular, IsOrder}
use Rattle.jc_graph.specs.Seen.{flag_at}
use Rattle.jc_numbered.specs.inside.Indexed.{Indexed, indexed_name, standing_of, rank_at, good_at, superclass_count, IsGraph, IsIndexed, filled}
use Rattle.jc_numbered.specs.inside.Loading.{load_at}
use Rattle.jc_resolve.specs.inside.Loading.{is_good, TellsRank}
use Rattle.jc_resolve.specs.inside.Gathered.{IsGathered}
use Rattle.std.specs.declared.vec.Vec.{Vec}
use Rattle.std.specs.declared.alloc.Global.{Global}
use Rattle.jc_classes.specs.declared.standing.Standing.{Standing}
use Rattle.jc_numbered.specs.declared.loads.Load.TheVariants as code
use Rattle.jc_resolve.proofs.loading.Goods.{falls, stays}

-- ---- the map that a net is

look : List Name → List Stands → Name → Stands
look [] rs n = Absent
look (k ∷ ks) [] n = Absent
look (k ∷ ks) (r ∷ rs) n = cond (same_name n k) r (look ks rs n)

abbrev at : List Name → ℕ → Name
at ks i = get_or ks i []

look_at : (ks : List Name) (rs : List Stands) → ((i j : ℕ) → i < length ks → j < length ks → at ks i ≡ at ks j → i ≡ j) → length rs ≡ length ks → (i : ℕ) → i < length ks → look ks rs (at ks i) ≡ get_or rs i Absent
unfolding look
look_at [] rs once e i l = absurd (omega arith)
look_at (k ∷ ks) [] once e i l = absurd (omega arith)
look_at (k ∷ ks) (r ∷ rs) once e zero l = ap (λ b. cond b r (look ks rs k)) (same_self k)
look_at (k ∷ ks) (r ∷ rs) once e (suc i) l =
    by (same_name (at ks i) k) refl (look_at ks rs (λ a b p q h. let s = once (suc a) (suc b) (omega arith) (omega arith) h in omega arith) (omega arith) i (omega arith))
  where
    by : (b : Bool) → same_name (at ks i) k ≡ b → look ks rs (at ks i) ≡ get_or rs i Absent → cond b r (look ks rs (at ks i)) ≡ get_or rs i Absent
    by true s h = let z = once (suc i) 0 l (omega arith) (same_is (at ks i) k s) in absurd (omega arith)
    by false s h = h

pub map_of : Indexed → World
map_of x = look x.names x.standing

pub indexed_map : (count : ℕ) (x : Indexed) → IsGathered count x → IsIndexed (map_of x) x
unfolding map_of
indexed_map count x net = record {
  once = net.once;
  standing = λ i l. look_at x.names x.standing net.once (net.standing ∙ sym net.names) i l;
  supertypes = net.supertypes;
}

-- ---- the graph

first_few : (o : Option Name) (is : List Name) → cond (is_some o) 1 0 ≤ length (option_to_list o ++ is)
first_few None is = omega arith
first_few (Some n) is = omega arith

begins_at : (count : ℕ) (x : Indexed) → IsGathered count x → (a : ℕ) → (o : Stands) → standing_of x a ≡ o → superclass_count (standing_of x a) ≤ length (x.supertypes a)
begins_at count x net a o e = by (under a (length x.names))
  where
    under : (i n : ℕ) → (i < n) ⊎ (n ≤ i)
    under i n = grind arith

    by : (a < length x.names) ⊎ (length x.names ≤ a) → superclass_count (standing_of x a) ≤ length (x.supertypes a)
    by (inl l) =
        let e = ap length (net.supertypes a l) in
        let s = length-map (x.supertypes a) (indexed_name x) in
        let f = first_few (superclass_of (standing_of x a)) (interfaces_of (standing_of x a)) in
        omega arith
    by (inr l) =
        let p : standing_of x a ≡ Absent = get_or_past x.standing a Absent (omega (arith, net.names, net.standing)) in
        let q = ap (λ r. superclass_count r) p in
        omega arith

pub graph_of : (count : ℕ) (x : Indexed) → IsGathered count x → length x.good ≡ count
    → ((a b : ℕ) → a < count → good_at x a ≡ true → Contains (x.supertypes a) b → rank_at x b < rank_at x a)
    → ((a b : ℕ) → a < count → good_at x a ≡ true → Contains (x.supertypes a) b → good_at x b ≡ true) → IsGraph count x
graph_of count x net size falling staying = record {
  names = net.names;
  standing = net.standing;
  good = size;
  nodes = λ a b c. (net.nodes a b c).1;
  begins = λ a. begins_at count x net a (standing_of x a) refl;
  falls = λ a b g c. falling a b (net.nodes a b c).0 g c;
  stays = λ a b g c. staying a b (net.nodes a b c).0 g c;
}

good_is : (loads : List Load) (v : ℕ) → v < length loads → flag_at (map is_good loads) v ≡ is_good (load_at loads v)
good_is [] v l = absurd (omega arith)
good_is (a ∷ loads) zero l = refl
good_is (a ∷ loads) (suc v) l = good_is loads v (omega arith)

-- before it is known how the classes load, and after
pub graph_first : (count : ℕ) (x : Indexed) → IsGathered count x → length x.good ≡ count → ((v : ℕ) → good_at x v ≡ false) → IsGraph count x
graph_first count x net size none = graph_of count x net size (λ a b l g c. absurd (false≢true (sym (none a) ∙ g))) (λ a b l g c. absurd (false≢true (sym (none a) ∙ g)))

pub graph_last : (count : ℕ) (x y : Indexed) → IsGathered count x → IsGraph count x
    → (flags : List Bool) (order : List ℕ) → TellsCircular x.supertypes count flags → IsOrder x.supertypes count flags order → (loads : List Load) → length loads ≡ count
    → ((m : World) → IsIndexed m x → TellsLoads m x count loads) → IsGathered count y → y.supertypes ≡ x.supertypes → y.good ≡ map is_good loads → TellsRank count order y.rank → IsGraph count y
graph_last count x y net graph flags order tells ordered loads size told net2 ups good ranked =
    let m = map_of x in
    let index = indexed_map count x net in
    let t = told m index in
    let is : (v : ℕ) → v < count → good_at y v ≡ is_good (load_at loads v) = λ v l. ap (λ f. flag_at f v) good ∙ good_is loads v (omega arith) in
    graph_of count y net2 (ap length good ∙ length-map loads is_good ∙ size)
    (λ a b l g c. falls m count x graph index flags order y.rank tells ordered ranked loads t a b l (sym (is a l) ∙ g) (subst (λ u. Contains (u a) b) ups c))
    (λ a b l g c.
    let d : Contains (x.supertypes a) b = subst (λ u. Contains (u a) b) ups c in
    is b (graph.nodes a b d) ∙ stays m count x graph index flags order y.rank tells ordered ranked loads t a b l (sym (is a l) ∙ g) d)

-- ---- as the code has it

module _ (n : List Name) (s : List Standing) (u : List (Vec ℕ Global)) (r r2 : List ℕ) (g g2 : List Bool) where
  pub net_again : {count : ℕ} → IsGathered count (filled n s u r g) → IsGathered count (filled n s u r2 g2)
  net_again net = record { names = net.names; standing = net.standing; once = net.once; nodes = net.nodes; supertypes = net.supertypes }

  pub index_again : {m : World} → IsIndexed m (filled n s u r g) → IsIndexed m (filled n s u r2 g2)
  index_again index = record { once = index.once; standing = index.standing; supertypes = index.supertypes }

pub good_from : (loads : List Load) (v : ℕ) → load_at loads v ≡ code.Loaded → flag_at (map is_good loads) v ≡ true
good_from [] v e = absurd cc
good_from (a ∷ loads) zero e = ap is_good e
good_from (a ∷ loads) (suc v) e = good_from loads v e

pub node_of_ref : (f : ℕ → Name) (nodes : List (Option ℕ)) (refs : List Reference) (i : ℕ) (d : Reference) → map (option_map f) nodes ≡ map (λ (r : Reference). class_of r.named) refs → i < length refs → class_of (get_or refs i d).named ≡ option_map f (get_or nodes i None)
node_of_ref f nodes [] i d e l = absurd (omega arith)
node_of_ref f [] (r ∷ refs) i d e l = absurd cc
node_of_ref f (n ∷ nodes) (r ∷ refs) zero d e l = let head : option_map f n ≡ class_of r.named = cc in sym head
node_of_ref f (n ∷ nodes) (r ∷ refs) (suc i) d e l = let rest : map (option_map f) nodes ≡ map (λ (q : Reference). class_of q.named) refs = cc in node_of_ref f nodes refs i d rest (omega arith)

pub node_within : (count : ℕ) (nodes : List (Option ℕ)) (i : ℕ) → ((v : ℕ) → Contains nodes (Some v) → v < count) → IsWithinSome count (get_or nodes i None)
node_within count [] i h = tt
node_within count (None ∷ nodes) zero h = tt
node_within count (Some v ∷ nodes) zero h = h v (zero, omega arith, refl)
node_within count (n ∷ nodes) (suc i) h = node_within count nodes i (λ v c. h v (suc c.0, omega (arith, c.1), c.2))

pub not_loaded_all : (m : World) (d : Name) (l : Loading) → ((r : Reference) → IsAnswer m d l r NotLoaded) → (rs : List Reference) → AreAnswers m d l rs (map (λ (r : Reference). NotLoaded) rs)
not_loaded_all m d l h [] = tt
not_loaded_all m d l h (r ∷ rs) = (h r, not_loaded_all m d l h rs)

pub none_answers : (m : World) (d : Name) (x : Indexed) (l : Load) → (l ≡ code.Loaded → ⊥) → (rs : List Reference) → AreAnswers m d (loading_of x l) rs (map (λ (r : Reference). NotLoaded) rs)
none_answers m d x code.Loaded n rs = absurd (n refl)
none_answers m d x code.Outside n rs = not_loaded_all m d loading.Outside (λ r. refl) rs
none_answers m d x (code.Fails f v) n rs = not_loaded_all m d (loading_of x (code.Fails f v)) (λ r. refl) rs
