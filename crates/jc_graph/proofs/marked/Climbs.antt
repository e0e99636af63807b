-- The walk that sees what is above some nodes.
use Rattle.std.proofs.Common.{◌≡◌, ℕ, ◌+◌, ◌<◌, ◌≤◌, Bool, true, false, List, [], length, sym, subst, ◌∙◌, ◌⊎◌, ⊎_elim, arith}
use Rattle.std.proofs.lemmas.Bool.{false≢true}
use Rattle.std.proofs.lemmas.List.Elements.{Contains-get_or, All-contains}
use Rattle.std.proofs.lemmas.List.{get_or_default}
use Rattle.std.specs.List.{Contains, All}
use Rattle.jc_graph.specs.Seen.{flag_at, node_at, IsSeen, SeesMore}
use Rattle.jc_graph.specs.Graph.{Successors, Above}
use Rattle.jc_graph.specs.Graph.Above.{direct, further}
use Rattle.jc_graph.specs.Seen.{AboveSome, TellsAbove}
use Rattle.jc_graph.specs.inside.Climb.{Rooted, Climbing}
use Rattle.jc_graph.proofs.marked.SeenLemmas.{seen_none}

-- the place of a node of a list
pub place_of : (list : List ℕ) (v : ℕ) → Contains list v → (j : ℕ) × (j < length list) × (node_at list j ≡ v)
place_of list v (j, l, e) = (j, l, get_or_default list j 0 v l ∙ e)

pub contains_at : (list : List ℕ) (j : ℕ) → j < length list → Contains list (node_at list j)
contains_at list j l = Contains-get_or list j 0 l

pub last_or_less : (j i : ℕ) → j < i + 1 → (j ≡ i) ⊎ (j < i)
last_or_less j i k = search arith

module _ (count : ℕ) (next : Successors) (starts : List ℕ) where
  pub rooted_start : (flags : List Bool) (list : List ℕ) → length flags ≡ count → list ≡ [] → ((v : ℕ) → flag_at flags v ≡ false) → Rooted count next starts flags list 0
  rooted_start flags list e l n = record {
    size = e;
    seen = subst (IsSeen flags) (sym l) (seen_none flags n);
    sound = λ v h. absurd (false≢true (sym (n v) ∙ h));
    first = λ j v l. absurd (omega arith);
  }

  pub rooted_more : (flags : List Bool) (list : List ℕ) (f2 : List Bool) (l2 : List ℕ) (i : ℕ) → i < length starts → Rooted count next starts flags list i → SeesMore flags list f2 l2 (next (node_at starts i)) → Rooted count next starts f2 l2 (i + 1)
  rooted_more flags list f2 l2 i l r g = record {
    size = g.size ∙ r.size;
    seen = g.seen r.seen;
    sound = λ v h. ⊎_elim (r.sound v) (λ c. (node_at starts i, contains_at starts i l, direct c)) (g.only v h);
    first = λ j v k c. ⊎_elim
        (λ (e : j ≡ i). g.added v (subst (λ z. Contains (next (node_at starts z)) v) e c))
        (λ (p : j < i). g.kept v (r.first j v p c))
        (last_or_less j i k);
  }

  pub climbing_more : (flags : List Bool) (list : List ℕ) (f2 : List Bool) (l2 : List ℕ) (at : ℕ) → at < length list → Climbing count next starts flags list at → SeesMore flags list f2 l2 (next (node_at list at)) → Climbing count next starts f2 l2 (at + 1)
  climbing_more flags list f2 l2 at l r g =
      let here : AboveSome next starts (node_at list at) = r.rooted.sound (node_at list at) (r.rooted.seen.flagged (node_at list at) (contains_at list at l)) in
      record {
        rooted = record {
          size = g.size ∙ r.rooted.size;
          seen = g.seen r.rooted.seen;
          sound = λ v h. ⊎_elim (r.rooted.sound v) (λ c. (here.0, here.1, further here.2 c)) (g.only v h);
          first = λ j v k c. g.kept v (r.rooted.first j v k c);
        };
        closed = λ j v k c. let same = g.front j (omega arith) in let d = subst (λ z. Contains (next z) v) same c in ⊎_elim
            (λ (e : j ≡ at). g.added v (subst (λ z. Contains (next (node_at list z)) v) e d))
            (λ (p : j < at). g.kept v (r.closed j v p d))
            (last_or_less j at k);
      }

  complete : (flags : List Bool) (list : List ℕ) (at : ℕ) → length list ≤ at → Climbing count next starts flags list at → (s v : ℕ) → Contains starts s → Above next s v → flag_at flags v ≡ true
  complete flags list at l r s v c (direct h) = let p = place_of starts s c in r.rooted.first p.0 v p.1 (subst (λ z. Contains (next z) v) (sym p.2) h)
  complete flags list at l r s v c (further {mid} a h) =
      let p = place_of list mid (r.rooted.seen.all.listed mid (complete flags list at l r s mid c a)) in
      let k = p.1 in
      r.closed p.0 v (omega arith) (subst (λ z. Contains (next z) v) (sym p.2) h)

  pub climbing_end : (flags : List Bool) (list : List ℕ) (at : ℕ) → length list ≤ at → Climbing count next starts flags list at → TellsAbove count next starts flags list
  climbing_end flags list at l r = record {
    size = r.rooted.size;
    seen = r.rooted.seen;
    tells = λ v. (r.rooted.sound v, λ a. complete flags list at l r a.0 v a.1 a.2);
  }

-- successors are nodes
pub are_nodes : (count : ℕ) (next : Successors) (found : List ℕ) (v size : ℕ) → ((a b : ℕ) → Contains (next a) b → b < count) → found ≡ next v → size ≡ count → All (λ w. w < size) found
are_nodes count next found v size h e s = subst (λ r. All (λ w. w < size) r) (sym e) (λ k d l. let q = h v _ (Contains-get_or (next v) k d l) in omega arith)

-- what was seen is among the nodes
pub seen_in : (count : ℕ) (flags : List Bool) (list nodes : List ℕ) → length flags ≡ count → IsSeen flags list → ((v : ℕ) → Contains nodes v → Contains list v) → All (λ v. v < count) nodes
seen_in count flags list nodes e s h k d l =
    let p = h _ (Contains-get_or nodes k d l) in
    let q = All-contains (λ v. v < length flags) list _ s.all.nodes p in
    omega arith
