-- A walk that ends its last segment.
use Rattle.std.proofs.Common.{◌≡◌, ℕ, ◌+◌, ◌-◌, ◌<◌, ◌≤◌, Bool, true, false, zero, suc, List, [], ◌∷◌, ◌++◌, length, get_or, take, refl, sym, ap, subst, ◌∙◌, arith, ◌⊎◌, inl, inr, ⊎_elim, length-append}
use Rattle.std.proofs.lemmas.Bool.{false≢true}
use Rattle.std.proofs.lemmas.List.{get_or_default, get_or-take, get_or-drop, length-take-le, length-drop, get_or_past, get_or_append_left, get_or-append_right}
use Rattle.std.proofs.lemmas.List.Elements.{All-take, Contains-append_left, Contains-append_right}
use Rattle.std.specs.List.{Contains, All}
use Rattle.jc_graph.specs.declared.walk.Place.{Place}
use Rattle.jc_graph.specs.declared.walk.Place.TheVariants.{Unseen, On, Done}
use Rattle.jc_graph.specs.declared.walk.Segment.{Segment}
use Rattle.jc_graph.specs.inside.Marks.{set_all}
use Rattle.jc_graph.specs.Graph.{Successors, Above}
use Rattle.jc_graph.specs.Graph.Above.{direct, further}
use Rattle.jc_graph.specs.inside.Walk.{State, node_at, place_at, flag_at, segment_at, Leads, Way, Source, Told, IsPath, IsDone, IsWalk, last_segment, last_nodes, TellsRing, ended}
use Rattle.jc_graph.specs.inside.Walk.Told.{waits, done, back}
use Rattle.jc_graph.proofs.walks.Ways.{above_way}
use Rattle.jc_graph.proofs.walks.Turns.{each_whole, less_or_not, last_is_last, leads_to_last}
use Rattle.jc_graph.proofs.walks.MarkLemmas.{same_or_not, length-set_all, set_all_in, set_all_out}

-- what follows a set from which no step leads out
above_within : (next : Successors) (P : ℕ → Type 0) (v : ℕ) → ((w : ℕ) → Contains (next v) w → P w) → ((u w : ℕ) → P u → Contains (next u) w → P w) → (x : ℕ) → Above next v x → P x
above_within next P v first closed x (direct c) = first x c
above_within next P v first closed x (further {mid} r c) = closed mid x (above_within next P v first closed mid r) c

place_cases : (x : Place) → (x ≡ Unseen) ⊎ (((p : ℕ) × (x ≡ On p)) ⊎ (x ≡ Done))
place_cases Unseen = inl refl
place_cases (On p) = inr (inl (p, refl))
place_cases Done = inr (inr refl)

done_not_on : (p : ℕ) → Done ≡ On p → ⊥
done_not_on p e = cc

unseen_not_on : (p : ℕ) → Unseen ≡ On p → ⊥
unseen_not_on p e = cc

unseen_not_done : Unseen ≡ Done → ⊥
unseen_not_done e = cc

same_on : (p q : ℕ) → On p ≡ On q → p ≡ q
same_on p q e = cc

pub first_take : (m : ℕ) (gs : List Segment) → (segment_at gs 0).path_from ≡ 0 → (segment_at (take m gs) 0).path_from ≡ 0
first_take zero gs e = refl
first_take (suc m) [] e = refl
first_take (suc m) (g ∷ gs) e = e

module _ (next : Successors) (count : ℕ) (s : State) (h : IsWalk next count s) (some : 0 < length s.segments) (no_step : length s.steps ≤ (last_segment s).steps_from) (ring : Bool) (tells : TellsRing next (last_nodes s) ring) where
  abbrev from : ℕ
  from = (last_segment s).path_from

  abbrev places : List Place
  places = set_all s.place (last_nodes s) Done

  abbrev flags : List Bool
  flags = set_all s.circular (last_nodes s) ring

  from_within : from ≤ length s.path
  from_within = (h.path.within (length s.segments - 1) (record { path_from = 0; steps_from = 0 }) (omega (arith, some))).0

  -- the nodes of the last segment, by their places
  in_last : (v : ℕ) → Contains (last_nodes s) v → (p : ℕ) × (p < length s.path) × (from ≤ p) × (node_at s.path p ≡ v)
  in_last v c =
      let l : from + c.0 < length s.path = omega (arith, c.1, length-drop from s.path) in
      (from + c.0, l, omega arith, get_or_default s.path (from + c.0) 0 v l ∙ sym (get_or-drop from s.path c.0 v) ∙ c.2)

  to_last : (p : ℕ) → p < length s.path → from ≤ p → Contains (last_nodes s) (node_at s.path p)
  to_last p l m =
      let e : from + (p - from) ≡ p = omega arith in
      (p - from, omega (arith, length-drop from s.path), get_or-drop from s.path (p - from) _ ∙ ap (λ k. get_or s.path k (node_at s.path p)) e ∙ get_or_default s.path p _ 0 l)

  last_is_on : (v p : ℕ) → place_at s.place v ≡ On p → Contains (last_nodes s) v → from ≤ p
  last_is_on v p e c =
      let i = in_last v c in
      let f = same_on i.0 p (sym (h.path.on_path i.0 i.1) ∙ ap (place_at s.place) i.3 ∙ e) in
      omega (arith, i.2, f)

  on_within : (v p : ℕ) → place_at s.place v ≡ On p → v < length s.place
  on_within v p e = ⊎_elim
      (λ l. l)
      (λ (l : length s.place ≤ v). absurd (unseen_not_on p (sym (get_or_past s.place v Unseen l) ∙ e)))
      (less_or_not v (length s.place))

  shut_done : (v : ℕ) → place_at s.place v ≡ Done → place_at places v ≡ Done
  shut_done v e = set_all_out s.place (last_nodes s) Done v Unseen (λ c. let i = in_last v c in done_not_on i.0 (sym e ∙ ap (place_at s.place) (sym i.3) ∙ h.path.on_path i.0 i.1)) ∙ e

  shut_last : (v p : ℕ) → place_at s.place v ≡ On p → from ≤ p → place_at places v ≡ Done
  shut_last v p e l =
      let o = h.path.has_place v p e in
      set_all_in s.place (last_nodes s) Done v Unseen (on_within v p e) (subst (Contains (last_nodes s)) o.1 (to_last p o.0 l))

  shut_before : (v p : ℕ) → place_at s.place v ≡ On p → p < from → place_at places v ≡ On p
  shut_before v p e l = set_all_out s.place (last_nodes s) Done v Unseen (λ c. let m = last_is_on v p e c in omega arith) ∙ e

  shut_unseen : (v : ℕ) → place_at s.place v ≡ Unseen → place_at places v ≡ Unseen
  shut_unseen v e = set_all_out s.place (last_nodes s) Done v Unseen (λ c. let i = in_last v c in unseen_not_on i.0 (sym e ∙ ap (place_at s.place) (sym i.3) ∙ h.path.on_path i.0 i.1)) ∙ e

  was_on : (v p : ℕ) → place_at places v ≡ On p → (place_at s.place v ≡ On p) × (p < from)
  was_on v p e = ⊎_elim
      (λ u. absurd (unseen_not_on p (sym (shut_unseen v u) ∙ e)))
      (λ r. ⊎_elim
      (λ o. ⊎_elim
      (λ (l : o.0 < from). let f = same_on o.0 p (sym (shut_before v o.0 o.1 l) ∙ e) in (o.1 ∙ ap On f, omega (arith, f)))
      (λ (l : from ≤ o.0). absurd (done_not_on p (sym (shut_last v o.0 o.1 l) ∙ e)))
      (less_or_not o.0 from))
      (λ d. absurd (done_not_on p (sym (shut_done v d) ∙ e)))
      r)
      (place_cases (place_at s.place v))

  -- a node of the last segment
  abbrev IsLast : ℕ → Type 0
  IsLast v = (p : ℕ) × (place_at s.place v ≡ On p) × (from ≤ p)

  was_done : (v : ℕ) → place_at places v ≡ Done → (place_at s.place v ≡ Done) ⊎ IsLast v
  was_done v e = ⊎_elim
      (λ u. absurd (unseen_not_done (sym (shut_unseen v u) ∙ e)))
      (λ r. ⊎_elim
      (λ o. ⊎_elim
      (λ (l : o.0 < from). absurd (done_not_on o.0 (sym e ∙ shut_before v o.0 o.1 l)))
      (λ (l : from ≤ o.0). inr (o.0, o.1, l))
      (less_or_not o.0 from))
      (λ d. inl d)
      r)
      (place_cases (place_at s.place v))

  flag_done : (v : ℕ) → place_at s.place v ≡ Done → flag_at flags v ≡ flag_at s.circular v
  flag_done v e = set_all_out s.circular (last_nodes s) ring v false (λ c. let i = in_last v c in done_not_on i.0 (sym e ∙ ap (place_at s.place) (sym i.3) ∙ h.path.on_path i.0 i.1))

  flag_last : (v : ℕ) → IsLast v → flag_at flags v ≡ ring
  flag_last v o =
      let i = h.path.has_place v o.0 o.1 in
      set_all_in s.circular (last_nodes s) ring v false (omega (arith, on_within v o.0 o.1, h.places, h.flags)) (subst (Contains (last_nodes s)) i.1 (to_last o.0 i.0 o.2))

  -- where the steps from the last segment lead
  leads_from_last : (p w : ℕ) → p < length s.path → from ≤ p → Told s p w → (place_at s.place w ≡ Done) ⊎ IsLast w
  leads_from_last p w l m (waits i n e a) = absurd (omega (arith, a (length s.segments - 1) (record { path_from = 0; steps_from = 0 }) (omega (arith, some)) m))
  leads_from_last p w l m (done e) = inl e
  leads_from_last p w l m (back q e a) = inr (q, e, a (length s.segments - 1) (record { path_from = 0; steps_from = 0 }) (omega (arith, some)) m)

  last_leads : (v w : ℕ) → IsLast v → Contains (next v) w → (place_at s.place w ≡ Done) ⊎ IsLast w
  last_leads v w o c =
      let i = h.path.has_place v o.0 o.1 in
      leads_from_last o.0 w i.0 o.2 (h.path.told o.0 w i.0 (subst (λ x. Contains (next x) w) (sym i.1) c))

  done_or_last : (w : ℕ) → (place_at s.place w ≡ Done) ⊎ IsLast w → place_at places w ≡ Done
  done_or_last w r = ⊎_elim (shut_done w) (λ o. shut_last w o.0 o.1 o.2) r

  size : length (last_nodes s) ≡ length s.path - from
  size = length-drop from s.path

  only_is : (v : ℕ) → length (last_nodes s) ≡ 1 → IsLast v → node_at (last_nodes s) 0 ≡ v
  only_is v e o =
      let i = h.path.has_place v o.0 o.1 in
      let f : from + 0 ≡ o.0 = omega (arith, size, i.0, o.2) in
      get_or-drop from s.path 0 0 ∙ ap (node_at s.path) f ∙ i.1

  other : (p : ℕ) → p < length s.path → from ≤ p → (length (last_nodes s) ≡ 1 → ⊥) → (q : ℕ) × (q < length s.path) × (from ≤ q) × (p ≡ q → ⊥)
  other p l m n = ⊎_elim
      (λ (e : p ≡ from). let k : length s.path - from ≡ 1 → ⊥ = λ o. n (size ∙ o) in (from + 1, omega arith, omega arith, λ o. omega arith))
      (λ (e : p ≡ from → ⊥). (from, omega arith, omega arith, e))
      (same_or_not p from)

  last_ring : (v : ℕ) → IsLast v → ring ≡ true → Above next v v
  last_ring v o t = ⊎_elim
      (λ (e : length (last_nodes s) ≡ 1). direct (subst (λ x. Contains (next x) x) (only_is v e o) ((tells.0 e).0 t)))
      (λ n.
      let i = h.path.has_place v o.0 o.1 in
      let q = other o.0 i.0 o.2 n in
      let there = h.path.joined o.0 q.0 i.0 q.1 (leads_to_last next s h.path o.0 q.0 q.2) in
      let again = h.path.joined q.0 o.0 q.1 i.0 (leads_to_last next s h.path q.0 o.0 o.2) in
      subst (λ x. Above next x x) i.1 (⊎_elim
      (λ e. absurd (q.3 (same_on o.0 q.0 (sym (h.path.on_path o.0 i.0) ∙ ap (place_at s.place) e ∙ h.path.on_path q.0 q.1))))
      (λ a. above_way a again)
      there))
      (same_or_not (length (last_nodes s)) 1)

  -- no ring: from the only node all steps lead to nodes that were done
  plain_leads : (v w : ℕ) → IsLast v → ring ≡ false → Contains (next v) w → place_at s.place w ≡ Done
  plain_leads v w o f c = ⊎_elim
      (λ (e : length (last_nodes s) ≡ 1). ⊎_elim
      (λ d. d)
      (λ b.
      let same : v ≡ w = sym (only_is v e o) ∙ only_is w e b in
      let t : ring ≡ true = (tells.0 e).1 (subst (λ x. Contains (next x) x) (sym (only_is v e o)) (subst (Contains (next v)) (sym same) c)) in
      absurd (false≢true (sym f ∙ t)))
      (last_leads v w o c))
      (λ n. absurd (false≢true (sym f ∙ tells.1 n)))
      (same_or_not (length (last_nodes s)) 1)

  last_plain : (v : ℕ) → IsLast v → ring ≡ false → Above next v v → ⊥
  last_plain v o f a =
      done_not_on o.0 (sym (above_within next (λ w. place_at s.place w ≡ Done) v (λ w c. plain_leads v w o f c) h.done.closed v a) ∙ o.1)

  order_upto : (k : ℕ) → k < length (s.order ++ last_nodes s) → (k < length s.order) ⊎ (length s.order ≤ k)
  order_upto k l = less_or_not k (length s.order)

  order_old : (k : ℕ) → k < length s.order → node_at (s.order ++ last_nodes s) k ≡ node_at s.order k
  order_old k l = get_or_append_left s.order (last_nodes s) 0 k l

  order_new : (k : ℕ) → k < length (s.order ++ last_nodes s) → length s.order ≤ k → IsLast (node_at (s.order ++ last_nodes s) k)
  order_new k l m =
      let p = from + (k - length s.order) in
      let in' : from + (k - length s.order) < length s.path = omega (arith, size, length-append s.order (last_nodes s)) in
      let e = get_or-append_right s.order (last_nodes s) (length s.order) k 0 refl m ∙ get_or-drop from s.path (k - length s.order) 0 in
      (p, ap (place_at s.place) e ∙ h.path.on_path p in', omega arith)

  done_ended : IsDone next places flags (s.order ++ last_nodes s)
  done_ended = record {
    closed = λ v w e c. done_or_last w (⊎_elim (λ d. inl (h.done.closed v w d c)) (λ o. last_leads v w o c) (was_done v e));
    ring = λ v e t. ⊎_elim (λ d. h.done.ring v d (sym (flag_done v d) ∙ t)) (λ o. last_ring v o (sym (flag_last v o) ∙ t)) (was_done v e);
    plain = λ v e t. ⊎_elim (λ d. h.done.plain v d (sym (flag_done v d) ∙ t)) (λ o. last_plain v o (sym (flag_last v o) ∙ t)) (was_done v e);
    listed = λ v e. ⊎_elim
        (λ d. Contains-append_left s.order (last_nodes s) v (h.done.listed v d))
        (λ o. let i = h.path.has_place v o.0 o.1 in Contains-append_right s.order (last_nodes s) v (subst (Contains (last_nodes s)) i.1 (to_last o.0 i.0 o.2)))
        (was_done v e);
    done = λ k l. ⊎_elim
        (λ o. ap (place_at places) (order_old k o) ∙ shut_done (node_at s.order k) (h.done.done k o))
        (λ o. let i = order_new k l o in shut_last _ i.0 i.1 i.2)
        (order_upto k l);
    before = λ k w l f c. ⊎_elim
        (λ o.
        let e = order_old k o in
        let b = h.done.before k w o (sym (flag_done (node_at s.order k) (h.done.done k o)) ∙ ap (flag_at flags) (sym e) ∙ f) (subst (λ x. Contains (next x) w) e c) in
        (b.0, b.1, order_old b.0 (omega (arith, b.1)) ∙ b.2))
        (λ o.
        let i = order_new k l o in
        let b = h.done.listed w (plain_leads (node_at (s.order ++ last_nodes s) k) w i (sym (flag_last _ i) ∙ f) c) in
        (b.0, omega (arith, b.1), order_old b.0 b.1 ∙ get_or_default s.order b.0 0 w b.1 ∙ b.2))
        (order_upto k l);
  }

  path_size : length (take from s.path) ≡ from
  path_size = length-take-le from s.path from_within

  node_old : (p : ℕ) → p < from → node_at (take from s.path) p ≡ node_at s.path p
  node_old p l = get_or-take from s.path p 0 l

  segments_rest : length (take (length s.segments - 1) s.segments) ≡ length s.segments - 1
  segments_rest = length-take-le (length s.segments - 1) s.segments (omega arith)

  source_ended : (i : ℕ) → i < length s.steps → Source next (ended ring s) i
  source_ended i l =
      let z = h.path.sources i l in
      let b : z.at < from = z.before (length s.segments - 1) (record { path_from = 0; steps_from = 0 }) (omega (arith, some)) (omega arith) in
      record {
        at = z.at;
        within = omega (arith, path_size, b);
        leads = subst (λ x. Contains (next x) (node_at s.steps i)) (sym (node_old z.at b)) z.leads;
        after = All-take (λ (g : Segment). g.steps_from ≤ i → g.path_from ≤ z.at) (length s.segments - 1) s.segments z.after;
        before = All-take (λ (g : Segment). i < g.steps_from → z.at < g.path_from) (length s.segments - 1) s.segments z.before;
      }

  told_ended : (p w : ℕ) → Told s p w → Told (ended ring s) p w
  told_ended p w (waits i l e a) = waits i l e (All-take (λ (g : Segment). g.path_from ≤ p → g.steps_from ≤ i) (length s.segments - 1) s.segments a)
  told_ended p w (done e) = done (shut_done w e)
  told_ended p w (back q e a) = ⊎_elim
      (λ (l : q < from). back q (shut_before w q e l) (All-take (λ (g : Segment). g.path_from ≤ p → g.path_from ≤ q) (length s.segments - 1) s.segments a))
      (λ (l : from ≤ q). done (shut_last w q e l))
      (less_or_not q from)

  joined_ended : (p q : ℕ) → p < from → q < from → Leads (take (length s.segments - 1) s.segments) p q → Way next (node_at (take from s.path) p) (node_at (take from s.path) q)
  joined_ended p q l m a =
      let w = h.path.joined p q (omega (arith, from_within)) (omega (arith, from_within)) (each_whole (λ (g : Segment). g.path_from ≤ p → g.path_from ≤ q) s.segments (record { path_from = 0; steps_from = 0 }) a (λ b. absurd (omega arith))) in
      subst (λ x. Way next x (node_at (take from s.path) q)) (sym (node_old p l)) (subst (λ x. Way next (node_at s.path p) x) (sym (node_old q m)) w)

  path_ended : IsPath next (ended ring s)
  path_ended = record {
    on_path = λ p l.
        let m : p < from = omega (arith, path_size) in
        ap (place_at places) (node_old p m) ∙ shut_before (node_at s.path p) p (h.path.on_path p (omega (arith, from_within))) m;
    has_place = λ v p e.
        let o = was_on v p e in
        (omega (arith, path_size, o.1), node_old p o.1 ∙ (h.path.has_place v p o.0).1);
    first = first_take (length s.segments - 1) s.segments h.path.first;
    covers = λ z.
        let e : length s.segments - 1 ≡ 0 = omega (arith, segments_rest) in
        path_size ∙ ap (λ k. (segment_at s.segments k).path_from) e ∙ h.path.first;
    rising = λ j k a l.
        let m : k < length s.segments - 1 = omega (arith, segments_rest) in
        let x = ap (λ (g : Segment). g.path_from) (get_or-take (length s.segments - 1) s.segments j (record { path_from = 0; steps_from = 0 }) (omega arith)) in
        let y = ap (λ (g : Segment). g.path_from) (get_or-take (length s.segments - 1) s.segments k (record { path_from = 0; steps_from = 0 }) m) in
        let z = h.path.rising j k a (omega arith) in
        omega (arith, x, y, z);
    within = All-take (λ (g : Segment). (g.path_from ≤ length (take from s.path)) × (g.steps_from ≤ length s.steps)) (length s.segments - 1) s.segments
        (λ k d l. let w = h.path.within k d l in let z = last_is_last next s h.path k d l in (omega (arith, z, path_size), w.1));
    joined = λ p q l m a. joined_ended p q (omega (arith, path_size)) (omega (arith, path_size)) a;
    sources = source_ended;
    told = λ p w l c.
        let m : p < from = omega (arith, path_size) in
        told_ended p w (h.path.told p w (omega (arith, from_within)) (subst (λ x. Contains (next x) w) (node_old p m) c));
  }

  pub ended_stays : (v : ℕ) → place_at places v ≡ Unseen → place_at s.place v ≡ Unseen
  ended_stays v e = ⊎_elim
      (λ u. u)
      (λ r. absurd (⊎_elim
      (λ o. ⊎_elim
      (λ (l : o.0 < from). unseen_not_on o.0 (sym e ∙ shut_before v o.0 o.1 l))
      (λ (l : from ≤ o.0). unseen_not_done (sym e ∙ shut_last v o.0 o.1 l))
      (less_or_not o.0 from))
      (λ d. unseen_not_done (sym e ∙ shut_done v d))
      r))
      (place_cases (place_at s.place v))

  pub ended_walk : IsWalk next count (ended ring s)
  ended_walk = record {
    places = length-set_all s.place (last_nodes s) Done ∙ h.places;
    flags = length-set_all s.circular (last_nodes s) ring ∙ h.flags;
    path = path_ended;
    done = done_ended;
  }

-- the nodes of the last segment are nodes
pub last_in : (next : Successors) (count : ℕ) (s : State) → IsWalk next count s → All (λ v. v < count) (last_nodes s)
last_in next count s h = λ k d l.
    let p : (last_segment s).path_from + k < length s.path = omega (arith, length-drop (last_segment s).path_from s.path) in
    let e = get_or-drop (last_segment s).path_from s.path k d ∙ get_or_default s.path ((last_segment s).path_from + k) d 0 p in
    let o = ap (place_at s.place) e ∙ h.path.on_path ((last_segment s).path_from + k) p in
    ⊎_elim
    (λ (m : get_or (last_nodes s) k d < length s.place). omega (arith, h.places))
    (λ (m : length s.place ≤ get_or (last_nodes s) k d). absurd (unseen_not_on _ (sym (get_or_past s.place _ Unseen m) ∙ o)))
    (less_or_not (get_or (last_nodes s) k d) (length s.place))

pub last_begins : (next : Successors) (s : State) → IsPath next s → 0 < length s.segments → (last_segment s).path_from ≤ length s.path
last_begins next s h some = (h.within (length s.segments - 1) (record { path_from = 0; steps_from = 0 }) (omega (arith, some))).0
