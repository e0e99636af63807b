-- A walk that drops a step, or joins its last two segments.
use Rattle.std.proofs.Common.{◌≡◌, ℕ, ◌-◌, ◌<◌, ◌≤◌, List, length, get_or, take, sym, ap, subst, ◌∙◌, arith, ◌⊎◌, inr, ⊎_elim}
use Rattle.std.proofs.lemmas.List.{get_or_default, get_or-take, length-take, length-take-le}
use Rattle.std.proofs.lemmas.List.Elements.{All-take}
use Rattle.std.specs.List.{Contains, All}
use Rattle.jc_graph.specs.declared.walk.Place.TheVariants.{On, Done}
use Rattle.jc_graph.specs.declared.walk.Segment.{Segment}
use Rattle.jc_graph.specs.Graph.{Successors, Above, AreNodes}
use Rattle.jc_graph.specs.inside.Walk.{State, node_at, place_at, segment_at, Leads, Way, Source, Told, IsPath, last_segment, last_step, HasStep, dropped, joined_last}
use Rattle.jc_graph.specs.inside.Walk.Told.{waits, done, back}
use Rattle.jc_graph.specs.Graph.Above.{direct}
use Rattle.jc_graph.proofs.walks.Ways.{way_above, above_way}

-- what holds of all elements but the last, and of the last
pub each_whole : {X : Type 0} (P : X → Type 0) (xs : List X) (e : X) → All P (take (length xs - 1) xs) → P (get_or xs (length xs - 1) e) → All P xs
each_whole P xs e h here = λ k d l. ⊎_elim
    (λ (o : k < length xs - 1). subst P (get_or-take (length xs - 1) xs k d o) (h k d (omega (arith, length-take (length xs - 1) xs))))
    (λ (o : k ≡ length xs - 1). subst P (get_or_default xs (length xs - 1) e d (omega arith) ∙ ap (λ j. get_or xs j d) (sym o)) here)
    (by k l)
  where
    by : (k : ℕ) → k < length xs → (k < length xs - 1) ⊎ (k ≡ length xs - 1)
    by k l = grind arith

pub less_or_not : (a b : ℕ) → (a < b) ⊎ (b ≤ a)
less_or_not a b = grind arith

module _ (next : Successors) (s : State) (h : IsPath next s) where
  -- no segment begins after the last
  pub last_is_last : All (λ g. g.path_from ≤ (last_segment s).path_from) s.segments
  last_is_last = λ k d l.
      let e = ap (λ (g : Segment). g.path_from) (get_or_default s.segments k d (record { path_from = 0; steps_from = 0 }) l) in
      let r = h.rising k (length s.segments - 1) (omega arith) (omega arith) in
      omega (arith, e, r)

  -- a place in the last segment is not before any segment
  pub leads_to_last : (p q : ℕ) → (last_segment s).path_from ≤ q → Leads s.segments p q
  leads_to_last p q l = λ k d m a. let r = last_is_last k d m in omega (arith, r)

module _ (next : Successors) (s : State) (h : IsPath next s) (has : HasStep s) where
  -- where the last step comes from
  pub origin : Source next s (length s.steps - 1)
  origin = h.sources (length s.steps - 1) (omega (arith, has.1))

  pub origin_in_last : (last_segment s).path_from ≤ origin.at
  unfolding origin
  origin_in_last = origin.after (length s.segments - 1) (record { path_from = 0; steps_from = 0 }) (omega (arith, has.0)) (omega (arith, has.1))

  pub leads_to_origin : (p : ℕ) → Leads s.segments p origin.at
  leads_to_origin p = leads_to_last next s h p origin.at origin_in_last

  -- the last step leads from every place of the path
  pub all_above : (p : ℕ) → p < length s.path → Above next (node_at s.path p) (last_step s)
  all_above p l = way_above (h.joined p origin.at l origin.within (leads_to_origin p)) (direct origin.leads)

  node_rest : (i : ℕ) → i < length s.steps - 1 → node_at (take (length s.steps - 1) s.steps) i ≡ node_at s.steps i
  node_rest i l = get_or-take (length s.steps - 1) s.steps i 0 l

  steps_rest : length (take (length s.steps - 1) s.steps) ≡ length s.steps - 1
  steps_rest = length-take-le (length s.steps - 1) s.steps (omega arith)

  source_dropped : (i : ℕ) → i < length (take (length s.steps - 1) s.steps) → Source next (dropped s) i
  source_dropped i l =
      let m : i < length s.steps - 1 = omega (arith, steps_rest) in
      let q = h.sources i (omega arith) in
      record { at = q.at; within = q.within; leads = subst (Contains (next (node_at s.path q.at))) (sym (node_rest i m)) q.leads; after = q.after; before = q.before }

  told_dropped : (place_at s.place (last_step s) ≡ Done) ⊎ ((q : ℕ) × (place_at s.place (last_step s) ≡ On q) × ((last_segment s).path_from ≤ q)) → (p w : ℕ) → Told s p w → Told (dropped s) p w
  told_dropped k p w (waits i l e a) = ⊎_elim
      (λ (o : i < length s.steps - 1). waits i (omega (arith, steps_rest)) (node_rest i o ∙ e) a)
      (λ (o : length s.steps - 1 ≤ i).
      let f : i ≡ length s.steps - 1 = omega arith in
      let g : last_step s ≡ w = ap (node_at s.steps) (sym f) ∙ e in
      ⊎_elim
      (λ d. done (ap (place_at s.place) (sym g) ∙ d))
      (λ b. back b.0 (ap (place_at s.place) (sym g) ∙ b.1) (leads_to_last next s h p b.0 b.2))
      k)
      (less_or_not i (length s.steps - 1))
  told_dropped k p w (done e) = done e
  told_dropped k p w (back q e a) = back q e a

  within_dropped : All (λ g. (g.path_from ≤ length s.path) × (g.steps_from ≤ length (take (length s.steps - 1) s.steps))) s.segments
  within_dropped = λ k d l.
      let w = h.within k d l in
      let b = origin.before k d l in
      let o = origin_in_last in
      let z = last_is_last next s h k d l in (
        w.0,
        ⊎_elim
            (λ (m : length s.steps - 1 < (get_or s.segments k d).steps_from). absurd (omega (arith, b m, o, z)))
            (λ (m : (get_or s.segments k d).steps_from ≤ length s.steps - 1). omega (arith, steps_rest))
            (less_or_not (length s.steps - 1) (get_or s.segments k d).steps_from),
      )

  pub path_dropped : (place_at s.place (last_step s) ≡ Done) ⊎ ((q : ℕ) × (place_at s.place (last_step s) ≡ On q) × ((last_segment s).path_from ≤ q)) → IsPath next (dropped s)
  path_dropped k = record {
    on_path = h.on_path;
    has_place = h.has_place;
    first = h.first;
    covers = h.covers;
    rising = h.rising;
    within = within_dropped;
    joined = h.joined;
    sources = source_dropped;
    told = λ p w l c. told_dropped k p w (h.told p w l c);
  }

-- ---- the last two segments, where the last step leads back before the last one

module _ (next : Successors) (s : State) (h : IsPath next s) (has : HasStep s) (q : ℕ) (here : place_at s.place (last_step s) ≡ On q) (early : q < (last_segment s).path_from) where
  target_is : node_at s.path q ≡ last_step s
  target_is = (h.has_place (last_step s) q here).1

  target_within : q < length s.path
  target_within = (h.has_place (last_step s) q here).0

  segments_rest : length (take (length s.segments - 1) s.segments) ≡ length s.segments - 1
  segments_rest = length-take-le (length s.segments - 1) s.segments (omega arith)

  segment_rest : (k : ℕ) → k < length s.segments - 1 → segment_at (take (length s.segments - 1) s.segments) k ≡ segment_at s.segments k
  segment_rest k l = get_or-take (length s.segments - 1) s.segments k _ l

  -- from where the last step leads to, all that no earlier segment parts
  leads_on : (p r : ℕ) → Leads (take (length s.segments - 1) s.segments) p r → (last_segment s).path_from ≤ p → Leads s.segments q r
  leads_on p r a l = each_whole (λ (g : Segment). g.path_from ≤ q → g.path_from ≤ r) s.segments (record { path_from = 0; steps_from = 0 })
      (λ k d m b. a k d m (omega arith))
      (λ b. absurd (omega arith))

  joined_joined : (p r : ℕ) → p < length s.path → r < length s.path → Leads (take (length s.segments - 1) s.segments) p r → Way next (node_at s.path p) (node_at s.path r)
  joined_joined p r l m a = ⊎_elim
      (λ (o : p < (last_segment s).path_from). h.joined p r l m (each_whole (λ (g : Segment). g.path_from ≤ p → g.path_from ≤ r) s.segments (record { path_from = 0; steps_from = 0 }) a (λ b. absurd (omega arith))))
      (λ (o : (last_segment s).path_from ≤ p).
      let first = all_above next s h has p l in
      inr (above_way first (subst (λ x. Way next x (node_at s.path r)) target_is (h.joined q r target_within m (leads_on p r a o)))))
      (less_or_not p (last_segment s).path_from)

  source_joined : (i : ℕ) → i < length s.steps → Source next (joined_last s) i
  source_joined i l =
      let z = h.sources i l in
      record { at = z.at; within = z.within; leads = z.leads; after = All-take (λ (g : Segment). g.steps_from ≤ i → g.path_from ≤ z.at) (length s.segments - 1) s.segments z.after; before = All-take (λ (g : Segment). i < g.steps_from → z.at < g.path_from) (length s.segments - 1) s.segments z.before }

  told_joined : (p w : ℕ) → Told s p w → Told (joined_last s) p w
  told_joined p w (waits i l e a) = waits i l e (All-take (λ (g : Segment). g.path_from ≤ p → g.steps_from ≤ i) (length s.segments - 1) s.segments a)
  told_joined p w (done e) = done e
  told_joined p w (back r e a) = back r e (All-take (λ (g : Segment). g.path_from ≤ p → g.path_from ≤ r) (length s.segments - 1) s.segments a)

  first_joined : (segment_at (take (length s.segments - 1) s.segments) 0).path_from ≡ 0
  first_joined = ⊎_elim
      (λ (o : 0 < length s.segments - 1). ap (λ (g : Segment). g.path_from) (segment_rest 0 o) ∙ h.first)
      (λ (o : length s.segments - 1 ≤ 0).
      let e : length s.segments - 1 ≡ 0 = omega arith in
      let f = ap (λ k. (segment_at s.segments k).path_from) e in
      absurd (omega (arith, f, h.first)))
      (less_or_not 0 (length s.segments - 1))

  pub path_joined : IsPath next (joined_last s)
  path_joined = record {
    on_path = h.on_path;
    has_place = h.has_place;
    first = first_joined;
    covers = λ z.
        let e : length s.segments - 1 ≡ 0 = omega (arith, segments_rest) in
        let f = ap (λ k. (segment_at s.segments k).path_from) e in
        absurd (omega (arith, f, h.first));
    rising = λ j k a l.
        let x = ap (λ (g : Segment). g.path_from) (segment_rest j (omega (arith, segments_rest))) in
        let y = ap (λ (g : Segment). g.path_from) (segment_rest k (omega (arith, segments_rest))) in
        let z = h.rising j k a (omega (arith, segments_rest)) in
        omega (arith, x, y, z);
    within = All-take (λ (g : Segment). (g.path_from ≤ length s.path) × (g.steps_from ≤ length s.steps)) (length s.segments - 1) s.segments h.within;
    joined = joined_joined;
    sources = source_joined;
    told = λ p w l c. told_joined p w (h.told p w l c);
  }

-- the last step leads to a node
pub target_in : (next : Successors) (count : ℕ) (s : State) → IsPath next s → HasStep s → AreNodes next count → last_step s < count
target_in next count s h has nodes = let o = h.sources (length s.steps - 1) (omega (arith, has.1)) in nodes (node_at s.path o.at) (last_step s) o.leads
