-- A walk that goes on to a node that was not seen.
use Rattle.std.proofs.Common.{◌≡◌, ℕ, ◌+◌, ◌-◌, ◌<◌, ◌≤◌, zero, suc, List, [], ◌∷◌, ◌++◌, length, set, refl, sym, ap, subst, ◌∙◌, arith, ◌⊎◌, inl, inr, ⊎_elim, length-append, length-set, get_or-set_same, get_or-set_other}
use Rattle.std.proofs.lemmas.List.{get_or_append_left, get_or_push, get_or-append-add, get_or_default}
use Rattle.std.proofs.lemmas.List.Elements.{All-push}
use Rattle.std.specs.List.{Contains}
use Rattle.jc_graph.specs.declared.walk.Place.{Place}
use Rattle.jc_graph.specs.declared.walk.Place.TheVariants.{Unseen, On, Done}
use Rattle.jc_graph.specs.declared.walk.Segment.{Segment}
use Rattle.jc_graph.specs.Graph.{Successors, Above}
use Rattle.jc_graph.specs.inside.Walk.{State, node_at, place_at, segment_at, Leads, Way, Source, Told, IsDone, IsWalk, visited, unseen, is_unseen}
use Rattle.jc_graph.specs.inside.Walk.Told.{waits, done, back}
use Rattle.jc_graph.proofs.walks.Ways.{each_init, each_last, last_or_before}

same_or_not : (a b : ℕ) → (a ≡ b) ⊎ (a ≡ b → ⊥)
same_or_not a b = grind arith

-- what a node's place is once v is on the path at p
pub place_same : (ps : List Place) (v p : ℕ) → v < length ps → place_at (set ps v (On p)) v ≡ On p
place_same ps v p h = get_or-set_same ps v (On p) Unseen h

pub place_other : (ps : List Place) (v p w : ℕ) → (w ≡ v → ⊥) → place_at (set ps v (On p)) w ≡ place_at ps w
place_other ps v p w h = get_or-set_other ps v w (On p) Unseen h

-- nothing that had a place moves
still : (ps : List Place) (v p w : ℕ) (x : Place) → place_at ps v ≡ Unseen → place_at ps w ≡ x → (x ≡ Unseen → ⊥) → place_at (set ps v (On p)) w ≡ x
still ps v p w x none e not = place_other ps v p w (λ s. not (sym e ∙ ap (place_at ps) s ∙ none)) ∙ e

done_back : (ps : List Place) (v p w : ℕ) → v < length ps → place_at (set ps v (On p)) w ≡ Done → place_at ps w ≡ Done
done_back ps v p w h e = ⊎_elim
    (λ s. let f : On p ≡ Done = sym (place_same ps v p h) ∙ ap (place_at (set ps v (On p))) (sym s) ∙ e in absurd cc)
    (λ n. sym (place_other ps v p w n) ∙ e)
    (same_or_not w v)

on_not_unseen : (p : ℕ) → On p ≡ Unseen → ⊥
on_not_unseen p e = cc

done_not_unseen : Done ≡ Unseen → ⊥
done_not_unseen e = cc

module _ (next : Successors) (count : ℕ) (s : State) (v : ℕ) (h : IsWalk next count s) (in' : v < count) (none : place_at s.place v ≡ Unseen) (led : (p : ℕ) → p < length s.path → Above next (node_at s.path p) v) where
  abbrev new : Segment
  new = record { path_from = length s.path; steps_from = length s.steps }

  size : v < length s.place
  size = omega (arith, h.places)

  done_visit : IsDone next (set s.place v (On (length s.path))) s.circular s.order
  done_visit =
      let b = λ (w : ℕ). done_back s.place v (length s.path) w size in
      let f = λ (w : ℕ) (e : place_at s.place w ≡ Done). still s.place v (length s.path) w Done none e done_not_unseen in
      record {
        closed = λ u w e c. f w (h.done.closed u w (b u e) c);
        ring = λ u e. h.done.ring u (b u e);
        plain = λ u e. h.done.plain u (b u e);
        listed = λ u e. h.done.listed u (b u e);
        done = λ k l. f (node_at s.order k) (h.done.done k l);
        before = h.done.before;
      }

  -- places of the path, those before and the new one
  node_old : (p : ℕ) → p < length s.path → node_at (s.path ++ v ∷ []) p ≡ node_at s.path p
  node_old p l = get_or_append_left s.path (v ∷ []) 0 p l

  node_new : node_at (s.path ++ v ∷ []) (length s.path) ≡ v
  node_new = get_or_push s.path v 0 (length s.path) refl

  upto : (p : ℕ) → p < length (s.path ++ v ∷ []) → (p < length s.path) ⊎ (p ≡ length s.path)
  upto p l = last_or_before (length s.path) p (omega (arith, length-append s.path (v ∷ [])))

  leads_old : (p q : ℕ) → Leads (s.segments ++ new ∷ []) p q → Leads s.segments p q
  leads_old p q l = each_init (λ (g : Segment). g.path_from ≤ p → g.path_from ≤ q) s.segments new l

  leads_more : (p q : ℕ) → p < length s.path → Leads s.segments p q → Leads (s.segments ++ new ∷ []) p q
  leads_more p q l a = All-push (λ (g : Segment). g.path_from ≤ p → g.path_from ≤ q) s.segments new a (λ b. absurd (omega arith))

  on_path_visit : (p : ℕ) → p < length (s.path ++ v ∷ []) → place_at (set s.place v (On (length s.path))) (node_at (s.path ++ v ∷ []) p) ≡ On p
  on_path_visit p l = ⊎_elim
      (λ o. ap (place_at (set s.place v (On (length s.path)))) (node_old p o) ∙ still s.place v (length s.path) (node_at s.path p) (On p) none (h.path.on_path p o) (on_not_unseen p))
      (λ e. ap (λ k. place_at (set s.place v (On (length s.path))) (node_at (s.path ++ v ∷ []) k)) e ∙ ap (place_at (set s.place v (On (length s.path)))) node_new ∙ place_same s.place v (length s.path) size ∙ ap On (sym e))
      (upto p l)

  has_place_visit : (w p : ℕ) → place_at (set s.place v (On (length s.path))) w ≡ On p → (p < length (s.path ++ v ∷ [])) × (node_at (s.path ++ v ∷ []) p ≡ w)
  has_place_visit w p e = ⊎_elim
      (λ i. let f : On (length s.path) ≡ On p = sym (place_same s.place v (length s.path) size) ∙ ap (place_at (set s.place v (On (length s.path)))) (sym i) ∙ e in
      let g : length s.path ≡ p = cc in
      (omega (arith, length-append s.path (v ∷ [])), ap (node_at (s.path ++ v ∷ [])) (sym g) ∙ node_new ∙ sym i))
      (λ n. let o = h.path.has_place w p (sym (place_other s.place v (length s.path) w n) ∙ e) in
      (omega (arith, length-append s.path (v ∷ []), o.0), node_old p o.0 ∙ o.1))
      (same_or_not w v)

  joined_visit : (p q : ℕ) → p < length (s.path ++ v ∷ []) → q < length (s.path ++ v ∷ []) → Leads (s.segments ++ new ∷ []) p q → Way next (node_at (s.path ++ v ∷ []) p) (node_at (s.path ++ v ∷ []) q)
  joined_visit p q l m a = ⊎_elim
      (λ o. ⊎_elim
      (λ i. subst (λ x. Way next x (node_at (s.path ++ v ∷ []) q)) (sym (node_old p o)) (subst (λ x. Way next (node_at s.path p) x) (sym (node_old q i)) (h.path.joined p q o i (leads_old p q a))))
      (λ i. inr (subst (λ x. Above next x (node_at (s.path ++ v ∷ []) q)) (sym (node_old p o)) (subst (λ x. Above next (node_at s.path p) x) (sym (ap (node_at (s.path ++ v ∷ [])) i ∙ node_new)) (led p o))))
      (upto q m))
      (λ o. let b : length s.path ≤ p → length s.path ≤ q = each_last (λ (g : Segment). g.path_from ≤ p → g.path_from ≤ q) s.segments new a in
      let c : length s.path ≤ q = b (omega arith) in
      let e : p ≡ q = omega (arith, length-append s.path (v ∷ [])) in
      inl (ap (node_at (s.path ++ v ∷ [])) e))
      (upto p l)

  steps_upto : (i : ℕ) → i < length (s.steps ++ next v) → (i < length s.steps) ⊎ (length s.steps ≤ i)
  steps_upto i l = grind arith

  source_visit : (i : ℕ) → i < length (s.steps ++ next v) → Source next (visited next s v) i
  source_visit i l = ⊎_elim
      (λ o. let q = h.path.sources i o in record {
        at = q.at;
        within = omega (arith, length-append s.path (v ∷ []), q.within);
        leads = subst (λ x. Contains (next x) (node_at (s.steps ++ next v) i)) (sym (node_old q.at q.within)) (subst (λ x. Contains (next (node_at s.path q.at)) x) (sym (get_or_append_left s.steps (next v) 0 i o)) q.leads);
        after = All-push (λ (g : Segment). g.steps_from ≤ i → g.path_from ≤ q.at) s.segments new q.after (λ b. absurd (omega arith));
        before = All-push (λ (g : Segment). i < g.steps_from → q.at < g.path_from) s.segments new q.before (λ b. q.within);
      })
      (λ o. let k : ℕ = i - length s.steps in
      let e : length s.steps + k ≡ i = omega arith in
      let short : k < length (next v) = omega (arith, length-append s.steps (next v)) in
      record {
        at = length s.path;
        within = omega (arith, length-append s.path (v ∷ []));
        leads = subst (λ x. Contains (next x) (node_at (s.steps ++ next v) i)) (sym node_new) (subst (λ x. Contains (next v) x) (sym (get_or-append-add s.steps (next v) k 0) ∙ ap (node_at (s.steps ++ next v)) e) (k, short, get_or_default (next v) k _ 0 short));
        after = All-push (λ (g : Segment). g.steps_from ≤ i → g.path_from ≤ length s.path) s.segments new (λ j d m b. (h.path.within j d m).0) (λ b. omega arith);
        before = All-push (λ (g : Segment). i < g.steps_from → length s.path < g.path_from) s.segments new (λ j d m b. let w = h.path.within j d m in absurd (omega (arith, w.1))) (λ b. absurd (omega arith));
      })
      (steps_upto i l)

  told_still : (p w : ℕ) → p < length s.path → Told s p w → Told (visited next s v) p w
  told_still p w l (waits i m e a) = waits i (omega (arith, length-append s.steps (next v))) (get_or_append_left s.steps (next v) 0 i m ∙ e) (All-push (λ (g : Segment). g.path_from ≤ p → g.steps_from ≤ i) s.segments new a (λ b. absurd (omega arith)))
  told_still p w l (done e) = done (still s.place v (length s.path) w Done none e done_not_unseen)
  told_still p w l (back q e a) = back q (still s.place v (length s.path) w (On q) none e (on_not_unseen q)) (leads_more p q l a)

  told_visit : (p w : ℕ) → p < length (s.path ++ v ∷ []) → Contains (next (node_at (s.path ++ v ∷ []) p)) w → Told (visited next s v) p w
  told_visit p w l c = ⊎_elim
      (λ o. told_still p w o (h.path.told p w o (subst (λ x. Contains (next x) w) (node_old p o) c)))
      (λ o. let d : Contains (next v) w = subst (λ x. Contains (next x) w) (ap (node_at (s.path ++ v ∷ [])) o ∙ node_new) c in
      waits (length s.steps + d.0) (omega (arith, length-append s.steps (next v), d.1)) (get_or-append-add s.steps (next v) d.0 0 ∙ get_or_default (next v) d.0 0 w d.1 ∙ d.2)
      (All-push (λ (g : Segment). g.path_from ≤ p → g.steps_from ≤ length s.steps + d.0) s.segments new (λ j z m b. let y = h.path.within j z m in omega (arith, y.1)) (λ b. omega arith)))
      (upto p l)

  segments_upto : (k : ℕ) → k < length (s.segments ++ new ∷ []) → (k < length s.segments) ⊎ (k ≡ length s.segments)
  segments_upto k l = last_or_before (length s.segments) k (omega (arith, length-append s.segments (new ∷ [])))

  segment_old : (k : ℕ) → k < length s.segments → segment_at (s.segments ++ new ∷ []) k ≡ segment_at s.segments k
  segment_old k l = get_or_append_left s.segments (new ∷ []) _ k l

  segment_new : segment_at (s.segments ++ new ∷ []) (length s.segments) ≡ new
  segment_new = get_or_push s.segments new _ (length s.segments) refl

  first_visit : (segment_at (s.segments ++ new ∷ []) 0).path_from ≡ 0
  first_visit = ⊎_elim
      (λ o. ap (λ (g : Segment). g.path_from) (segment_old 0 o) ∙ h.path.first)
      (λ e. ap (λ (g : Segment). g.path_from) (ap (segment_at (s.segments ++ new ∷ [])) e ∙ segment_new) ∙ h.path.covers (sym e))
      (segments_upto 0 (omega (arith, length-append s.segments (new ∷ []))))

  rising_visit : (j k : ℕ) → j ≤ k → k < length (s.segments ++ new ∷ []) → (segment_at (s.segments ++ new ∷ []) j).path_from ≤ (segment_at (s.segments ++ new ∷ []) k).path_from
  rising_visit j k a l = ⊎_elim
      (λ o. let x = ap (λ (g : Segment). g.path_from) (segment_old k o) in
      let y = ap (λ (g : Segment). g.path_from) (segment_old j (omega arith)) in
      omega (arith, h.path.rising j k a o, x, y))
      (λ e. let x = ap (λ (g : Segment). g.path_from) (ap (segment_at (s.segments ++ new ∷ [])) e ∙ segment_new) in
      ⊎_elim
      (λ o. let y = ap (λ (g : Segment). g.path_from) (segment_old j o) in
      let z = h.path.within j (record { path_from = 0; steps_from = 0 }) o in
      omega (arith, x, y, z.0))
      (λ f. let g = ap (λ m. (segment_at (s.segments ++ new ∷ []) m).path_from) (e ∙ sym f) in omega (arith, g))
      (segments_upto j (omega arith)))
      (segments_upto k l)

  pub visit_walk : IsWalk next count (visited next s v)
  visit_walk = record {
    places = length-set s.place v (On (length s.path)) ∙ h.places;
    flags = h.flags;
    path = record {
      on_path = on_path_visit;
      has_place = has_place_visit;
      first = first_visit;
      covers = λ e. absurd (omega (arith, length-append s.segments (new ∷ [])));
      rising = rising_visit;
      within = All-push (λ (g : Segment). (g.path_from ≤ length (s.path ++ v ∷ [])) × (g.steps_from ≤ length (s.steps ++ next v))) s.segments new
          (λ k d l. let w = h.path.within k d l in (omega (arith, w.0, length-append s.path (v ∷ [])), omega (arith, w.1, length-append s.steps (next v))))
          (omega (arith, length-append s.path (v ∷ [])), omega (arith, length-append s.steps (next v)));
      joined = joined_visit;
      sources = source_visit;
      told = told_visit;
    };
    done = done_visit;
  }

-- fewer nodes are unseen
pub unseen_set : (ps : List Place) (v p : ℕ) → v < length ps → place_at ps v ≡ Unseen → unseen (set ps v (On p)) + 1 ≡ unseen ps
unfolding unseen
unseen_set [] v p l e = absurd (omega arith)
unseen_set (x ∷ ps) zero p l e = let f = ap is_unseen e in omega (arith, f)
unseen_set (x ∷ ps) (suc v) p l e = let f = unseen_set ps v p (omega arith) e in omega (arith, f)
