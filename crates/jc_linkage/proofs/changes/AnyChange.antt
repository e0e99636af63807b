-- What is kept of a world, through any edit.
use Rattle.std.proofs.Common.{◌≡◌, Bool, true, false, not, ◌&&◌, ◌||◌, cond, refl, sym, ap, ◌∙◌, ◌⊎◌, inl, inr, ⊎_elim, List, Some, None, is_some, subst}
use Rattle.std.proofs.lemmas.Bool.{false≢true, cases_Bool}
use Rattle.std.specs.FinMap as map
use Rattle.jc_classes.specs.Laws.{Avoids, Differ}
use Rattle.jc_classes.specs.NameLists.{has}
use Rattle.jc_classes.specs.Names.{Name}
use Rattle.jc_classes.specs.Parts.{Reach}
use Rattle.jc_classes.specs.Parts.Reach.{itself}
use Rattle.jc_classes.specs.Worlds.{World}
use Rattle.jc_classes.proofs.worlds.Parts.{hits_either, part_there, reach_back, reach_there}
use Rattle.jc_link.specs.Closures.{facts_standing}
use Rattle.jc_linkage.specs.Affected.{IsAffected}
use Rattle.jc_linkage.specs.declared.class_entry.NewEntry.{NewEntry}
use Rattle.jc_linkage.specs.declared.class_entry.ClassEntry.{ClassEntry}
use Rattle.jc_linkage.specs.inside.Kept.{AllFresh, AreKeys, IsKept, IsKeptOf, KeptHits, KeptMap, fresh_at, fresh_names, held_in, keys_of, names_kept, required_by}
use Rattle.jc_linkage.specs.inside.Kept.Relation.{Reaches}
use Rattle.jc_linkage.proofs.equations.Booleans.{or_split, or_join, and_split, and_join}
use Rattle.jc_linkage.proofs.equations.Options.{some_by, none_some}
use Rattle.jc_linkage.proofs.fresh.FreshLists.{fresh_found, fresh_some, fresh_there}
use Rattle.jc_linkage.proofs.held.KeptMaps.{kept_by}

-- h, a kept reach holds a touched name; t, the class is touched; g and k, it is given before and after
listed_by : (h t g k : Bool) → (h ≡ true → g ≡ true) → (t ≡ true → g ≡ true → h ≡ true) → (t ≡ false → g ≡ k) → ((h && not (g && not k)) || (not g && k)) ≡ (k && (h || t))
listed_by true t false k a b c = absurd (false≢true (a refl))
listed_by true t true true a b c = refl
listed_by true t true false a b c = refl
listed_by false true true k a b c = absurd (false≢true (b refl refl))
listed_by false true false true a b c = refl
listed_by false true false false a b c = refl
listed_by false false true true a b c = refl
listed_by false false true false a b c = refl
listed_by false false false true a b c = absurd (false≢true (c refl))
listed_by false false false false a b c = refl

-- ---- two worlds that agree but for touched names, of which g and h say what files give

module _ (touched g h : Name → Bool) (w v : World) (kept : KeptMap) (differ : Differ touched w v) (same : (n : Name) → touched n ≡ false → g n ≡ h n) (held : IsKept g w kept) where
  differ_back : Differ touched v w
  differ_back n t = sym (differ n t)

  reached : (d n : Name) → held_in Reaches kept d n ≡ true → (g d ≡ true) × Reach w d n
  reached d n e =
      let q = kept_by (map.get kept d) n e in
      (held.only d q.0 q.1, (held.sound d q.0 q.1).reach.sound n (ap (λ o. has (names_kept Reaches o) n) (sym q.1) ∙ e))

  kept_has : (d n : Name) → g d ≡ true → Reach w d n → held_in Reaches kept d n ≡ true
  kept_has d n e r =
      let q = some_by (map.get kept d) (held.complete d e) in
      ap (λ o. has (names_kept Reaches o) n) q.1 ∙ (held.sound d q.0 q.1).reach.complete n r

  pub affected_by : (d : Name) → h d ≡ true → KeptHits touched kept d ⊎ (touched d ≡ true) → IsAffected h v touched d
  affected_by d e hits = (
    e,
    ⊎_elim
        (λ k. hits_either touched w v d differ (k.0, k.1, (reached d k.0 k.2).1))
        (λ t. (d, t, itself)) hits,
  )

  pub affected_kept : (d : Name) → IsAffected h v touched d → KeptHits touched kept d ⊎ (touched d ≡ true)
  affected_kept d a =
      ⊎_elim inr
      (λ t.
      let hit = hits_either touched v w d differ_back a.1 in
      inl (hit.0, hit.1, kept_has d hit.0 (same d t ∙ a.0) hit.2))
      (cases_Bool (touched d))

  -- what is kept of a class that reaches no touched name stays right
  pub keeps : (d : Name) (k : ClassEntry) → Avoids touched w d → IsKeptOf w d k → IsKeptOf v d k
  keeps d k avoids of =
      let there : w d ≡ v d = differ d (avoids d itself) in
      record {
        part = part_there touched w v d differ avoids k.part of.part;
        reach = record {
          rises = of.reach.rises;
          sound = λ n e. reach_there touched w v d differ avoids (of.reach.sound n e);
          complete = λ n r. of.reach.complete n (reach_back touched w v d differ avoids r);
        };
        required = subst (λ o. AreKeys (keys_of k) (required_by (facts_standing o) k.part)) there of.required;
      }

  -- with the affected classes made afresh, and those that are no longer given left out, what is kept is right
  pub holds_after : (after : KeptMap) (made : List NewEntry) → AllFresh v made
      → ((d : Name) → has (fresh_names made) d ≡ true → IsAffected h v touched d) → ((d : Name) → IsAffected h v touched d → has (fresh_names made) d ≡ true)
      → ((d : Name) → map.get after d ≡ fresh_at made d (cond (h d) (map.get kept d) None))
      → IsKept h v after
  holds_after after made all sound complete at =
      let split : (d : Name) (k : ClassEntry) → map.get after d ≡ Some k → (h d ≡ true) × IsKeptOf v d k =
      λ d k e. ⊎_elim
      (λ p. ((sound d p.1).0, p.0))
      (λ p. ⊎_elim
      (λ q.
      let was : map.get kept d ≡ Some k = sym (ap (λ b. cond b (map.get kept d) None) q) ∙ p.0 in (
        q,
        keeps d k
            (λ n r. ⊎_elim
            (λ t. absurd (false≢true (sym p.1 ∙ complete d (affected_by d q (inl (n, t, kept_has d n (held.only d k was) r))))))
            (λ t. t)
            (cases_Bool (touched n)))
            (held.sound d k was),
      ))
      (λ q. absurd (none_some (sym (ap (λ b. cond b (map.get kept d) None) q) ∙ p.0)))
      (cases_Bool (h d)))
      (fresh_found v made d (cond (h d) (map.get kept d) None) k all (sym (at d) ∙ e)) in
      record {
        only = λ d k e. (split d k e).0;
        sound = λ d k e. (split d k e).1;
        complete = λ d q. ap is_some (at d) ∙ ⊎_elim
            (λ e. fresh_there made d _ e)
            (λ e. fresh_some made d _
            (ap (λ b. is_some (cond b (map.get kept d) None)) q
            ∙ held.complete d (same d (⊎_elim (λ t. absurd (false≢true (sym e ∙ complete d (affected_by d q (inr t))))) (λ t. t) (cases_Bool (touched d))) ∙ q)))
            (cases_Bool (has (fresh_names made) d));
      }

  -- the users of the touched names, without the classes that go, and with those that come, are the affected ones
  pub listed : (names : List Name) (hits goes comes : Name → Bool)
      → ((d : Name) → hits d ≡ true → KeptHits touched kept d) → ((d : Name) → KeptHits touched kept d → hits d ≡ true)
      → ((d : Name) → goes d ≡ (g d && not (h d))) → ((d : Name) → comes d ≡ (not (g d) && h d))
      → ((d : Name) → has names d ≡ ((hits d && not (goes d)) || comes d))
      → (d : Name) → (has names d ≡ true → IsAffected h v touched d) × (IsAffected h v touched d → has names d ≡ true)
  listed names hits goes comes to from gone come is d =
      let all : has names d ≡ (h d && (hits d || touched d)) =
      is d ∙ ap (λ b. (hits d && not b) || comes d) (gone d) ∙ ap (λ b. (hits d && not (g d && not (h d))) || b) (come d)
      ∙ listed_by (hits d) (touched d) (g d) (h d)
      (λ e. let k = to d e in (reached d k.0 k.2).0)
      (λ t e. from d (d, t, kept_has d d e itself))
      (same d) in (
        (λ e. let p = and_split _ _ (sym all ∙ e) in
            affected_by d p.0 (⊎_elim (λ q. inl (to d q)) inr (or_split _ _ p.1))),
        (λ a. all ∙ and_join _ _ a.0 (or_join _ _ (⊎_elim (λ k. inl (from d k)) inr (affected_kept d a)))),
      )
