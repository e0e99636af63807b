-- Other prefixes of names that are outside, as an instance of any edit.
use Rattle.std.proofs.Common.{◌≡◌, ◌∙◌, Bool, true, false, not, ◌&&◌, ◌||◌, cond, List, [], ◌∷◌, ◌++◌, length, None, Some, Option, is_some, IsSome, append-nil, refl, sym, ap, subst}
use Rattle.std.proofs.lemmas.Bool.{false≢true}
use Rattle.std.specs.FinMap as fin
use Rattle.jc_classes.specs.Facts.{Facts}
use Rattle.jc_classes.specs.Laws.{Differ}
use Rattle.jc_classes.specs.Loading.{same_bool}
use Rattle.jc_classes.specs.NameLists.{has}
use Rattle.jc_classes.specs.Names.{Name, object, same_name}
use Rattle.jc_classes.specs.BuiltIn.{object_facts}
use Rattle.jc_link.specs.Meters.{counted}
use Rattle.jc_link.specs.Prefixes.{is_covered}
use Rattle.jc_link.specs.Tables.{Places, class_at, or_built_in, class_found, world}
use Rattle.jc_link.proofs.tables.Changes.{prefixes_differ}
use Rattle.jc_link.specs.declared.meter.Meter.{Meter}
use Rattle.jc_linkage.specs.Affected.{IsAffected, IsCounted, NoRepeat, counts_of}
use Rattle.jc_linkage.specs.Switches.{switches}
use Rattle.jc_linkage.specs.declared.class_entry.NewEntry.{NewEntry}
use Rattle.jc_linkage.specs.declared.class_entry.ClassEntry.{ClassEntry}
use Rattle.jc_linkage.specs.declared.dependants.Dependants.{Dependants}
use Rattle.jc_linkage.specs.inside.Holding.{IsHeld, given_in}
use Rattle.jc_linkage.specs.inside.Kept.{AllFresh, AreLinked, KeptHits, KeptMap, fresh_at, fresh_names}
use Rattle.jc_linkage.specs.inside.Kept.Relation.{Reaches}
use Rattle.jc_linkage.specs.inside.Prepared.{HasAskedFor, IsPrepared}
use Rattle.jc_linkage.specs.inside.SwitchedNames.{IsUser, switches_by}
use Rattle.jc_linkage.proofs.changes.AnyChange.{holds_after, listed}
use Rattle.jc_linkage.proofs.changes.PartsCounted.{counted_after}

same_by : (a b : Bool) → same_bool a b ≡ true → a ≡ b
same_by true b e = sym e
same_by false true e = absurd (false≢true e)
same_by false false e = refl

not_or : (a b : Bool) → (not a && not b) ≡ not (a || b)
not_or true b = refl
not_or false b = refl

turn_and : (a b : Bool) → (a && b) ≡ (b && a)
turn_and true true = refl
turn_and true false = refl
turn_and false true = refl
turn_and false false = refl

record_some : (o : Option Facts) (n : Name) → is_some (or_built_in o n) ≡ (is_some o || same_name n object)
record_some (Some f) n = refl
record_some None n = by (same_name n object)
  where
    by : (b : Bool) → is_some (cond b (Some object_facts) None) ≡ b
    by true = refl
    by false = refl

no_fresh : (xs : List NewEntry) → fresh_names xs ≡ [] → xs ≡ []
no_fresh [] e = refl
no_fresh (x ∷ xs) e = absurd cc

module _ (places : Places) (old new : List Name) (kept : KeptMap) (dependants : Dependants) (held : IsHeld places old kept dependants) where
  given : Name → Bool
  given = given_in places

  abbrev touched : Name → Bool
  touched = switches places old new

  given_kept : (n : Name) → is_some (fin.get kept n) ≡ given_in places n
  given_kept n = by (fin.get kept n) (given_in places n) refl refl
    where
      by : (o : Option ClassEntry) (b : Bool) → fin.get kept n ≡ o → given_in places n ≡ b → is_some (fin.get kept n) ≡ given_in places n
      by (Some k) b e g = ap is_some e ∙ sym (held.parts.only n k e)
      by None true e g = absurd (false≢true (sym (ap is_some e) ∙ held.parts.complete n g))
      by None false e g = ap is_some e ∙ sym g

  -- told from what is kept, and from the table
  pub switches_is : (n : Name) → switches_by kept old new n ≡ switches places old new n
  switches_is n =
      let other = not (same_bool (is_covered old n) (is_covered new n)) in
      ap (λ b. other && (not b && not (same_name n object))) (given_kept n)
      ∙ ap (λ b. other && b) (not_or (given_in places n) (same_name n object) ∙ ap not (sym (record_some (class_at places n) n)))
      ∙ turn_and other (not (is_some (class_found places n)))

  differ : Differ (switches places old new) (world places old) (world places new)
  differ = prefixes_differ (switches places old new) places old new (λ n t none.
      same_by (is_covered old n) (is_covered new n) (by (same_bool (is_covered old n) (is_covered new n)) (sym (ap (λ o. not (is_some o) && not (same_bool (is_covered old n) (is_covered new n))) none) ∙ t)))
    where
      by : (b : Bool) → not b ≡ false → b ≡ true
      by true e = refl
      by false e = absurd (false≢true (sym e))

  user_hits : (d : Name) → IsUser (switches_by kept old new) dependants.reach d → KeptHits (switches places old new) kept d
  user_hits d u = (u.0, sym (switches_is u.0) ∙ u.1, sym (held.linked Reaches u.0 d) ∙ u.2)

  hits_user : (d : Name) → KeptHits (switches places old new) kept d → IsUser (switches_by kept old new) dependants.reach d
  hits_user d h = (h.0, switches_is h.0 ∙ h.1, held.linked Reaches h.0 d ∙ h.2)

  module _ (names : List Name) (sound : (d : Name) → has names d ≡ true → IsUser (switches_by kept old new) dependants.reach d)
      (complete : (d : Name) → IsUser (switches_by kept old new) dependants.reach d → has names d ≡ true) where
    none_moves : (h g : Bool) → h ≡ ((h && not (g && not g)) || (not g && g))
    none_moves true true = refl
    none_moves true false = refl
    none_moves false true = refl
    none_moves false false = refl

    pub exact : (d : Name) → (has names d ≡ true → IsAffected (given_in places) (world places new) (switches places old new) d) × (IsAffected (given_in places) (world places new) (switches places old new) d → has names d ≡ true)
    exact d =
        listed (switches places old new) (given_in places) (given_in places) (world places old) (world places new) kept differ (λ n t. refl) held.parts
        names (has names) (λ d. given_in places d && not (given_in places d)) (λ d. not (given_in places d) && given_in places d)
        (λ d h. user_hits d (sound d h)) (λ d h. complete d (hits_user d h)) (λ d. refl) (λ d. refl) (λ d. none_moves (has names d) (given_in places d)) d

    module _ {mid : KeptMap} {fresh : List NewEntry} {old_meter new_meter : Meter} (once : NoRepeat names) (ready : IsPrepared (world places new) names None kept mid fresh old_meter new_meter) where
      alone : ready.last ≡ []
      alone = no_fresh ready.last ready.newcomer

      whole : fresh ++ ready.last ≡ fresh
      whole = ap (λ z. fresh ++ z) alone ∙ append-nil fresh

      all : AllFresh (world places new) fresh
      all = subst (AllFresh (world places new)) whole ready.parts

      pub stays_kept : (d : Name) → fin.get mid d ≡ fin.get kept d
      stays_kept d = ready.at d ∙ ap (λ z. fresh_at z d (fin.get kept d)) alone

      sound_fresh : (d : Name) → has (fresh_names fresh) d ≡ true → IsAffected (given_in places) (world places new) (switches places old new) d
      sound_fresh d h = (exact d).0 (ap (λ z. has z d) (sym ready.others) ∙ h)

      complete_fresh : (d : Name) → IsAffected (given_in places) (world places new) (switches places old new) d → has (fresh_names fresh) d ≡ true
      complete_fresh d a = ap (λ z. has z d) ready.others ∙ (exact d).1 a

      -- each of them is kept
      pub fresh_kept : (d : Name) → has (fresh_names fresh) d ≡ true → IsSome (fin.get mid d)
      fresh_kept d h = ap is_some (stays_kept d) ∙ given_kept d ∙ (sound_fresh d h).0

      given_only : (d : Name) → fin.get kept d ≡ cond (given_in places d) (fin.get kept d) None
      given_only d = by (fin.get kept d) (given_in places d) (given_kept d)
        where
          by : (o : Option ClassEntry) (b : Bool) → is_some o ≡ b → o ≡ cond b o None
          by None true e = absurd (false≢true e)
          by None false e = refl
          by (Some k) true e = refl
          by (Some k) false e = absurd (false≢true (sym e))

      pub held_switched : (after : KeptMap) (joined : Dependants) → AreLinked after joined → ((d : Name) → fin.get after d ≡ fresh_at fresh d (fin.get mid d)) → IsHeld places new after joined
      held_switched after joined linked at = record {
        parts = holds_after (switches places old new) (given_in places) (given_in places) (world places old) (world places new) kept differ (λ n t. refl) held.parts after fresh all sound_fresh complete_fresh
            (λ d. at d ∙ ap (fresh_at fresh d) (stays_kept d ∙ given_only d));
        linked = linked;
      }

      pub counted_switched : HasAskedFor (world places new) (fresh_names (fresh ++ ready.last)) old_meter new_meter
          → IsCounted (given_in places) (world places new) (switches places old new) (counts_of old_meter) (counts_of new_meter)
      counted_switched asked =
          counted_after (switches places old new) (given_in places) (world places new) fresh old_meter new_meter all (subst NoRepeat (sym ready.others) once) sound_fresh complete_fresh
          (subst (λ z. new_meter.made ≡ counted old_meter.made (length (fresh_names z))) whole ready.made)
          (subst (λ z. HasAskedFor (world places new) (fresh_names z) old_meter new_meter) whole asked)
