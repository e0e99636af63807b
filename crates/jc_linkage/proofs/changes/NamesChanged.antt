-- An edit of one name or two, as an instance of any edit.
use Rattle.std.proofs.Common.{◌≡◌, Bool, true, false, not, ◌&&◌, ◌||◌, cond, List, ◌++◌, length, Option, Some, None, IsSome, is_some, refl, sym, ap, ◌∙◌, subst, ⊎_elim}
use Rattle.std.proofs.lemmas.Bool.{cases_Bool, false≢true}
use Rattle.std.proofs.lemmas.List.Folds.{list_any-append}
use Rattle.std.specs.FinMap as map
use Rattle.std.specs.Option.{option_to_list}
use Rattle.jc_classes.specs.Facts.{Facts}
use Rattle.jc_classes.specs.Laws.{Differ}
use Rattle.jc_classes.specs.NameLists.{has}
use Rattle.jc_classes.specs.Names.{Name, same_name}
use Rattle.jc_classes.proofs.worlds.NameTests.{same_is, same_self}
use Rattle.jc_link.specs.Meters.{counted}
use Rattle.jc_link.specs.Tables.{Places, class_at, world}
use Rattle.jc_link.proofs.tables.Changes.{worlds_differ}
use Rattle.jc_link.specs.declared.meter.Meter.{Meter}
use Rattle.jc_linkage.specs.Affected.{IsAffected, IsCounted, NoRepeat, counts_of}
use Rattle.jc_linkage.specs.Steps.{at_step, step_name}
use Rattle.jc_linkage.specs.declared.class_entry.NewEntry.{NewEntry}
use Rattle.jc_linkage.specs.declared.dependants.Dependants.{Dependants}
use Rattle.jc_linkage.specs.declared.step.Step.{Step}
use Rattle.jc_linkage.specs.inside.Holding.{IsHeld, new_name, given_in, name_of}
use Rattle.jc_linkage.specs.inside.Kept.{AllFresh, AreLinked, KeptHits, KeptMap, fresh_at, fresh_names, held_in}
use Rattle.jc_linkage.specs.inside.Kept.Relation.{Reaches}
use Rattle.jc_linkage.specs.inside.Prepared.{HasAskedFor, IsPrepared}
use Rattle.jc_linkage.specs.inside.Users.{is_name, users_at}
use Rattle.jc_linkage.proofs.equations.Booleans.{or_right, or_left, or_split, and_no, and_not, not_and, same_test}
use Rattle.jc_linkage.proofs.equations.Options.{some_by, not_some}
use Rattle.jc_linkage.proofs.fresh.FreshLists.{names_append, fresh_at_append, fresh_at_absent}
use Rattle.jc_linkage.proofs.fresh.NewcomersReady.{one_has, one_once}
use Rattle.jc_linkage.proofs.held.KeptMaps.{kept_by}
use Rattle.jc_linkage.proofs.held.UserNames.{once_joined}
use Rattle.jc_linkage.proofs.steps.ClassesStepped.{new_name_is}
use Rattle.jc_linkage.proofs.changes.AnyChange.{holds_after, listed}
use Rattle.jc_linkage.proofs.changes.PartsCounted.{counted_after}

-- ---- tests

turn : (x : Bool) → (true && not x) ≡ (not x && true)
turn true = refl
turn false = refl

and_front : (a b : Bool) → (a && not b) ≡ true → (a ≡ true) × (b ≡ false)
and_front true true e = absurd (false≢true e)
and_front true false e = (refl, refl)
and_front false b e = absurd (false≢true e)

stays_none : (g k : Bool) → (g && not k) ≡ false → k ≡ false → g ≡ false
stays_none true true e f = f
stays_none true false e f = absurd (false≢true (sym e))
stays_none false k e f = refl

pub not_given : (b : Bool) (o : Option Facts) → (b && not (is_some o)) ≡ true → o ≡ None
not_given b o e = not_some o (and_front b (is_some o) e).1

-- ---- one name or two

-- the reach that is kept of a class holds the name of either step
abbrev pub either_used : (first second : Option Step) → Dependants → Name → Bool
either_used first second dependants d = has (users_at dependants.reach (name_of first)) d || has (users_at dependants.reach (name_of second)) d

-- a class that is linked to the name of a step is kept, and its reach holds the name
used_at : (kept : KeptMap) (dependants : Dependants) → AreLinked kept dependants → (s : Option Step) (d : Name) → has (users_at dependants.reach (name_of s)) d ≡ true → KeptHits (at_step s) kept d
used_at kept dependants linked None d h = absurd (false≢true h)
used_at kept dependants linked (Some s) d h = (step_name s, same_self (step_name s), sym (linked Reaches (step_name s) d) ∙ h)

either_at : (kept : KeptMap) (dependants : Dependants) → AreLinked kept dependants → (first second : Option Step) (d : Name) → either_used first second dependants d ≡ true → KeptHits (λ n. at_step first n || at_step second n) kept d
either_at kept dependants linked first second d h = ⊎_elim
    (λ e. let u = used_at kept dependants linked first d e in (u.0, or_left (at_step first u.0) (at_step second u.0) u.1, u.2))
    (λ e. let u = used_at kept dependants linked second d e in (u.0, or_right (at_step first u.0) (at_step second u.0) u.1, u.2))
    (or_split _ _ h)

-- the classes of which parts are made are those that are kept, but the one that goes
pub users_kept : (kept : KeptMap) (dependants : Dependants) (first second : Option Step) (gone : Name → Bool) (names : List Name) → AreLinked kept dependants
    → ((d : Name) → has names d ≡ (either_used first second dependants d && not (gone d)))
    → (d : Name) → has names d ≡ true → (gone d ≡ false) × IsSome (map.get kept d)
users_kept kept dependants first second gone names linked users d h =
    let p = and_front (either_used first second dependants d) (gone d) (sym (users d) ∙ h) in
    let hit = either_at kept dependants linked first second d p.0 in
    (p.1, ap is_some (kept_by (map.get kept d) hit.0 hit.2).1)

-- two steps were made, and parts of the classes that they affect
pub record AreMade (prefixes : List Name) (old new : Places) (first second : Option Step) (gone : Name → Bool) (kept mid : KeptMap) (dependants : Dependants) (fresh last : List NewEntry) : Type 0 where
  pub held : IsHeld old prefixes kept dependants
  pub stood : (n : Name) → at_step first n ≡ true → given_in old n ≡ true
  pub stands : (n : Name) → at_step second n ≡ true → given_in new n ≡ true
  pub stays : (n : Name) → (at_step first n || at_step second n) ≡ false → class_at new n ≡ class_at old n
  pub leaves : (n : Name) → gone n ≡ (at_step first n && not (given_in new n))
  pub users : (d : Name) → has (fresh_names fresh) d ≡ (either_used first second dependants d && not (gone d))
  pub once : NoRepeat (fresh_names fresh)
  pub newcomer : fresh_names last ≡ option_to_list (new_name kept second)
  pub parts : AllFresh (world new prefixes) (fresh ++ last)
  pub at : (d : Name) → map.get mid d ≡ fresh_at last d (map.get kept d)

-- what the code knows before it finishes
pub users_by : (first second : Option Step) (a b : Option Name) (gone : Name → Bool) (names fresh : List Name) (dependants : Dependants)
    → a ≡ name_of first → b ≡ name_of second → fresh ≡ names
    → ((d : Name) → has names d ≡ ((has (users_at dependants.reach a) d || has (users_at dependants.reach b) d) && not (gone d)))
    → (d : Name) → has fresh d ≡ (either_used first second dependants d && not (gone d))
users_by first second a b gone names fresh dependants at_first at_second same users d =
    ap (λ z. has z d) same ∙ users d
    ∙ ap (λ z. (has (users_at dependants.reach z) d || has (users_at dependants.reach b) d) && not (gone d)) at_first
    ∙ ap (λ z. (has (users_at dependants.reach (name_of first)) d || has (users_at dependants.reach z) d) && not (gone d)) at_second

pub made_of : (first second : Option Step) (gone : Name → Bool) (comes : Option Name)
    {prefixes : List Name} {old new : Places} {kept mid : KeptMap} {dependants : Dependants} {names : List Name} {fresh : List NewEntry} {old_meter new_meter : Meter}
    → IsHeld old prefixes kept dependants
    → ((n : Name) → at_step first n ≡ true → given_in old n ≡ true) → ((n : Name) → at_step second n ≡ true → given_in new n ≡ true)
    → ((n : Name) → (at_step first n || at_step second n) ≡ false → class_at new n ≡ class_at old n)
    → ((n : Name) → gone n ≡ (at_step first n && not (given_in new n))) → comes ≡ new_name kept second
    → ((d : Name) → has (fresh_names fresh) d ≡ (either_used first second dependants d && not (gone d))) → NoRepeat names
    → (ready : IsPrepared (world new prefixes) names comes kept mid fresh old_meter new_meter) → AreMade prefixes old new first second gone kept mid dependants fresh ready.last
made_of first second gone comes held stood stands stays leaves come users once ready = record {
  held = held;
  stood = stood;
  stands = stands;
  stays = stays;
  leaves = leaves;
  users = users;
  once = subst NoRepeat (sym ready.others) once;
  newcomer = ready.newcomer ∙ ap option_to_list come;
  parts = ready.parts;
  at = ready.at;
}

module _ {prefixes : List Name} {old new : Places} {first second : Option Step} {gone : Name → Bool} {kept mid : KeptMap} {dependants : Dependants} {fresh last : List NewEntry}
    (made : AreMade prefixes old new first second gone kept mid dependants fresh last) where
  abbrev pub touches : Name → Bool
  touches n = at_step first n || at_step second n

  untouched : (n : Name) → at_step first n ≡ false → at_step second n ≡ false → class_at new n ≡ class_at old n
  untouched n e f = made.stays n (ap (λ b. b || at_step second n) e ∙ f)

  differ : Differ touches (world old prefixes) (world new prefixes)
  differ = worlds_differ touches old new prefixes (λ n t. sym (made.stays n t))

  same : (n : Name) → touches n ≡ false → given_in old n ≡ given_in new n
  same n t = ap is_some (sym (made.stays n t))

  goes : (d : Name) → gone d ≡ (given_in old d && not (given_in new d))
  goes d =
      made.leaves d ∙ ⊎_elim
      (λ e. ap (λ b. b && not (given_in new d)) (e ∙ sym (made.stood d e)))
      (λ e. ap (λ b. b && not (given_in new d)) e ∙ ⊎_elim
      (λ f. sym (ap (λ b. given_in old d && not b) (made.stands d f) ∙ and_no (given_in old d)))
      (λ f. sym (ap (λ o. given_in old d && not (is_some o)) (untouched d e f) ∙ and_not (given_in old d)))
      (cases_Bool (at_step second d)))
      (cases_Bool (at_step first d))

  kept_is : (d : Name) → is_some (map.get kept d) ≡ given_in old d
  kept_is d = same_test _ _
      (λ h. let q = some_by (map.get kept d) h in made.held.parts.only d q.0 q.1)
      (λ h. made.held.parts.complete d h)

  comes : (d : Name) → is_name (new_name kept second) d ≡ (not (given_in old d) && given_in new d)
  comes d = new_name_is kept second d ∙ ap (λ b. at_step second d && not b) (kept_is d) ∙ ⊎_elim
      (λ f. ap (λ b. b && not (given_in old d)) f ∙ turn (given_in old d) ∙ ap (λ b. not (given_in old d) && b) (sym (made.stands d f)))
      (λ f. ap (λ b. b && not (given_in old d)) f ∙ ⊎_elim
      (λ e. sym (ap (λ b. not b && given_in new d) (made.stood d e)))
      (λ e. sym (ap (λ o. not (given_in old d) && is_some o) (untouched d e f) ∙ not_and (given_in old d)))
      (cases_Bool (at_step first d)))
      (cases_Bool (at_step second d))

  hit_from : (s : Option Step) (d n : Name) → at_step s n ≡ true → held_in Reaches kept d n ≡ true → has (users_at dependants.reach (name_of s)) d ≡ true
  hit_from None d n e h = absurd (false≢true e)
  hit_from (Some s) d n e h = made.held.linked Reaches (step_name s) d ∙ ap (held_in Reaches kept d) (sym (same_is n (step_name s) e)) ∙ h

  hits_to : (d : Name) → either_used first second dependants d ≡ true → KeptHits touches kept d
  hits_to d h = either_at kept dependants made.held.linked first second d h

  hits_from : (d : Name) → KeptHits touches kept d → either_used first second dependants d ≡ true
  hits_from d h = ⊎_elim
      (λ e. or_left _ _ (hit_from first d h.0 e h.2))
      (λ e. or_right (has (users_at dependants.reach (name_of first)) d) _ (hit_from second d h.0 e h.2))
      (or_split (at_step first h.0) (at_step second h.0) h.1)

  last_has : (d : Name) → has (fresh_names last) d ≡ is_name (new_name kept second) d
  last_has d = ap (λ z. has z d) made.newcomer ∙ one_has (new_name kept second) d

  all_names : (d : Name) → has (fresh_names (fresh ++ last)) d ≡ ((either_used first second dependants d && not (gone d)) || is_name (new_name kept second) d)
  all_names d =
      ap (λ z. has z d) (names_append fresh last) ∙ list_any-append (same_name d) (fresh_names fresh) (fresh_names last)
      ∙ ap (λ b. b || has (fresh_names last) d) (made.users d)
      ∙ ap (λ b. (either_used first second dependants d && not (gone d)) || b) (last_has d)

  exact : (d : Name) → (has (fresh_names (fresh ++ last)) d ≡ true → IsAffected (given_in new) (world new prefixes) touches d) × (IsAffected (given_in new) (world new prefixes) touches d → has (fresh_names (fresh ++ last)) d ≡ true)
  exact d =
      listed touches (given_in old) (given_in new) (world old prefixes) (world new prefixes) kept differ same made.held.parts
      (fresh_names (fresh ++ last)) (either_used first second dependants) gone (is_name (new_name kept second))
      hits_to hits_from goes comes all_names d

  used_kept : (d : Name) → has (fresh_names fresh) d ≡ true → IsSome (map.get kept d)
  used_kept d h = (users_kept kept dependants first second gone (fresh_names fresh) made.held.linked made.users d h).1

  last_absent : (d : Name) → given_in old d ≡ true → has (fresh_names last) d ≡ false
  last_absent d g = last_has d ∙ comes d ∙ ap (λ b. not b && given_in new d) g

  all_once : NoRepeat (fresh_names (fresh ++ last))
  all_once = subst NoRepeat (sym (names_append fresh last))
      (once_joined (fresh_names fresh) (fresh_names last) made.once (subst NoRepeat (sym made.newcomer) (one_once (new_name kept second)))
      (λ d h. last_absent d (sym (kept_is d) ∙ used_kept d h)))

  kept_then : (d : Name) → cond (gone d) None (map.get mid d) ≡ fresh_at last d (cond (given_in new d) (map.get kept d) None)
  kept_then d = ap (cond (gone d) None) (made.at d) ∙ ⊎_elim
      (λ g.
      let p = and_front (given_in old d) (given_in new d) (sym (goes d) ∙ g) in
      ap (λ b. cond b None (fresh_at last d (map.get kept d))) g
      ∙ sym (ap (λ b. fresh_at last d (cond b (map.get kept d) None)) p.1 ∙ fresh_at_absent last d None (last_absent d p.0)))
      (λ g.
      ap (λ b. cond b None (fresh_at last d (map.get kept d))) g
      ∙ ap (fresh_at last d) (⊎_elim
      (λ e. ap (λ b. cond b (map.get kept d) None) (sym e))
      (λ e. not_some (map.get kept d) (kept_is d ∙ stays_none _ _ (sym (goes d) ∙ g) e) ∙ ap (λ b. cond b (map.get kept d) None) (sym e))
      (cases_Bool (given_in new d))))
      (cases_Bool (gone d))

  -- with the removed_name let go and the parts put in, what is held is right
  pub held_then : (after : KeptMap) (joined : Dependants) → AreLinked after joined
      → ((d : Name) → map.get after d ≡ fresh_at fresh d (cond (gone d) None (map.get mid d)))
      → IsHeld new prefixes after joined
  held_then after joined linked at = record {
    parts = holds_after touches (given_in old) (given_in new) (world old prefixes) (world new prefixes) kept differ same made.held.parts after (fresh ++ last) made.parts
        (λ d. (exact d).0) (λ d. (exact d).1)
        (λ d. at d ∙ ap (fresh_at fresh d) (kept_then d) ∙ sym (fresh_at_append fresh last d (cond (given_in new d) (map.get kept d) None)));
    linked = linked;
  }

  pub counted_then : (before behind : Meter) → behind.made ≡ counted before.made (length (fresh_names (fresh ++ last)))
      → HasAskedFor (world new prefixes) (fresh_names (fresh ++ last)) before behind
      → IsCounted (given_in new) (world new prefixes) touches (counts_of before) (counts_of behind)
  counted_then before behind parts asked =
      counted_after touches (given_in new) (world new prefixes) (fresh ++ last) before behind made.parts all_once (λ d. (exact d).0) (λ d. (exact d).1) parts asked
