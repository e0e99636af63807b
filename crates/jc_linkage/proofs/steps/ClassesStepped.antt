-- Steps, and steps that are taken back.
use Rattle.std.proofs.Common.{◌≡◌, Bool, true, false, not, ◌&&◌, ◌||◌, cond, Option, Some, None, IsSome, is_some, refl, sym, ap, ◌∙◌, subst, ⊎_elim}
use Rattle.std.proofs.lemmas.Bool.{cases_Bool, false≢true, false_from_ne_true}
use Rattle.std.specs.FinMap as map
use Rattle.jc_classes.specs.Facts.{Facts}
use Rattle.jc_classes.specs.Names.{Name, same_name}
use Rattle.jc_classes.proofs.worlds.NameTests.{same_is, same_self}
use Rattle.jc_link.specs.Tables.{Places, class_at, placed}
use Rattle.jc_linkage.specs.Steps.{Classes, at_step, class_by, step_class, step_name}
use Rattle.jc_linkage.specs.declared.class_entry.ClassEntry.{ClassEntry}
use Rattle.jc_linkage.specs.declared.step.Step.{Step}
use Rattle.jc_linkage.specs.declared.step.Step.TheVariants.{Put, Remove}
use Rattle.jc_linkage.specs.inside.Holding.{AreBack, AreNamed, AreThere, CountsStep, PutsClass, new_name, given_in, removed_name, name_of, stepped_by}
use Rattle.jc_linkage.specs.inside.Kept.{KeptMap}
use Rattle.jc_linkage.specs.inside.Users.{is_name}
use Rattle.jc_linkage.specs.inside.Stepping.{AreTaken}
use Rattle.jc_linkage.proofs.equations.Booleans.{or_no, and_yes, and_no}
use Rattle.jc_linkage.proofs.equations.Options.{some_one, none_some}

-- ---- a step

pub stepped_not : (s : Option Step) (m : Classes) (n : Name) → at_step s n ≡ false → stepped_by s m n ≡ m n
stepped_not None m n e = refl
stepped_not (Some s) m n e = ap (λ b. cond b (step_class s) (m n)) e

pub stepped_at : (s : Option Step) (m : Classes) (n : Name) → at_step s n ≡ true → stepped_by s m n ≡ class_by s
stepped_at None m n e = absurd (false≢true e)
stepped_at (Some s) m n e = ap (λ b. cond b (step_class s) (m n)) e

pub given_by : (s other : Option Step) (m : Classes) (n : Name) → CountsStep m s other → at_step s n ≡ true → is_some (m n) ≡ true
given_by None other m n h e = absurd (false≢true e)
given_by (Some s) other m n h e = ap (λ k. is_some (m k)) (same_is n (step_name s) e) ∙ h.0

pub apart_by : (s other : Option Step) (m : Classes) (n : Name) → CountsStep m s other → at_step s n ≡ true → at_step other n ≡ false
apart_by None other m n h e = absurd (false≢true e)
apart_by (Some s) other m n h e = ap (at_step other) (same_is n (step_name s) e) ∙ h.1

pub puts_by : (s : Option Step) (n : Name) → PutsClass s → at_step s n ≡ true → is_some (class_by s) ≡ true
puts_by None n h e = absurd (false≢true e)
puts_by (Some s) n h e = h

removed_there : (s : Option Step) (n : Name) → at_step s n ≡ true → is_some (removed_name s) ≡ not (is_some (class_by s))
removed_there None n e = absurd (false≢true e)
removed_there (Some s) n e = by (is_some (step_class s))
  where
    by : (b : Bool) → is_some (cond b None (Some (step_name s))) ≡ not b
    by true = refl
    by false = refl

name_if : (b : Bool) (s : Option Step) (n : Name) → is_name (cond b (name_of s) None) n ≡ (at_step s n && b)
name_if true None n = refl
name_if true (Some s) n = sym (and_yes (same_name n (step_name s)))
name_if false s n = sym (and_no (at_step s n))

pub new_name_is : (kept : KeptMap) (s : Option Step) (d : Name) → is_name (new_name kept s) d ≡ (at_step s d && not (is_some (map.get kept d)))
new_name_is kept None d = refl
new_name_is kept (Some s) d =
    ⊎_elim
    (λ e. here (is_some (map.get kept (step_name s))) ∙ ap (λ j. same_name d (step_name s) && not (is_some (map.get kept j))) (sym (same_is d (step_name s) e)))
    (λ e. other (is_some (map.get kept (step_name s))) e ∙ ap (λ b. b && not (is_some (map.get kept d))) (sym e))
    (cases_Bool (same_name d (step_name s)))
  where
    here : (b : Bool) → is_name (cond b None (Some (step_name s))) d ≡ (same_name d (step_name s) && not b)
    here true = sym (and_no (same_name d (step_name s)))
    here false = sym (and_yes (same_name d (step_name s)))

    other : (b : Bool) → same_name d (step_name s) ≡ false → is_name (cond b None (Some (step_name s))) d ≡ false
    other true e = refl
    other false e = e

-- ---- each class stands at its own name

put_named : (s : Step) (f : Facts) → step_class s ≡ Some f → f.name ≡ step_name s
put_named (Put g) f e = ap (λ (x : Facts). x.name) (sym (some_one e))
put_named (Remove name) f e = absurd (none_some e)

pub named_after : (s : Option Step) (old new : Places) → AreNamed old → ((n : Name) → class_at new n ≡ stepped_by s (class_at old) n) → AreNamed new
named_after None old new h now = λ n f e. h n f (sym (now n) ∙ e)
named_after (Some s) old new h now = λ n f e. ⊎_elim
    (λ t. put_named s f (sym (now n ∙ stepped_at (Some s) (class_at old) n t) ∙ e) ∙ sym (same_is n (step_name s) t))
    (λ t. h n f (sym (now n ∙ stepped_not (Some s) (class_at old) n t) ∙ e))
    (cases_Bool (same_name n (step_name s)))

-- of the one that comes nothing is kept
pub new_name_absent : (kept : KeptMap) (s : Option Step) (n : Name) → new_name kept s ≡ Some n → map.get kept n ≡ None
new_name_absent kept None n h = absurd (none_some h)
new_name_absent kept (Some s) n h = by (map.get kept (step_name s)) refl h
  where
    by : (o : Option ClassEntry) → map.get kept (step_name s) ≡ o → cond (is_some o) None (Some (step_name s)) ≡ Some n → map.get kept n ≡ None
    by None e h = ap (map.get kept) (sym (some_one h)) ∙ e
    by (Some k) e h = absurd (none_some h)

-- ---- steps taken back

pub back_at : (b s : Option Step) (m : Classes) (n : Name) → AreBack b s m → at_step b n ≡ at_step s n
back_at None None m n h = refl
back_at (Some b) (Some s) m n h = ap (same_name n) h.name
back_at None (Some s) m n h = absurd h
back_at (Some b) None m n h = absurd h

pub back_behind : (b s : Option Step) (m k : Classes) → ((n : Name) → m n ≡ k n) → AreBack b s m → AreBack b s k
back_behind b s m k same h = subst (AreBack b s) (λ i n. same n i) h

twice : (b : Bool) (x y z : Option Facts) → (b ≡ true → x ≡ z) → cond b x (cond b y z) ≡ z
twice true x y z h = h refl
twice false x y z h = refl

pub undone : (b s : Option Step) (m k : Classes) → AreBack b s m → ((n : Name) → k n ≡ stepped_by s m n) → (n : Name) → stepped_by b k n ≡ m n
undone None None m k h now n = now n
undone (Some b) (Some s) m k h now n =
    ap (cond (same_name n (step_name b)) (step_class b)) (now n)
    ∙ ap (λ j. cond (same_name n j) (step_class b) (cond (same_name n (step_name s)) (step_class s) (m n))) h.name
    ∙ twice (same_name n (step_name s)) (step_class b) (step_class s) (m n) (λ e. h.class ∙ ap m (sym (same_is n (step_name s) e)))
undone None (Some s) m k h now n = absurd h
undone (Some b) None m k h now n = absurd h

some_place : (o : Option (Option Facts)) → is_some (placed o) ≡ true → is_some o ≡ true
some_place None h = h
some_place (Some o) h = refl

pub there_back : (b s : Option Step) (t u : Places) → AreBack b s (class_at t) → ((n : Name) → IsSome (map.get t n) → IsSome (map.get u n)) → AreThere b u
there_back None s t u h stays = tt
there_back (Some b) (Some s) t u h stays = λ f. stays (step_name b) (some_place (map.get t (step_name b)) (ap (λ j. is_some (class_at t j)) h.name ∙ ap is_some (sym h.class) ∙ f))
there_back (Some b) None t u h stays = absurd h

pub there_still : (b : Option Step) (t u : Places) → AreThere b t → ((n : Name) → at_step b n ≡ true → IsSome (map.get t n) → IsSome (map.get u n)) → AreThere b u
there_still None t u h stays = tt
there_still (Some b) t u h stays = λ f. stays (step_name b) (same_self (step_name b)) (h f)

-- ---- places that may be vacant

-- those of a step are those of the one that takes it back
pub back_taken : (b s : Option Step) (m : Classes) (vacant : Name → Bool) (t : Places) → AreBack b s m → AreTaken (λ n. vacant n || at_step s n) t → AreTaken (λ n. vacant n || at_step b n) t
back_taken b s m vacant t back taken = λ n v. taken n (ap (λ x. vacant n || x) (sym (back_at b s m n back)) ∙ v)

one_no : (a b : Bool) → (a && not b) ≡ false → b ≡ false → a ≡ false
one_no true true e h = absurd (false≢true (sym h))
one_no true false e h = e
one_no false b e h = refl

-- only the place of the class that goes
pub gone_taken : (first second : Option Step) (gone : Name → Bool) (t : Places) → ((n : Name) → gone n ≡ (at_step first n && not (given_in t n)))
    → ((n : Name) → at_step second n ≡ true → given_in t n ≡ true) → AreTaken (λ n. at_step first n || at_step second n) t → AreTaken gone t
gone_taken first second gone t is_gone stands taken = λ n v there. ⊎_elim
    (λ given. given)
    (λ missing.
    let not_first : at_step first n ≡ false = one_no (at_step first n) (given_in t n) (sym (is_gone n) ∙ v) missing in
    let not_second : at_step second n ≡ false = false_from_ne_true (at_step second n) (λ e. false≢true (sym missing ∙ stands n e)) in
    taken n (ap (λ b. b || at_step second n) not_first ∙ not_second) there)
    (cases_Bool (given_in t n))

-- ---- two steps that were made

pub record AreBoth (first second first_back second_back : Option Step) (m k : Classes) : Type 0 where
  pub counts : CountsStep m first second
  pub puts : PutsClass second
  pub made : (n : Name) → k n ≡ stepped_by second (stepped_by first m) n
  pub back_first : AreBack first_back first m
  pub back_second : AreBack second_back second (stepped_by first m)

pub both_of : (first second first_back second_back : Option Step) (old new : Places) → CountsStep (class_at old) first second → PutsClass second
    → ((n : Name) → class_at new n ≡ stepped_by second (stepped_by first (class_at old)) n)
    → AreBack first_back first (class_at old) → AreBack second_back second (stepped_by first (class_at old))
    → AreBoth first second first_back second_back (class_at old) (class_at new)
both_of first second first_back second_back old new counts puts made back_first back_second =
    record { counts = counts; puts = puts; made = made; back_first = back_first; back_second = back_second }

module _ {first second first_back second_back : Option Step} {m k : Classes} (both : AreBoth first second first_back second_back m k) where
  behind_first : (n : Name) → at_step first_back n ≡ true → k n ≡ class_by first
  behind_first n e =
      let f = sym (back_at first_back first m n both.back_first) ∙ e in
      both.made n ∙ stepped_not second (stepped_by first m) n (apart_by first second m n both.counts f) ∙ stepped_at first m n f

  pub first_stood : (n : Name) → at_step first_back n ≡ true → is_some (m n) ≡ true
  first_stood n e = given_by first second m n both.counts (sym (back_at first_back first m n both.back_first) ∙ e)

  pub second_stands : (n : Name) → at_step second_back n ≡ true → is_some (k n) ≡ true
  second_stands n e =
      let f = sym (back_at second_back second (stepped_by first m) n both.back_second) ∙ e in
      ap is_some (both.made n ∙ stepped_at second (stepped_by first m) n f) ∙ puts_by second n both.puts f

  pub backs_apart : (n : Name) → at_step first_back n ≡ true → at_step second_back n ≡ false
  backs_apart n e =
      back_at second_back second (stepped_by first m) n both.back_second ∙ apart_by first second m n both.counts (sym (back_at first_back first m n both.back_first) ∙ e)

  pub backs_touch : (n : Name) → (at_step first_back n || at_step second_back n) ≡ (at_step first n || at_step second n)
  backs_touch n =
      ap (λ b. b || at_step second_back n) (back_at first_back first m n both.back_first)
      ∙ ap (λ b. at_step first n || b) (back_at second_back second (stepped_by first m) n both.back_second)

  pub backs_stay : (n : Name) → (at_step first_back n || at_step second_back n) ≡ false → k n ≡ m n
  backs_stay n t =
      let p = or_no (at_step first n) (at_step second n) (sym (backs_touch n) ∙ t) in
      both.made n ∙ stepped_not second (stepped_by first m) n p.1 ∙ stepped_not first m n p.0

  pub gone_then : (n : Name) → is_name (cond (is_some (removed_name first)) (name_of first_back) None) n ≡ (at_step first_back n && not (is_some (k n)))
  gone_then n = name_if (is_some (removed_name first)) first_back n ∙ ⊎_elim
      (λ e. ap (λ b. at_step first_back n && b) (removed_there first n (sym (back_at first_back first m n both.back_first) ∙ e) ∙ ap (λ o. not (is_some o)) (sym (behind_first n e))))
      (λ e. ap (λ b. b && is_some (removed_name first)) e ∙ sym (ap (λ b. b && not (is_some (k n))) e))
      (cases_Bool (at_step first_back n))

  pub both_undone : (after : Places) → ((n : Name) → class_at after n ≡ k n) → (n : Name) → stepped_by first_back (stepped_by second_back (class_at after)) n ≡ m n
  both_undone after same n =
      undone first_back first m (stepped_by second_back (class_at after)) both.back_first
      (undone second_back second (stepped_by first m) (class_at after) both.back_second (λ j. same j ∙ both.made j)) n
