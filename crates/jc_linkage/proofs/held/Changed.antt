-- Classes that were changed by a step that may change nothing, and by a class that may stand there already.
use Rattle.std.proofs.Common.{◌≡◌, ◌∙◌, ◌⊎◌, inl, inr, Bool, true, false, cond, not, ◌&&◌, ◌||◌, List, Option, Some, None, is_some, refl, sym, ap, subst}
use Rattle.std.proofs.lemmas.Bool.{false≢true}
use Rattle.std.specs.Bool.{Decides}
use Rattle.std.specs.Prelude.{if◌then◌else◌, OnErr, OnOk, Result, Ok, Err}
use Rattle.jc_classes.specs.Facts.{Facts}
use Rattle.jc_classes.specs.Loading.{same_bool}
use Rattle.jc_classes.specs.Names.{Name}
use Rattle.jc_classes.proofs.worlds.NameTests.{same_is}
use Rattle.jc_link.specs.Prefixes.{is_covered}
use Rattle.jc_link.specs.declared.meter.Meter.{Meter}
use Rattle.jc_link.specs.Tables.{Places, class_at, class_found}
use Rattle.jc_linkage.specs.Linkages.{IsCountedChange, Linkage, TellsTouched}
use Rattle.jc_linkage.specs.Steps.{Classes, at_step, changed, class_by, is_class, is_step, step_class, step_name}
use Rattle.jc_linkage.specs.Switches.{switches}
use Rattle.jc_linkage.specs.declared.step.Step.{Step}
use Rattle.jc_linkage.specs.declared.step.Step.TheVariants.{Put, Remove}
use Rattle.jc_linkage.specs.inside.Holding.{CountsStep, IsCountedOver, IsCounting, IsIdle, IsPutting, PutsClass, at_either, stepped_by}
use Rattle.jc_linkage.proofs.equations.Booleans.{and_no, and_split, or_no}
use Rattle.jc_linkage.proofs.equations.Options.{some_one}
use Rattle.jc_linkage.proofs.steps.ClassesStepped.{stepped_at, stepped_not}

not_true : (b : Bool) → not b ≡ true → b ≡ false
not_true true e = absurd (false≢true e)
not_true false e = refl

no_other : (b : Bool) → (b ≡ true → ⊥) → b ≡ false
no_other true h = absurd (h refl)
no_other false h = refl

either : {X : Type 0} (b : Bool) (x y z : X) → cond b x y ≡ z → ((b ≡ true) × (x ≡ z)) ⊎ ((b ≡ false) × (y ≡ z))
either true x y z e = inl (refl, e)
either false x y z e = inr (refl, e)

-- ---- the step that is taken or dropped

pub record TakesStep (m : Classes) (put : Option Facts) (first one : Option Step) (s : Step) : Type 0 where
  pub was : first ≡ Some s
  pub is : one ≡ Some s
  pub stood : is_some (m (step_name s)) ≡ true
  pub beside : is_class put (step_name s) ≡ false
  pub alters : m (step_name s) ≡ step_class s → ⊥

-- it changes no class, but perhaps at the name of the one beside it
pub record DropsStep (m : Classes) (put : Option Facts) (first one : Option Step) : Type 0 where
  pub is : one ≡ None
  pub idle : (n : Name) → is_class put n ≡ false → at_step first n ≡ true → is_some (m n) ≡ true → class_by first ≡ m n

taken_or_dropped : (m : Classes) (put : Option Facts) (first one : Option Step) → IsCounting m put first one → DropsStep m put first one ⊎ ((s : Step) × TakesStep m put first one s)
taken_or_dropped m put None one h = inl (record { is = h; idle = λ n p t e. absurd (false≢true t) })
taken_or_dropped m put (Some s) one h = by h.0 h.1 h.2
  where
    some_there : (o : Option Facts) → (o ≡ None → ⊥) → is_some o ≡ true
    some_there None lacks = absurd (lacks refl)
    some_there (Some f) lacks = refl

    idle_at : IsIdle m put s → (n : Name) → is_class put n ≡ false → is_step s n ≡ true → is_some (m n) ≡ true → step_class s ≡ m n
    idle_at idle n p t e =
        let at = same_is n (step_name s) t in
        elim idle [
          | inl none ↦ absurd (false≢true (sym (ap is_some (ap m at ∙ none)) ∙ e))
          | inr rest ↦ elim rest [
            | inl beside ↦ absurd (false≢true (sym p ∙ ap (is_class put) at ∙ beside))
            | inr same ↦ same ∙ ap m (sym at)
          ]
        ]

    by : (b : Bool) → Decides b (IsIdle m put s) → one ≡ (if b then None else Some s) → DropsStep m put (Some s) one ⊎ ((t : Step) × TakesStep m put (Some s) one t)
    by true d e = inl (record { is = e; idle = idle_at (d.0 refl) })
    by false d e = inr (
      s,
      record {
        was = refl;
        is = e;
        stood = some_there (m (step_name s)) (λ none. false≢true (d.1 (inl none)));
        beside = no_other (is_class put (step_name s)) (λ t. false≢true (d.1 (inr (inl t))));
        alters = λ same. false≢true (d.1 (inr (inr (sym same))));
      },
    )

-- ---- the class that is put or stands there

pub record Puts (m : Classes) (put : Option Facts) (two : Option Step) (f : Facts) : Type 0 where
  pub was : put ≡ Some f
  pub is : two ≡ Some (Put f)
  pub alters : m f.name ≡ Some f → ⊥

pub record PutsNone (m : Classes) (put : Option Facts) (two : Option Step) : Type 0 where
  pub is : two ≡ None
  pub stands : (n : Name) → is_class put n ≡ true → m n ≡ put

put_or_there : (m : Classes) (put : Option Facts) (two : Option Step) → IsPutting m put two → PutsNone m put two ⊎ ((f : Facts) × Puts m put two f)
put_or_there m None two h = inl (record { is = h; stands = λ n t. absurd (false≢true t) })
put_or_there m (Some f) two h = by h.0 h.1 h.2
  where
    by : (b : Bool) → Decides b (m f.name ≡ Some f) → two ≡ (if b then None else Some (Put f)) → PutsNone m (Some f) two ⊎ ((g : Facts) × Puts m (Some f) two g)
    by true d e = inl (record { is = e; stands = λ n t. ap m (same_is n f.name t) ∙ d.0 refl })
    by false d e = inr (f, record { was = refl; is = e; alters = λ same. false≢true (d.1 same) })

-- ---- classes stand at their names

named_step : (s : Step) (n : Name) (f : Facts) → is_step s n ≡ true → step_class s ≡ Some f → f.name ≡ n
named_step (Put g) n f t e = ap (λ (x : Facts). x.name) (sym (some_one e)) ∙ sym (same_is n g.name t)
named_step (Remove x) n f t e = absurd cc

named_first : (first : Option Step) (n : Name) (f : Facts) → at_step first n ≡ true → class_by first ≡ Some f → f.name ≡ n
named_first None n f t e = absurd (false≢true t)
named_first (Some s) n f t e = named_step s n f t e

named_put : (put : Option Facts) (n : Name) (f : Facts) → is_class put n ≡ true → put ≡ Some f → f.name ≡ n
named_put None n f t e = absurd (false≢true t)
named_put (Some g) n f t e = ap (λ (x : Facts). x.name) (sym (some_one e)) ∙ sym (same_is n g.name t)

changed_named : (m : Classes) → ((n : Name) (f : Facts) → m n ≡ Some f → f.name ≡ n) → (first : Option Step) (put : Option Facts) (n : Name) (f : Facts) → changed m first put n ≡ Some f → f.name ≡ n
changed_named m named first put n f e =
    elim (either (is_class put n) put (cond (at_step first n && is_some (m n)) (class_by first) (m n)) (Some f) e) [
      | inl p ↦ named_put put n f p.0 p.1
      | inr q ↦ elim (either (at_step first n && is_some (m n)) (class_by first) (m n) (Some f) q.1) [
        | inl p ↦ named_first first n f (and_split (at_step first n) (is_some (m n)) p.0).0 p.1
        | inr r ↦ named n f r.1
      ]
    ]

-- ---- the steps that are made

module _ (m : Classes) (first : Option Step) (put : Option Facts) (one two : Option Step) (is_one : IsCounting m put first one) (is_two : IsPutting m put two) where
  -- the one that is put stands at its name
  second_at : (n : Name) → at_step two n ≡ true → is_class put n ≡ true
  second_at n t =
      elim (put_or_there m put two is_two) [
        | inl none ↦ absurd (false≢true (sym (ap (λ o. at_step o n) none.is) ∙ t))
        | inr some ↦ ap (λ o. is_class o n) some.1.was ∙ sym (ap (λ o. at_step o n) some.1.is) ∙ t
      ]

  -- and the step at another
  first_beside : (n : Name) → at_step one n ≡ true → is_class put n ≡ false
  first_beside n t =
      elim (taken_or_dropped m put first one is_one) [
        | inl none ↦ absurd (false≢true (sym (ap (λ o. at_step o n) none.is) ∙ t))
        | inr some ↦ ap (is_class put) (same_is n (step_name some.0) (sym (ap (λ o. at_step o n) some.1.is) ∙ t)) ∙ some.1.beside
      ]

  pub made_counts : CountsStep m one two
  made_counts =
      elim (taken_or_dropped m put first one is_one) [
        | inl none ↦ subst (λ o. CountsStep m o two) (sym none.is) tt
        | inr some ↦ subst (λ o. CountsStep m o two) (sym some.1.is)
            (some.1.stood, no_other (at_step two (step_name some.0)) (λ t. false≢true (sym some.1.beside ∙ second_at (step_name some.0) t)))
      ]

  pub made_puts : PutsClass two
  made_puts =
      elim (put_or_there m put two is_two) [
        | inl none ↦ subst PutsClass (sym none.is) tt
        | inr some ↦ subst PutsClass (sym some.1.is) refl
      ]

  behind_second : (k : Classes) (n : Name) → (is_class put n ≡ true → k n ≡ m n) → stepped_by two k n ≡ cond (is_class put n) put (k n)
  behind_second k n same =
      elim (put_or_there m put two is_two) [
        | inl none ↦ ap (λ o. stepped_by o k n) none.is ∙ by (is_class put n) (λ t. same t ∙ none.stands n t)
        | inr some ↦ ap (λ o. stepped_by o k n) some.1.is ∙ sym (ap (λ o. cond (is_class o n) o (k n)) some.1.was)
      ]
    where
      by : (b : Bool) → (b ≡ true → k n ≡ put) → k n ≡ cond b put (k n)
      by true h = h refl
      by false h = refl

  behind_first : (n : Name) → is_class put n ≡ false → stepped_by one m n ≡ cond (at_step first n && is_some (m n)) (class_by first) (m n)
  behind_first n p =
      elim (taken_or_dropped m put first one is_one) [
        | inl none ↦ ap (λ o. stepped_by o m n) none.is ∙ idle (at_step first n) (is_some (m n)) (none.idle n p)
        | inr some ↦
            ap (λ o. stepped_by o m n) some.1.is
            ∙ there some.0 (is_step some.0 n) (is_some (m n)) (λ t. ap (λ k. is_some (m k)) (same_is n (step_name some.0) t) ∙ some.1.stood)
            ∙ sym (ap (λ o. cond (at_step o n && is_some (m n)) (class_by o) (m n)) some.1.was)
      ]
    where
      idle : (b g : Bool) → (b ≡ true → g ≡ true → class_by first ≡ m n) → m n ≡ cond (b && g) (class_by first) (m n)
      idle true true h = sym (h refl refl)
      idle true false h = refl
      idle false g h = refl

      there : (s : Step) (b g : Bool) → (b ≡ true → g ≡ true) → cond b (step_class s) (m n) ≡ cond (b && g) (step_class s) (m n)
      there s true true h = refl
      there s true false h = absurd (false≢true (h refl))
      there s false g h = refl

  pub made_classes : (n : Name) → stepped_by two (stepped_by one m) n ≡ changed m first put n
  made_classes n =
      behind_second (stepped_by one m) n (λ p. stepped_not one m n (no_other (at_step one n) (λ t. false≢true (sym (first_beside n t) ∙ p))))
      ∙ by (is_class put n) (behind_first n)
    where
      by : (b : Bool) → (b ≡ false → stepped_by one m n ≡ cond (at_step first n && is_some (m n)) (class_by first) (m n))
          → cond b put (stepped_by one m n) ≡ cond b put (cond (at_step first n && is_some (m n)) (class_by first) (m n))
      by true h = refl
      by false h = h refl

  -- ---- what they touch

  first_alters : (n : Name) → at_step one n ≡ true → m n ≡ class_by one → ⊥
  first_alters n t e =
      elim (taken_or_dropped m put first one is_one) [
        | inl none ↦ false≢true (sym (ap (λ o. at_step o n) none.is) ∙ t)
        | inr some ↦
            let at = same_is n (step_name some.0) (sym (ap (λ o. at_step o n) some.1.is) ∙ t) in
            some.1.alters (ap m (sym at) ∙ e ∙ ap class_by some.1.is)
      ]

  second_alters : (n : Name) → at_step two n ≡ true → m n ≡ class_by two → ⊥
  second_alters n t e =
      elim (put_or_there m put two is_two) [
        | inl none ↦ false≢true (sym (ap (λ o. at_step o n) none.is) ∙ t)
        | inr some ↦
            let at = same_is n some.0.name (sym (ap (λ o. at_step o n) some.1.is) ∙ t) in
            some.1.alters (ap m (sym at) ∙ e ∙ ap class_by some.1.is)
      ]

  -- neither is at a name at which the class stays
  pub made_touched : (n : Name) → Decides (not (at_step one n || at_step two n)) (m n ≡ changed m first put n)
  made_touched n = (
    λ t.
        let neither = or_no (at_step one n) (at_step two n) (not_true (at_step one n || at_step two n) t) in
        sym (sym (made_classes n) ∙ stepped_not two (stepped_by one m) n neither.1 ∙ stepped_not one m n neither.0),
    λ same.
        let stays = same ∙ sym (made_classes n) in
        let not_second : at_step two n ≡ false = no_other (at_step two n) (λ t. second_alters n t (stays ∙ stepped_at two (stepped_by one m) n t)) in
        let not_first : at_step one n ≡ false = no_other (at_step one n) (λ t. first_alters n t (stays ∙ stepped_not two (stepped_by one m) n not_second ∙ stepped_at one m n t)) in
        ap not (ap (λ b. b || at_step two n) not_first ∙ not_second),
  )

-- classes stand at their names behind a change, whether it was made or not
pub named_behind : {X E : Type 0} (r : Result X E) (m behind : Classes) (first : Option Step) (put : Option Facts)
    → OnOk r ((n : Name) → behind n ≡ changed m first put n) → OnErr r ((n : Name) → behind n ≡ m n)
    → ((n : Name) (f : Facts) → m n ≡ Some f → f.name ≡ n) → (n : Name) (f : Facts) → behind n ≡ Some f → f.name ≡ n
named_behind (Ok x) m behind first put ok err named n f e = changed_named m named first put n f (sym (ok n) ∙ e)
named_behind (Err x) m behind first put ok err named n f e = named n f (sym (err n) ∙ e)

-- ---- what an edit touches

-- prefixes that stay switch nothing
none_switches : (places : Places) (prefixes : List Name) (n : Name) → switches places prefixes prefixes n ≡ false
none_switches places prefixes n = by (not (is_some (class_found places n))) (is_covered prefixes n)
  where
    by : (a b : Bool) → (a && not (same_bool b b)) ≡ false
    by a true = and_no a
    by a false = and_no a

-- of classes it tells where they change
pub tells_classes : (old new : Linkage) (touched : Name → Bool) → new.prefixes ≡ old.prefixes
    → ((n : Name) → Decides (not (touched n)) (class_at old.classes n ≡ class_at new.classes n)) → TellsTouched old new touched
tells_classes old new touched stay tells n = (
  λ t. ((tells n).0 t, ap (λ prefixes. switches new.classes old.prefixes prefixes n) stay ∙ none_switches new.classes old.prefixes n),
  λ same. (tells n).1 same.0,
)

-- and of prefixes which names become outside or inside
pub tells_switched : (places : Places) (old new : List Name)
    → TellsTouched (record { classes = places; prefixes = old }) (record { classes = places; prefixes = new }) (switches places old new)
tells_switched places old new n = (λ t. (refl, not_true (switches places old new n) t), λ same. ap not same.1)

pub counted_change : {X E : Type 0} (r : Result X E) (old new : Linkage) (first : Option Step) (put : Option Facts) (one two : Option Step)
    → IsCounting (class_at old.classes) put first one → IsPutting (class_at old.classes) put two → new.prefixes ≡ old.prefixes → (before behind : Meter)
    → OnOk r ((n : Name) → class_at new.classes n ≡ stepped_by two (stepped_by one (class_at old.classes)) n)
    → OnOk r (IsCountedOver new.classes new.prefixes (at_either one two) before behind) → OnOk r (IsCountedChange old new before behind)
counted_change (Ok x) old new first put one two is_one is_two stay before behind classes counted =
    let m = class_at old.classes in
    record {
      touched = at_either one two;
      tells = tells_classes old new (at_either one two) stay (λ n.
          let after : class_at new.classes n ≡ changed m first put n = classes n ∙ made_classes m first put one two is_one is_two n in
          let told = made_touched m first put one two is_one is_two n in
          (λ t. told.0 t ∙ sym after, λ same. told.1 (same ∙ after)));
      counted = counted;
    }
counted_change (Err x) old new first put one two is_one is_two stay before behind classes counted = tt
