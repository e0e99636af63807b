-- Answers by numbers are those of the references.
use Rattle.std.proofs.Common.{◌≡◌, ◌≢◌, ◌<◌, ℕ, zero, suc, List, [], ◌∷◌, ◌++◌, length, map, set, Option, Some, None, ◌⊎◌, inl, inr, refl, sym, ap, subst, ◌∙◌, arith}
use Rattle.std.specs.List.{slice_get}
use Rattle.std.specs.Option.{option_map}
use Rattle.jc_classes.specs.Facts.{Reference}
use Rattle.jc_classes.specs.Names.{Name, polymorphic_descriptor}
use Rattle.jc_classes.specs.Parts.{AreAnswers}
use Rattle.jc_classes.specs.Resolution.{Answer}
use Rattle.jc_classes.specs.Resolution.{Answer as answer}
use Rattle.jc_classes.specs.Worlds.{World}
use Rattle.jc_code.proofs.appended.Fronts.{begins_through, begins_whole}
use Rattle.jc_code.specs.inside.Fronts.{BeginsWith}
use Rattle.jc_numbered.specs.declared.loads.Load.{Load}
use Rattle.jc_numbered.specs.inside.Indexed.{Indexed, indexed_name, IsIndexed}
use Rattle.jc_numbered.specs.inside.Loading.{load_at}
use Rattle.jc_resolve.specs.declared.entry.Entry.{Entry}
use Rattle.jc_resolve.specs.declared.entry.Entry.TheVariants as entry
use Rattle.jc_resolve.specs.inside.Answered.{IsAnsweredAt, IsAnsweredBy}
use Rattle.jc_resolve.specs.inside.Entries.{entries_shown, entry_shown, node_answers, node_of, with_number}
use Rattle.jc_resolve.specs.inside.Naming.{AreNamed, AreNodes, IsNamed, name_told}
use Rattle.jc_resolve.specs.inside.Resolved.{loading_of, TellsLoads}

some_is : {X : Type 0} {x y : X} → Some x ≡ Some y → x ≡ y
some_is e = cc

none_some : {X : Type 0} {x : X} → None ≡ Some x → ⊥
none_some e = cc

-- ---- one for each reference

pub answered_all : (x : Indexed) (loads : List Load) (class : ℕ) (rs : List Reference) (es : List (Entry ℕ)) → length es ≡ length rs
    → ((at : ℕ) → at < length rs → IsAnsweredAt x loads class rs es at) → (m : World) → TellsLoads m x (length x.names) loads → IsIndexed m x
    → AreAnswers m (indexed_name x class) (loading_of x (load_at loads class)) rs (node_answers (indexed_name x) rs es)
answered_all x loads class [] es size h m told index = tt
answered_all x loads class (r ∷ rs) [] size h m told index = absurd (omega arith)
answered_all x loads class (r ∷ rs) (e ∷ es) size h m told index =
    (h 0 (omega arith) r e refl refl m told index, answered_all x loads class rs es (omega (arith, size)) (λ at l. h (suc at) (omega (arith, l))) m told index)

pub same_or : (i j : ℕ) → (i ≡ j) ⊎ (i ≢ j)
same_or i j = grind arith

pub get_set_other : {X : Type 0} (es : List X) (i j : ℕ) (e f : X) → j ≢ i → slice_get (set es i e) j ≡ Some f → slice_get es j ≡ Some f
get_set_other [] i j e f n g = g
get_set_other (d ∷ es) zero zero e f n g = absurd (n refl)
get_set_other (d ∷ es) zero (suc j) e f n g = g
get_set_other (d ∷ es) (suc i) zero e f n g = g
get_set_other (d ∷ es) (suc i) (suc j) e f n g = get_set_other es i j e f (λ q. n (ap suc q)) g

pub get_set_same : {X : Type 0} (es : List X) (i : ℕ) (e f : X) → slice_get (set es i e) i ≡ Some f → f ≡ e
get_set_same [] i e f g = absurd cc
get_set_same (d ∷ es) zero e f g = sym (some_is g)
get_set_same (d ∷ es) (suc i) e f g = get_set_same es i e f g

-- one more has its answer, and those that had one still have it
pub answered_set : (x : Indexed) (loads : List Load) (class : ℕ) (rs : List Reference) (es : List (Entry ℕ)) (number : ℕ) (r : Reference) (e : Entry ℕ) → slice_get rs number ≡ Some r
    → IsAnsweredBy x loads class r e → (at : ℕ) → (at ≢ number → IsAnsweredAt x loads class rs es at) → IsAnsweredAt x loads class rs (set es number e) at
answered_set x loads class rs es number r e got new at old = by (same_or at number)
  where
    by : (at ≡ number) ⊎ (at ≢ number) → IsAnsweredAt x loads class rs (set es number e) at
    by (inl q) s f p g =
        let same_entry = get_set_same es number e f (subst (λ z. slice_get (set es number e) z ≡ Some f) q g) in
        let same_reference = some_is (sym got ∙ subst (λ z. slice_get rs z ≡ Some s) q p) in
        subst (λ z. IsAnsweredBy x loads class z f) same_reference (subst (IsAnsweredBy x loads class r) (sym same_entry) new)
    by (inr n) s f p g = old n s f p (get_set_other es number at e f n g)

-- ---- by the numbers of names

at_push : {X : Type 0} (xs : List X) (x y : X) (i : ℕ) → slice_get (xs ++ x ∷ []) i ≡ Some y → (slice_get xs i ≡ Some y) ⊎ ((i ≡ length xs) × (x ≡ y))
at_push [] x y zero e = inr (refl, some_is e)
at_push [] x y (suc i) e = absurd (none_some e)
at_push (z ∷ xs) x y zero e = inl e
at_push (z ∷ xs) x y (suc i) e = by (at_push xs x y i e)
  where
    by : (slice_get xs i ≡ Some y) ⊎ ((i ≡ length xs) × (x ≡ y)) → (slice_get (z ∷ xs) (suc i) ≡ Some y) ⊎ ((suc i ≡ suc (length xs)) × (x ≡ y))
    by (inl f) = inl f
    by (inr f) = inr (ap suc f.0, f.1)

pub none_named : (name : ℕ → Name) (texts : List Name) (nodes : List (Option ℕ)) (entries named : List (Entry ℕ)) → named ≡ [] → AreNamed name texts nodes entries named
none_named name texts nodes entries named is at own entry other n e f = absurd (nothing at other (sym (ap (λ xs. slice_get xs at) is) ∙ f))
  where
    nothing : (at : ℕ) (other : Entry ℕ) → slice_get [] at ≡ Some other → ⊥
    nothing zero other g = none_some g
    nothing (suc at) other g = none_some g

-- one more is named, and the names that are listed for it come after the others
pub named_push : (name : ℕ → Name) (old new : List Name) (nodes : List (Option ℕ)) (entries named : List (Entry ℕ)) (other : Entry ℕ) (more : List (Entry ℕ)) (own : Option ℕ) (entry : Entry ℕ)
    → BeginsWith new old → AreNamed name old nodes entries named → slice_get nodes (length named) ≡ Some own → slice_get entries (length named) ≡ Some entry
    → IsNamed name new own entry other → more ≡ named ++ other ∷ [] → AreNamed name new nodes entries more
named_push name old new nodes entries named other more own entry front h n e one is at o f g p q r =
    by (at_push named other g at (sym (ap (λ xs. slice_get xs at) is) ∙ r))
  where
    by : (slice_get named at ≡ Some g) ⊎ ((at ≡ length named) × (other ≡ g)) → IsNamed name new o f g
    by (inl s) = λ reference texts names begins. h at o f g p q s reference texts names (begins_through old new texts front begins)
    by (inr s) =
        let same_own = some_is (sym n ∙ subst (λ i. slice_get nodes i ≡ Some o) s.0 p) in
        let same_entry = some_is (sym e ∙ subst (λ i. slice_get entries i ≡ Some f) s.0 q) in
        subst (IsNamed name new o f) s.1 (subst (λ z. IsNamed name new o z other) same_entry (subst (λ z. IsNamed name new z entry other) same_own one))

head_is : {X : Type 0} {x y : X} {xs ys : List X} → x ∷ xs ≡ y ∷ ys → (x ≡ y) × (xs ≡ ys)
head_is e = (cc, cc)

no_head : {X : Type 0} {x : X} {xs : List X} → [] ≡ x ∷ xs → ⊥
no_head e = cc

pub named_shown : (name : ℕ → Name) (texts : List Name) (rs : List Reference) (nodes : List (Option ℕ)) (entries named : List (Entry ℕ))
    → AreNodes name nodes rs → length named ≡ length entries → length entries ≡ length rs → AreNamed name texts nodes entries named
    → entries_shown (name_told texts) rs named ≡ node_answers name rs entries
named_shown name texts [] nodes entries named n s t h = refl
named_shown name texts (r ∷ rs) [] entries named n s t h = absurd (no_head n)
named_shown name texts (r ∷ rs) (o ∷ nodes) [] named n s t h = absurd (omega (arith, t))
named_shown name texts (r ∷ rs) (o ∷ nodes) (e ∷ entries) [] n s t h = absurd (omega (arith, s))
named_shown name texts (r ∷ rs) (o ∷ nodes) (e ∷ entries) (f ∷ named) n s t h =
    let p = head_is n in
    let first = h 0 o e f refl refl refl r texts p.0 (begins_whole texts) in
    let rest = named_shown name texts rs nodes entries named p.1 (omega (arith, s)) (omega (arith, t)) (λ at. h (suc at)) in
    λ i. first i ∷ rest i

-- ---- the list that is shown

pub shown_size : (f : Reference → ℕ → Name) (rs : List Reference) (es : List (Entry ℕ)) → length es ≡ length rs → length (entries_shown f rs es) ≡ length es
shown_size f [] [] e = refl
shown_size f [] (x ∷ es) e = absurd (omega arith)
shown_size f (r ∷ rs) [] e = refl
shown_size f (r ∷ rs) (x ∷ es) e = ap suc (shown_size f rs es (omega (arith, e)))

pub shown_at : (f : Reference → ℕ → Name) (rs : List Reference) (es : List (Entry ℕ)) (i : ℕ) (r : Reference) (e : Entry ℕ) → slice_get rs i ≡ Some r → slice_get es i ≡ Some e → slice_get (entries_shown f rs es) i ≡ Some (entry_shown (f r) r e)
shown_at f [] es i r e p q = absurd cc
shown_at f (s ∷ rs) [] i r e p q = absurd cc
shown_at f (s ∷ rs) (d ∷ es) zero r e p q =
    let a = some_is p in
    let b = some_is q in
    λ i. Some (entry_shown (f (a i)) (a i) (b i))
shown_at f (s ∷ rs) (d ∷ es) (suc i) r e p q = shown_at f rs es i r e p q

-- what an entry says of any reference, its answer says
pub said_at : {X : Type 0} (says : Answer → X) (f : Reference → ℕ → Name) (rs : List Reference) (es : List (Entry ℕ)) (i : ℕ) (e : Entry ℕ) (k : X) → length es ≡ length rs → slice_get es i ≡ Some e
    → ((r : Reference) → says (entry_shown (f r) r e) ≡ k) → option_map says (slice_get (entries_shown f rs es) i) ≡ Some k
said_at says f [] [] i e k size at kind = absurd cc
said_at says f [] (x ∷ es) i e k size at kind = absurd (omega (arith, size))
said_at says f (r ∷ rs) [] i e k size at kind = absurd cc
said_at says f (r ∷ rs) (x ∷ es) zero e k size at kind = ap Some (ap (λ y. says (entry_shown (f r) r y)) (some_is at) ∙ kind r)
said_at says f (r ∷ rs) (x ∷ es) (suc i) e k size at kind = said_at says f rs es i e k (omega (arith, size)) at kind

-- ---- none

pub none_shown : (f : Reference → ℕ → Name) (rs : List Reference) → entries_shown f rs (map (λ (r : Reference). entry.NotLoaded) rs) ≡ map (λ (r : Reference). answer.NotLoaded) rs
none_shown f [] = refl
none_shown f (r ∷ rs) = ap (λ z. answer.NotLoaded ∷ z) (none_shown f rs)

-- ---- with a number in place of a class

pub with_told : (f g : ℕ → Name) (r : Reference) (e : Entry ℕ) (n v : ℕ) → Some v ≡ node_of e → f n ≡ g v → entry_shown f r (with_number e n) ≡ entry_shown g r e
with_told f g r (entry.ToClass flags) n v k h = refl
with_told f g r (entry.ToMember flags w) n v k h = ap (λ t. answer.ToMember t (record { name = r.key.name; descriptor = r.key.descriptor; flags = flags })) (h ∙ ap g (some_is k))
with_told f g r (entry.ToPolymorphic flags w) n v k h = ap (λ t. answer.ToMember t (record { name = r.key.name; descriptor = polymorphic_descriptor; flags = flags })) (h ∙ ap g (some_is k))
with_told f g r (entry.Outside w) n v k h = ap answer.Outside (h ∙ ap g (some_is k))
with_told f g r entry.NotLoaded n v k h = refl
with_told f g r (entry.Error fault w) n v k h = ap (answer.Error fault) (h ∙ ap g (some_is k))
with_told f g r (entry.OwnError fault) n v k h = refl

pub without_told : (f g : ℕ → Name) (r : Reference) (e : Entry ℕ) (n : ℕ) → None ≡ node_of e → entry_shown f r (with_number e n) ≡ entry_shown g r e
without_told f g r (entry.ToClass flags) n k = refl
without_told f g r (entry.ToMember flags w) n k = absurd (none_some k)
without_told f g r (entry.ToPolymorphic flags w) n k = absurd (none_some k)
without_told f g r (entry.Outside w) n k = absurd (none_some k)
without_told f g r entry.NotLoaded n k = refl
without_told f g r (entry.Error fault w) n k = absurd (none_some k)
without_told f g r (entry.OwnError fault) n k = refl
