-- Links that were added and taken out at the first of some names.
use Rattle.std.proofs.Common.{◌≡◌, ℕ, ◌+◌, ◌<◌, Bool, true, false, not, ◌&&◌, ◌||◌, List, [], length, take, refl, sym, ap, ◌∙◌}
use Rattle.std.proofs.lemmas.Bool.{false≢true}
use Rattle.std.proofs.lemmas.List.Folds.{list_any_more}
use Rattle.jc_classes.specs.NameLists.{has}
use Rattle.jc_classes.specs.Names.{Name, same_name}
use Rattle.jc_classes.specs.Numbers.{name_at}
use Rattle.jc_index.specs.Indexes.{UserLists, users_of, Between}
use Rattle.jc_index.proofs.lists.Edited.{has_front}

-- how the users are those that they were, and this one at the first names, of those that pass a test
abbrev pub LinkedTo : (old new : UserLists) (names : List Name) (passes : Name → Bool) (upto : ℕ) (user : Name) → Type 0
LinkedTo old new names passes upto user = (n d : Name) → has (users_of new n) d ≡ (has (users_of old n) d || (same_name d user && (has (take upto names) n && passes n)))

-- but this one at the first names, of those that pass a test
abbrev pub UnlinkedTo : (old new : UserLists) (names : List Name) (passes : Name → Bool) (upto : ℕ) (user : Name) → Type 0
UnlinkedTo old new names passes upto user = (n d : Name) → has (users_of new n) d ≡ (has (users_of old n) d && not (same_name d user && (has (take upto names) n && passes n)))

has_more : (names : List Name) (i : ℕ) (name n : Name) → i < length names → name_at names i ≡ name → has (take (i + 1) names) n ≡ (has (take i names) n || same_name n name)
has_more names i name n l e = list_any_more (same_name n) names i [] l ∙ ap (λ z. has (take i names) n || same_name n z) e

-- ---- links that were added

more_true : (a b : Bool) → a ≡ true → (a || b) ≡ true
more_true true b e = refl
more_true false b e = absurd (false≢true e)

few_true : (a s h all : Bool) → (h ≡ true → all ≡ true) → (a || (s && h)) ≡ true → (a || (s && all)) ≡ true
few_true true s h all f e = refl
few_true false true h all f e = f e
few_true false false h all f e = e

added_more : (a s h p x : Bool) → ((a || (s && (h && p))) || (s && (x && p))) ≡ (a || (s && ((h || x) && p)))
added_more true s h p x = refl
added_more false false h p x = refl
added_more false true true true x = refl
added_more false true true false true = refl
added_more false true true false false = refl
added_more false true false p x = refl

pub linked_more : (old now new : UserLists) (names : List Name) (passes : Name → Bool) (i : ℕ) (name user : Name) → i < length names → name_at names i ≡ name → LinkedTo old now names passes i user → ((n d : Name) → has (users_of new n) d ≡ (has (users_of now n) d || (same_name d user && (same_name n name && passes n)))) → LinkedTo old new names passes (i + 1) user
linked_more old now new names passes i name user l e so_far linked n d =
    linked n d
    ∙ ap (λ b. b || (same_name d user && (same_name n name && passes n))) (so_far n d)
    ∙ added_more (has (users_of old n) d) (same_name d user) (has (take i names) n) (passes n) (same_name n name)
    ∙ ap (λ b. has (users_of old n) d || (same_name d user && (b && passes n))) (sym (has_more names i name n l e))

both_more : (h all p : Bool) → (h ≡ true → all ≡ true) → (h && p) ≡ true → (all && p) ≡ true
both_more true all p f e = ap (λ b. b && p) (f refl) ∙ e
both_more false all p f e = absurd (false≢true e)

-- links at the first names are some of those at all of them
pub linked_some : (old new : UserLists) (names : List Name) (passes : Name → Bool) (i : ℕ) (user : Name) → LinkedTo old new names passes i user → (n d : Name) → Between (has (users_of old n) d) (same_name d user && (has names n && passes n)) (has (users_of new n) d)
linked_some old new names passes i user so_far n d = (
  λ e. so_far n d ∙ more_true (has (users_of old n) d) (same_name d user && (has (take i names) n && passes n)) e,
  λ e. few_true (has (users_of old n) d) (same_name d user) (has (take i names) n && passes n) (has names n && passes n) (both_more (has (take i names) n) (has names n) (passes n) (has_front names i n)) (sym (so_far n d) ∙ e),
)

pub and_yes : (a : Bool) → (a && true) ≡ a
and_yes true = refl
and_yes false = refl

-- where there are no others
pub no_others : (names others : List Name) (n : Name) → others ≡ [] → (has names n && not (has others n)) ≡ has names n
no_others names others n e = ap (λ l. has names n && not (has l n)) e ∙ and_yes (has names n)

-- a user is added at no name that others have, and at one that they lack
pub had_by_others : (a x s o : Bool) → (x ≡ true → o ≡ true) → a ≡ (a || (s && (x && not o)))
had_by_others true x s o f = refl
had_by_others false x false o f = refl
had_by_others false false true o f = refl
had_by_others false true true true f = refl
had_by_others false true true false f = absurd (false≢true (f refl))

pub lacked_by_others : (a x s o : Bool) → (x ≡ true → o ≡ false) → (a || (x && s)) ≡ (a || (s && (x && not o)))
lacked_by_others true x s o f = refl
lacked_by_others false false true o f = refl
lacked_by_others false false false o f = refl
lacked_by_others false true false o f = refl
lacked_by_others false true true false f = refl
lacked_by_others false true true true f = absurd (false≢true (sym (f refl)))

-- ---- links that were taken out

taken_more : (a s h p x : Bool) → ((a && not (s && (h && p))) && not (s && (x && p))) ≡ (a && not (s && ((h || x) && p)))
taken_more false s h p x = refl
taken_more true false h p x = refl
taken_more true true true true x = refl
taken_more true true true false true = refl
taken_more true true true false false = refl
taken_more true true false p x = refl

pub unlinked_more : (old now new : UserLists) (names : List Name) (passes : Name → Bool) (i : ℕ) (name user : Name) → i < length names → name_at names i ≡ name → UnlinkedTo old now names passes i user → ((n d : Name) → has (users_of new n) d ≡ (has (users_of now n) d && not (same_name d user && (same_name n name && passes n)))) → UnlinkedTo old new names passes (i + 1) user
unlinked_more old now new names passes i name user l e so_far unlinked n d =
    unlinked n d
    ∙ ap (λ b. b && not (same_name d user && (same_name n name && passes n))) (so_far n d)
    ∙ taken_more (has (users_of old n) d) (same_name d user) (has (take i names) n) (passes n) (same_name n name)
    ∙ ap (λ b. has (users_of old n) d && not (same_name d user && (b && passes n))) (sym (has_more names i name n l e))

pub turned_round : (a x s : Bool) → (a && not (x && s)) ≡ (a && not (s && (x && true)))
turned_round a true true = refl
turned_round a true false = refl
turned_round a false true = refl
turned_round a false false = refl

-- a name that others have stays, and one that they lack goes
pub unless_had : (a x s o : Bool) → (x ≡ true → o ≡ true) → a ≡ (a && not (s && (x && not o)))
unless_had true true true true f = refl
unless_had true true true false f = absurd (false≢true (f refl))
unless_had true true false o f = refl
unless_had true false true o f = refl
unless_had true false false o f = refl
unless_had false x s o f = refl

pub unless_lacked : (a x s o : Bool) → (x ≡ true → o ≡ false) → (a && not (x && s)) ≡ (a && not (s && (x && not o)))
unless_lacked false x s o f = refl
unless_lacked true true s true f = absurd (false≢true (sym (f refl)))
unless_lacked true true true false f = refl
unless_lacked true true false false f = refl
unless_lacked true false true o f = refl
unless_lacked true false false o f = refl
