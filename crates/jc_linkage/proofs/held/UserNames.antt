-- Lists of users that are put together.
use Rattle.std.proofs.Common.{◌≡◌, Bool, true, false, not, ◌&&◌, ◌||◌, cond, List, [], ◌∷◌, ◌++◌, Option, refl, sym, ap, ◌∙◌}
use Rattle.std.proofs.lemmas.Bool.{false≢true}
use Rattle.std.proofs.lemmas.List.Folds.{list_any-append}
use Rattle.std.proofs.lemmas.Map.Views.{any-filter_same}
use Rattle.std.specs.List.{filter}
use Rattle.std.specs.List.Sorted.{IsStrictlySortedBy}
use Rattle.jc_classes.specs.NameLists.{has}
use Rattle.jc_classes.specs.Names.{Name, name_cmp, same_name}
use Rattle.jc_classes.proofs.worlds.NameTests.{same_is, same_self}
use Rattle.jc_index.proofs.lists.Rising.{above_lack}
use Rattle.jc_linkage.specs.Affected.{NoRepeat}
use Rattle.jc_linkage.specs.inside.Users.{is_name, is_wanted}
use Rattle.jc_linkage.proofs.equations.Booleans.{or_right, or_left}

has_wanted : (test : Name → Bool) (names : List Name) (d : Name) → has (filter test names) d ≡ (test d && has names d)
has_wanted test names d = any-filter_same (same_name d) test (test d) (λ k e. ap test (sym (same_is d k e))) names

wanted_both : (a b g : Bool) → (((not g && not false) && a) || ((not g && not a) && b)) ≡ ((a || b) && not g)
wanted_both true true true = refl
wanted_both true true false = refl
wanted_both true false true = refl
wanted_both true false false = refl
wanted_both false true true = refl
wanted_both false true false = refl
wanted_both false false true = refl
wanted_both false false false = refl

-- the wanted ones of a list, and of another those that it lacks
abbrev pub wanted_of : (gone : Option Name) → (one two : List Name) → List Name
wanted_of gone one two = filter (is_wanted gone []) one ++ filter (is_wanted gone one) two

pub wanted_has : (gone : Option Name) (one two : List Name) (d : Name) → has (wanted_of gone one two) d ≡ ((has one d || has two d) && not (is_name gone d))
wanted_has gone one two d =
    list_any-append (same_name d) (filter (is_wanted gone []) one) (filter (is_wanted gone one) two)
    ∙ ap (λ b. b || has (filter (is_wanted gone one) two) d) (has_wanted (is_wanted gone []) one d)
    ∙ ap (λ b. (is_wanted gone [] d && has one d) || b) (has_wanted (is_wanted gone one) two d)
    ∙ wanted_both (has one d) (has two d) (is_name gone d)

-- ---- each once

pub once_rising : (names : List Name) → IsStrictlySortedBy name_cmp names → NoRepeat names
unfolding IsStrictlySortedBy
once_rising [] h = tt
once_rising (x ∷ xs) h = (above_lack xs x h.0, once_rising xs h.1)

and_none : (a b : Bool) → b ≡ false → (a && b) ≡ false
and_none true b e = e
and_none false b e = refl

once_wanted : (test : Name → Bool) (names : List Name) → NoRepeat names → NoRepeat (filter test names)
once_wanted test [] h = tt
once_wanted test (x ∷ xs) h =
    elim (test x) as (λ b. NoRepeat (cond b (x ∷ filter test xs) (filter test xs))) [
      | true ↦ (has_wanted test xs x ∙ and_none (test x) (has xs x) h.0, once_wanted test xs h.1)
      | false ↦ once_wanted test xs h.1
    ]

neither : (a b : Bool) → a ≡ false → b ≡ false → (a || b) ≡ false
neither true b e f = e
neither false b e f = f

pub once_joined : (xs ys : List Name) → NoRepeat xs → NoRepeat ys → ((d : Name) → has xs d ≡ true → has ys d ≡ false) → NoRepeat (xs ++ ys)
once_joined [] ys a b f = b
once_joined (x ∷ xs) ys a b f = (
  list_any-append (same_name x) xs ys ∙ neither (has xs x) (has ys x) a.0 (f x (or_left (same_name x x) (has xs x) (same_self x))),
  once_joined xs ys a.1 b (λ d h. f d (or_right (same_name d x) (has xs d) h)),
)

apart : (g a b : Bool) → ((not g && not false) && a) ≡ true → ((not g && not a) && b) ≡ false
apart true a b e = refl
apart false true b e = refl
apart false false b e = absurd (false≢true e)

pub wanted_once : (gone : Option Name) (one two : List Name) → NoRepeat one → NoRepeat two → NoRepeat (wanted_of gone one two)
wanted_once gone one two a b =
    once_joined (filter (is_wanted gone []) one) (filter (is_wanted gone one) two) (once_wanted (is_wanted gone []) one a) (once_wanted (is_wanted gone one) two b)
    (λ d h. has_wanted (is_wanted gone one) two d ∙ apart (is_name gone d) (has one d) (has two d) (sym (has_wanted (is_wanted gone []) one d) ∙ h))
