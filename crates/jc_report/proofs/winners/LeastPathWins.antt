-- The first of the files that names a class has the least path of those that do.
use Rattle.std.proofs.Common.{◌≡◌, ◌≢◌, ℕ, Bool, true, false, cond, T, List, [], ◌∷◌, Option, Some, None, Result, Ok, Err, is_some, refl, sym, ap, subst, ◌∙◌, ⊎_elim}
use Rattle.std.specs.declared.cmp.Ordering.TheVariants.{Less, Greater}
use Rattle.std.specs.Ordering.{is_eq, eq_by_cmp, ordering_reverse}
use Rattle.std.specs.FinMap as fin
use Rattle.std.specs.FinMap.Entries.{below_all}
use Rattle.std.proofs.lemmas.Bool.{cases_Bool}
use Rattle.jc_base.specs.Bytes.{bytes_cmp, same_bytes}
use Rattle.jc_base.proofs.Common.{first_holds, less_is, second_holds}
use Rattle.jc_base.proofs.maps.FiniteMaps.{bytes_cmp_total, same_bytes_equiv, same_bytes_decides, eq_by_cmp-bytes_cmp}
use Rattle.jc_view.specs.declared.parse_error.ParseError.{ParseError}
use Rattle.jc_view.specs.Outcome.{class_named}
use Rattle.jc_report.specs.Files.{Files}
use Rattle.jc_report.specs.FileRows.{names_by, names, first_naming, winner}
use Rattle.jc_report.specs.inside.Naming.{names_there, names_at}
use Rattle.jc_report.specs.Winners.{NamesAt, IsWinner}

-- ---- the order

false_true : {A : Type 0} (b : Bool) → b ≡ false → b ≡ true → A
false_true b lacks has = let e : false ≡ true = sym lacks ∙ has in absurd cc

-- the order's test for equal keys, as a test of bytes
tied : (q k : List ℕ) (b : Bool) → same_bytes q k ≡ b → eq_by_cmp bytes_cmp q k ≡ b
tied q k b e = eq_by_cmp-bytes_cmp q k ∙ e

exact : (q k : List ℕ) → same_bytes q k ≡ true → q ≡ k
exact q k e = (same_bytes_decides q k).0 e

-- what is less differs
apart : (k q : List ℕ) → bytes_cmp k q ≡ Less → same_bytes k q ≡ false
apart k q less = sym (eq_by_cmp-bytes_cmp k q) ∙ ap is_eq less

-- of two strings not each is less than the other
not_both : (p q : List ℕ) → bytes_cmp p q ≡ Less → bytes_cmp q p ≡ Less → Less ≡ Greater
not_both p q a b = sym a ∙ bytes_cmp_total.antisymm p q ∙ ap ordering_reverse b

-- ---- entries in order

module _ {V : Type 0} where
  pub found-cons : (e : List ℕ × V) (es : List (List ℕ × V)) (q : List ℕ) (b : Bool) → same_bytes q e.0 ≡ b → fin.find bytes_cmp q (e ∷ es) ≡ cond b (Some e.1) (fin.find bytes_cmp q es)
  found-cons e es q b is = ap (λ t. cond t (Some e.1) (fin.find bytes_cmp q es)) (tied q e.0 b is)

  -- what is found behind a key is greater
  pub below_found : (k : List ℕ) (es : List (List ℕ × V)) (q : List ℕ) → T (below_all bytes_cmp k es) → is_some (fin.find bytes_cmp q es) ≡ true → bytes_cmp k q ≡ Less
  below_found k [] q below h = absurd cc
  below_found k (e ∷ es) q below h =
      ⊎_elim
      (λ y. subst (λ x. bytes_cmp k x ≡ Less) (sym (exact q e.0 y)) (less_is _ (first_holds _ _ below)))
      (λ no. below_found k es q (second_holds _ _ below) (ap is_some (sym (found-cons e es q false no)) ∙ h))
      (cases_Bool (same_bytes q e.0))

-- ---- the first that names a class

there_some : (o : Option (List ℕ)) (n : List ℕ) → names_there o n ≡ true → is_some o ≡ true
there_some None n h = absurd cc
there_some (Some bytes) n h = refl

-- whether the entries have a file at the path that names the class
abbrev there : List (List ℕ × List ℕ) → List ℕ → List ℕ → Bool
there es n q = names_there (fin.find bytes_cmp q es) n

there-cons : (e : List ℕ × List ℕ) (es : List (List ℕ × List ℕ)) (n q : List ℕ) (b : Bool) → same_bytes q e.0 ≡ b → there (e ∷ es) n q ≡ names_there (cond b (Some e.1) (fin.find bytes_cmp q es)) n
there-cons e es n q b is = ap (λ o. names_there o n) (found-cons e es q b is)

first-cons : (e : List ℕ × List ℕ) (es : List (List ℕ × List ℕ)) (n : List ℕ) (b : Bool) → names e.1 n ≡ b → first_naming (e ∷ es) n ≡ cond b (Some e.0) (first_naming es n)
first-cons e es n b is = ap (λ t. cond t (Some e.0) (first_naming es n)) is

none_there : (es : List (List ℕ × List ℕ)) (n q : List ℕ) → first_naming es n ≡ None → there es n q ≡ false
none_there [] n q h = refl
none_there (e ∷ es) n q h =
    ⊎_elim
    (λ y. absurd (let s : Some e.0 ≡ None = sym (first-cons e es n true y) ∙ h in cc))
    (λ no. ⊎_elim
    (λ here. there-cons e es n q true here ∙ no)
    (λ later. there-cons e es n q false later ∙ none_there es n q (sym (first-cons e es n false no) ∙ h))
    (cases_Bool (same_bytes q e.0)))
    (cases_Bool (names e.1 n))

-- the first is there, and each other that is there is greater
pub record IsFirst (es : List (List ℕ × List ℕ)) (n p : List ℕ) : Type 0 where
  pub is_there : there es n p ≡ true
  pub least : (q : List ℕ) → there es n q ≡ true → same_bytes q p ≡ false → bytes_cmp p q ≡ Less

first_here : (e : List ℕ × List ℕ) (es : List (List ℕ × List ℕ)) (n : List ℕ) → T (below_all bytes_cmp e.0 es) → names e.1 n ≡ true → IsFirst (e ∷ es) n e.0
first_here e es n below y = record {
  is_there = there-cons e es n e.0 true (same_bytes_equiv.refl e.0) ∙ y;
  least = λ q h other. below_found e.0 es q below (there_some _ n (sym (there-cons e es n q false other) ∙ h));
}

first_later : (e : List ℕ × List ℕ) (es : List (List ℕ × List ℕ)) (n p : List ℕ) → T (below_all bytes_cmp e.0 es) → names e.1 n ≡ false → IsFirst es n p → IsFirst (e ∷ es) n p
first_later e es n p below lacks h =
    let less = below_found e.0 es p below (there_some _ n h.is_there) in
    record {
      is_there = there-cons e es n p false (same_bytes_equiv.symm p e.0 ∙ apart e.0 p less) ∙ h.is_there;
      least = λ q found other. ⊎_elim
          (λ here. false_true (names e.1 n) lacks (sym (there-cons e es n q true here) ∙ found))
          (λ later. h.least q (sym (there-cons e es n q false later) ∙ found) other)
          (cases_Bool (same_bytes q e.0));
    }

is_first : (es : List (List ℕ × List ℕ)) (n p : List ℕ) → T (fin.is_sorted bytes_cmp es) → first_naming es n ≡ Some p → IsFirst es n p
is_first [] n p sorted h = absurd cc
is_first (e ∷ es) n p sorted h =
    ⊎_elim
    (λ y. let s : Some e.0 ≡ Some p = sym (first-cons e es n true y) ∙ h in
    let same : e.0 ≡ p = cc in
    subst (IsFirst (e ∷ es) n) same (first_here e es n (first_holds _ _ sorted) y))
    (λ no. first_later e es n p (first_holds _ _ sorted) no (is_first es n p (second_holds _ _ sorted) (sym (first-cons e es n false no) ∙ h)))
    (cases_Bool (names e.1 n))

-- ---- winners

at_entries : (f : Files) (n q : List ℕ) → names_at f q n ≡ there (fin.entries f) n q
at_entries f n q = ap (λ o. names_there o n) (fin.get-entries f q)

-- the least path of those that name a class
pub record IsLeast (f : Files) (n p : List ℕ) : Type 0 where
  pub is_there : names_at f p n ≡ true
  pub least : (q : List ℕ) → names_at f q n ≡ true → same_bytes q p ≡ false → bytes_cmp p q ≡ Less

pub winner_least : (f : Files) (n p : List ℕ) → winner f n ≡ Some p → IsLeast f n p
winner_least f n p h =
    let first = is_first (fin.entries f) n p (fin.entries_sorted f) h in
    record {
      is_there = at_entries f n p ∙ first.is_there;
      least = λ q found other. first.least q (sym (at_entries f n q) ∙ found) other;
    }

pub winner_none : (f : Files) (n q : List ℕ) → winner f n ≡ None → names_at f q n ≡ false
winner_none f n q h = at_entries f n q ∙ none_there (fin.entries f) n q h

-- two least paths are the same
one_least : (f : Files) (n p q : List ℕ) → IsLeast f n p → IsLeast f n q → p ≡ q
one_least f n p q a b =
    ⊎_elim
    (λ y. exact p q y)
    (λ no. absurd (let e = not_both p q (a.least q b.is_there (same_bytes_equiv.symm q p ∙ no)) (b.least p a.is_there no) in cc))
    (cases_Bool (same_bytes p q))

least_is : (f : Files) (n p : List ℕ) (w : Option (List ℕ)) → winner f n ≡ w → IsLeast f n p → w ≡ Some p
least_is f n p None is h = false_true (names_at f p n) (winner_none f n p is) h.is_there
least_is f n p (Some q) is h = ap (λ (x : List ℕ). Some x) (one_least f n q p (winner_least f n q is) h)

pub least_winner : (f : Files) (n p : List ℕ) → IsLeast f n p → winner f n ≡ Some p
least_winner f n p h = least_is f n p (winner f n) refl h

none_is : (f : Files) (n : List ℕ) (w : Option (List ℕ)) → winner f n ≡ w → ((q : List ℕ) → names_at f q n ≡ false) → w ≡ None
none_is f n None is h = refl
none_is f n (Some p) is h = false_true (names_at f p n) (h p) (winner_least f n p is).is_there

pub no_winner : (f : Files) (n : List ℕ) → ((q : List ℕ) → names_at f q n ≡ false) → winner f n ≡ None
no_winner f n h = none_is f n (winner f n) refl h

-- ---- the same in plain terms

named_ok : (outcome : Result (List ℕ) ParseError) (n : List ℕ) → names_by outcome n ≡ true → outcome ≡ Ok n
named_ok (Ok named) n h = ap (λ (x : List ℕ). Ok x) (exact named n h)
named_ok (Err e) n h = absurd cc

ok_named : (outcome : Result (List ℕ) ParseError) (n : List ℕ) → outcome ≡ Ok n → names_by outcome n ≡ true
ok_named outcome n h = ap (λ o. names_by o n) h ∙ same_bytes_equiv.refl n

there_named : (o : Option (List ℕ)) (n : List ℕ) → names_there o n ≡ true → (bytes : List ℕ) × (o ≡ Some bytes) × (class_named bytes ≡ Ok n)
there_named None n h = absurd cc
there_named (Some bytes) n h = (bytes, refl, named_ok (class_named bytes) n h)

pub to_named : (f : Files) (n p : List ℕ) → names_at f p n ≡ true → NamesAt f p n
to_named f n p h = there_named (fin.get f p) n h

pub from_named : (f : Files) (n p : List ℕ) → NamesAt f p n → names_at f p n ≡ true
from_named f n p h = ap (λ o. names_there o n) h.1 ∙ ok_named (class_named h.0) n h.2

differ : (p q : List ℕ) → (q ≢ p) → same_bytes q p ≡ false
differ p q h = ⊎_elim (λ y. absurd (h (exact q p y))) (λ no. no) (cases_Bool (same_bytes q p))

differs : (p q : List ℕ) → same_bytes q p ≡ false → q ≢ p
differs p q apart e = false_true (same_bytes q p) apart ((same_bytes_decides q p).1 e)

pub winner_is_least : (f : Files) (n p : List ℕ) → winner f n ≡ Some p → IsWinner f n p
winner_is_least f n p h =
    let found = winner_least f n p h in
    (to_named f n p found.is_there, λ q there other. found.least q (from_named f n q there) (differ p q other))

pub least_is_winner : (f : Files) (n p : List ℕ) → IsWinner f n p → winner f n ≡ Some p
least_is_winner f n p h =
    let least : IsLeast f n p = record {
      is_there = from_named f n p h.0;
      least = λ q there other. h.1 q (to_named f n q there) (differs p q other);
    } in
    least_winner f n p least

pub none_named : (f : Files) (n : List ℕ) → winner f n ≡ None → (p : List ℕ) → ¬ NamesAt f p n
none_named f n h p there = false_true (names_at f p n) (winner_none f n p h) (from_named f n p there)

pub unnamed_none : (f : Files) (n : List ℕ) → ((p : List ℕ) → ¬ NamesAt f p n) → winner f n ≡ None
unnamed_none f n h = no_winner f n (λ q. ⊎_elim (λ y. absurd (h q (to_named f n q y))) (λ no. no) (cases_Bool (names_at f q n)))
