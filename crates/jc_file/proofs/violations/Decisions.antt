-- Tests that decide facts, joined.
use Rattle.std.proofs.Common.{map, cond, length, ◌≡◌, ◌⊎◌, ℕ, zero, suc, ◌+◌, ◌<◌, ◌≤◌, Bool, true, false, not, ◌&&◌, ◌||◌, eqb, leb, ltb, List, [], ◌∷◌, filter, Option, Some, None, is_none, is_some, refl, sym, ap, subst, ◌∙◌, arith, inl, inr}
use Rattle.std.specs.Bool.{Decides}
use Rattle.std.specs.Option.{option_map_or}
use Rattle.std.specs.List.{All, AllByRecursion, Contains, list_all, list_any, range_with_len, slice_get}
use Rattle.std.proofs.lemmas.Bool.{true≢false, false≢true, leb-true, le-leb, cases_Bool, cases_eq, cond-true, cond-false}
use Rattle.std.proofs.lemmas.Bool.Decides.{not_from_Decides, Decides-at, Decides-not, Decides-and, Decides-or, Decides-eqb, Decides-ltb}
use Rattle.std.proofs.lemmas.List.Elements.{All-from_recursion, recursion_from_All}
use Rattle.jc_view.specs.Lookups.{passes, fails, lacks}
use Rattle.jc_file.specs.Faults.{passing, only_if, those_with}
use Rattle.jc_file.specs.Violations.{AtNumber}
use Rattle.std.proofs.lemmas.Option.{slice_get_within, get_or_from_slice_get, same_Some}

-- ---- two, three and more

pub like : {r : Bool} {P Q : Type 0} → (P → Q) → (Q → P) → Decides r P → Decides r Q
like f g d = (λ e. f (d.0 e), λ q. d.1 (g q))

pub neg : {r : Bool} {P : Type 0} → Decides r P → Decides (not r) (¬ P)
neg {r} d = Decides-not r d

pub both : {x y : Bool} {P Q : Type 0} → Decides x P → Decides y Q → Decides (x && y) (P × Q)
both {x} {y} d k = Decides-and x y d k

pub either : {x y : Bool} {P Q : Type 0} → Decides x P → Decides y Q → Decides (x || y) (P ⊎ Q)
either {x} {y} d k = Decides-or x y d k

pub all_three : {x y z : Bool} {P Q R : Type 0} → Decides x P → Decides y Q → Decides z R → Decides (x && y && z) (P × Q × R)
all_three d k m = like (λ h. (h.0.0, h.0.1, h.1)) (λ h. ((h.0, h.1), h.2)) (both (both d k) m)

pub all_four : {x y z w : Bool} {P Q R S : Type 0} → Decides x P → Decides y Q → Decides z R → Decides w S → Decides (x && y && z && w) (P × Q × R × S)
all_four d k m n = like (λ h. (h.0.0, h.0.1, h.0.2, h.1)) (λ h. ((h.0, h.1, h.2), h.3)) (both (all_three d k m) n)

-- alternatives are joined from the left, and facts from the right
regroup : {P Q R : Type 0} → (P ⊎ Q) ⊎ R → P ⊎ Q ⊎ R
regroup (inl (inl p)) = inl p
regroup (inl (inr q)) = inr (inl q)
regroup (inr r) = inr (inr r)

ungroup : {P Q R : Type 0} → P ⊎ Q ⊎ R → (P ⊎ Q) ⊎ R
ungroup (inl p) = inl (inl p)
ungroup (inr (inl q)) = inl (inr q)
ungroup (inr (inr r)) = inr r

pub one_of_three : {x y z : Bool} {P Q R : Type 0} → Decides x P → Decides y Q → Decides z R → Decides (x || y || z) (P ⊎ Q ⊎ R)
one_of_three d k m = like regroup ungroup (either (either d k) m)

pub one_of_four : {x y z w : Bool} {P Q R S : Type 0} → Decides x P → Decides y Q → Decides z R → Decides w S → Decides (x || y || z || w) (P ⊎ Q ⊎ R ⊎ S)
one_of_four d k m n = like (λ h. regroup h) (λ h. ungroup h) (one_of_three (either d k) m n)

pub one_of_five : {x y z w v : Bool} {P Q R S T : Type 0} → Decides x P → Decides y Q → Decides z R → Decides w S → Decides v T → Decides (x || y || z || w || v) (P ⊎ Q ⊎ R ⊎ S ⊎ T)
one_of_five d k m n o = like (λ h. regroup h) (λ h. ungroup h) (one_of_four (either d k) m n o)

pub one_of_six : {x y z w v u : Bool} {P Q R S T U : Type 0} → Decides x P → Decides y Q → Decides z R → Decides w S → Decides v T → Decides u U
    → Decides (x || y || z || w || v || u) (P ⊎ Q ⊎ R ⊎ S ⊎ T ⊎ U)
one_of_six d k m n o p = like (λ h. regroup h) (λ h. ungroup h) (one_of_five (either d k) m n o p)

-- by a test, one or the other
pub chosen : {t x y : Bool} {T P Q : Type 0} → Decides t T → Decides x P → Decides y Q → Decides (cond t x y) (T × P ⊎ ¬ T × Q)
chosen {t = true} d k m = (λ e. inl (d.0 refl, k.0 e), λ h. elim h [ inl a ↦ k.1 a.1 | inr b ↦ absurd (let n = b.0 in n (d.0 refl)) ])
chosen {t = false} d k m = (λ e. inr (not_from_Decides false d refl, m.0 e), λ h. elim h [ inl a ↦ absurd (false≢true (d.1 a.0)) | inr b ↦ m.1 b.1 ])

-- ---- numbers

pub equal : (a b : ℕ) → Decides (eqb a b) (a ≡ b)
equal a b = Decides-eqb a b

pub below : (a b : ℕ) → Decides (ltb a b) (a < b)
below a b = Decides-ltb a b

pub at_most : (a b : ℕ) → Decides (leb a b) (a ≤ b)
at_most a b = (leb-true a b, le-leb a b)

pub flag : (r : Bool) → Decides r (r ≡ true)
flag r = (λ e. e, λ e. e)

-- ---- what may be missing

-- it is there, and it is so
abbrev pub Has : {X : Type 0} → (X → Type 0) → Option X → Type 0
Has {X} Is o = (x : X) × (o ≡ Some x) × Is x

moved : {X : Type 0} (test : X → Bool) (x y : X) → Some x ≡ Some y → test y ≡ true → test x ≡ true
moved test x y e h = ap test (same_Some x y e) ∙ h

pub lacks_is : {X : Type 0} (test : X → Bool) (o : Option X) → lacks test o ≡ not (passes test o)
lacks_is test None = refl
lacks_is test (Some x) = refl

pub fails_is : {X : Type 0} (test : X → Bool) (o : Option X) → fails test o ≡ passes (λ x. not (test x)) o
fails_is test None = refl
fails_is test (Some x) = refl

passes_is : {X : Type 0} (test : X → Bool) (o : Option X) → passes test o ≡ option_map_or test o false
passes_is test None = refl
passes_is test (Some x) = refl

has_where : {X : Type 0} {test : X → Bool} {Is : X → Type 0} (o : Option X) → ((x : X) → o ≡ Some x → Decides (test x) (Is x)) → Decides (option_map_or test o false) (Has Is o)
has_where None each = (λ e. absurd (false≢true e), λ h. absurd (let e = h.1 in cc))
has_where {test} (Some x) each = (λ e. (x, refl, (each x refl).0 e), λ h. moved test x h.0 h.1 ((each h.0 h.1).1 h.2))

module _ {X : Type 0} {test : X → Bool} {Is : X → Type 0} (each : (x : X) → Decides (test x) (Is x)) where
  pub has_by : (o : Option X) → Decides (option_map_or test o false) (Has Is o)
  has_by o = has_where o (λ x there. each x)

  pub has : (o : Option X) → Decides (passes test o) (Has Is o)
  has o = Decides-at (passes test o) (option_map_or test o false) (passes_is test o) (has_by o)

  pub has_no : (o : Option X) → Decides (lacks test o) (¬ Has Is o)
  has_no o = Decides-at (lacks test o) (not (passes test o)) (lacks_is test o) (neg (has o))

  every_by : (xs : List X) → Decides (list_all test xs) (AllByRecursion Is xs)
  every_by [] = (λ e. tt, λ h. refl)
  every_by (x ∷ xs) = both (each x) (every_by xs)

  pub every : (xs : List X) → Decides (list_all test xs) (All Is xs)
  every xs = like (All-from_recursion Is xs) (recursion_from_All Is xs) (every_by xs)

-- it is missing
pub missing : {X : Type 0} (o : Option X) → Decides (is_none o) ((x : X) → ¬ (o ≡ Some x))
missing None = (λ e x h. absurd cc, λ h. refl)
missing (Some x) = (λ e. absurd (false≢true e), λ h. absurd (h x refl))

-- ---- lists

pub one_on : {X : Type 0} (y : X) (ys : List X) (x : X) → Contains ys x → Contains (y ∷ ys) x
one_on y ys x (k, within, at) = (suc k, omega (arith, within), at)

pub first_or : {X : Type 0} (y : X) (ys : List X) (x : X) → Contains (y ∷ ys) x → (y ≡ x) ⊎ Contains ys x
first_or y ys x (zero, within, at) = inl at
first_or y ys x (suc k, within, at) = inr (k, omega (arith, within), at)

pub element : {X : Type 0} (xs : List X) (k : ℕ) (x : X) → slice_get xs k ≡ Some x → Contains xs x
element xs k x here = (k, slice_get_within xs k x here, get_or_from_slice_get xs k x x here)

kept_first : {X : Type 0} (test : X → Bool) (y : X) (ys : List X) (x : X) → test y ≡ true → ((x : X) → Contains (filter test ys) x → Contains ys x × (test x ≡ true))
    → Contains (y ∷ filter test ys) x → Contains (y ∷ ys) x × (test x ≡ true)
kept_first test y ys x hit rest h =
    elim (first_or y (filter test ys) x h) [
      | inl is ↦ ((0, omega arith, is), ap test (sym is) ∙ hit)
      | inr there ↦ let r = rest x there in (one_on y ys x r.0, r.1)
    ]

pub kept : {X : Type 0} (test : X → Bool) (xs : List X) (x : X) → Contains (filter test xs) x → Contains xs x × (test x ≡ true)
kept test [] x h = absurd (let lt = h.1 in omega arith)
kept test (y ∷ ys) x h =
    elim (cases_Bool (test y)) [
      | inl hit ↦ kept_first test y ys x hit (λ z. kept test ys z) (subst (λ zs. Contains zs x) (cond-true (test y) (y ∷ filter test ys) (filter test ys) hit) h)
      | inr miss ↦
          let rest = kept test ys x (subst (λ zs. Contains zs x) (cond-false (test y) (y ∷ filter test ys) (filter test ys) miss) h) in
          (one_on y ys x rest.0, rest.1)
    ]

pub keeps : {X : Type 0} (test : X → Bool) (xs : List X) (x : X) → Contains xs x → test x ≡ true → Contains (filter test xs) x
keeps test [] x h e = absurd (let lt = h.1 in omega arith)
keeps test (y ∷ ys) x h e =
    elim (cases_Bool (test y)) [
      | inl hit ↦ subst (λ zs. Contains zs x) (sym (cond-true (test y) (y ∷ filter test ys) (filter test ys) hit)) (elim (first_or y ys x h) [
        | inl is ↦ (0, omega arith, is)
        | inr there ↦ one_on y (filter test ys) x (keeps test ys x there e)
      ])
      | inr miss ↦ subst (λ zs. Contains zs x) (sym (cond-false (test y) (y ∷ filter test ys) (filter test ys) miss)) (elim (first_or y ys x h) [
        | inl is ↦ absurd (true≢false (sym e ∙ ap test (sym is) ∙ miss))
        | inr there ↦ keeps test ys x there e
      ])
    ]

pub map_has : {X Y : Type 0} (f : X → Y) (xs : List X) (y : Y) → Contains (map f xs) y → (x : X) × Contains xs x × (f x ≡ y)
map_has f [] y h = absurd (let lt = h.1 in omega arith)
map_has f (x ∷ xs) y h =
    elim (first_or (f x) (map f xs) y h) [
      | inl is ↦ (x, (0, omega arith, refl), is)
      | inr there ↦ let found = map_has f xs y there in (found.0, one_on x xs found.0 found.1, found.2)
    ]

pub has_map : {X Y : Type 0} (f : X → Y) (xs : List X) (x : X) (y : Y) → Contains xs x → f x ≡ y → Contains (map f xs) y
has_map f [] x y h e = absurd (let lt = h.1 in omega arith)
has_map f (z ∷ zs) x y h e =
    elim (first_or z zs x h) [
      | inl is ↦ (0, omega arith, ap f is ∙ e)
      | inr there ↦ one_on (f z) (map f zs) y (has_map f zs x y there e)
    ]

-- one of the elements, of which the test need decide the fact alone
module _ {X : Type 0} {test : X → Bool} {Is : X → Type 0} where
  pub one_where : (xs : List X) → ((x : X) → Contains xs x → Decides (test x) (Is x)) → Decides (list_any test xs) ((x : X) × Contains xs x × Is x)
  one_where [] each = (λ e. absurd (false≢true e), λ h. absurd (let k = h.1 in let lt = k.1 in omega arith))
  one_where (x ∷ xs) each =
      like (found_in x xs) (where_in x xs) (either (each x (0, omega arith, refl)) (one_where xs (λ y there. each y (one_on x xs y there))))
    where
      found_in : (x : X) (xs : List X) → Is x ⊎ ((y : X) × Contains xs y × Is y) → (y : X) × Contains (x ∷ xs) y × Is y
      found_in x xs (inl h) = (x, (0, omega arith, refl), h)
      found_in x xs (inr (y, there, h)) = (y, one_on x xs y there, h)

      where_in : (x : X) (xs : List X) → (y : X) × Contains (x ∷ xs) y × Is y → Is x ⊎ ((y : X) × Contains xs y × Is y)
      where_in x xs (y, (zero, within, at), h) = inl (subst Is (sym at) h)
      where_in x xs (y, (suc k, within, at), h) = inr (y, (k, omega (arith, within), at), h)

pub one_of : {X : Type 0} {test : X → Bool} {Is : X → Type 0} → ((x : X) → Decides (test x) (Is x)) → (xs : List X) → Decides (list_any test xs) ((x : X) × Contains xs x × Is x)
one_of each xs = one_where xs (λ x there. each x)

-- ---- places

pub in_range : (n a k : ℕ) → Contains (range_with_len a n) k → (a ≤ k) × (k < a + n)
in_range zero a k h = absurd (let lt = h.1 in omega arith)
in_range (suc n) a k h =
    elim (first_or a (range_with_len (a + 1) n) k h) [
      | inl is ↦ (omega (arith, is), omega (arith, is))
      | inr there ↦ let r = in_range n (a + 1) k there in (omega (arith, r.0), omega (arith, r.1))
    ]

pub range_has : (n a k : ℕ) → a ≤ k → k < a + n → Contains (range_with_len a n) k
range_has zero a k le lt = absurd (omega arith)
range_has (suc n) a k le lt =
    elim (cases_eq k a) [
      | inl is ↦ (0, omega arith, sym is)
      | inr apart ↦ one_on a (range_with_len (a + 1) n) k (range_has n (a + 1) k (omega (arith, apart)) (omega arith))
    ]

-- the numbers from a on that pass
pub passing_has : (test : ℕ → Bool) (first n k : ℕ) (P : Type 0) → Decides (test k) P → (P → (first ≤ k) × (k < first + n))
    → (Contains (passing test first n) k → P) × (P → Contains (passing test first n) k)
passing_has test first n k P d within =
    (λ h. d.0 (kept test (range_with_len first n) k h).1, λ p. let w = within p in keeps test (range_with_len first n) k (range_has n first k w.0 w.1) (d.1 p))

-- the numbers of the elements that pass
pub numbers_decided : {X : Type 0} {test : X → Bool} {Is : X → Type 0} (xs : List X) → ((x : X) → Contains xs x → Decides (test x) (Is x)) → (k : ℕ)
    → (Contains (those_with test xs) k → AtNumber Is xs k) × (AtNumber Is xs k → Contains (those_with test xs) k)
numbers_decided {test} {Is} xs each k =
    passing_has (λ n. option_map_or test (slice_get xs n) false) 0 (length xs) k (AtNumber Is xs k)
    (has_where (slice_get xs k) (λ x here. each x (element xs k x here)))
    (λ h. let lt = slice_get_within xs k h.0 h.1 in (omega arith, omega arith))

pub only_decided : {b : Bool} {Is : Type 0} → Decides b Is → (k : ℕ) → (Contains (only_if b) k → (k ≡ 0) × Is) × ((k ≡ 0) × Is → Contains (only_if b) k)
only_decided {b = true} d k = (λ h. elim (first_or 0 [] k h) [ inl is ↦ (sym is, d.0 refl) | inr there ↦ absurd (let lt = there.1 in omega arith) ], λ h. (0, omega arith, sym h.0))
only_decided {b = false} d k = (λ h. absurd (let lt = h.1 in omega arith), λ h. absurd (false≢true (d.1 h.1)))

-- ---- values that a definition computes

-- the value is there just where the fact holds of it
abbrev pub Finds : {X : Type 0} → Option X → (X → Type 0) → Type 0
Finds {X} o Is = (x : X) → ((o ≡ Some x) → Is x) × (Is x → (o ≡ Some x))

module _ {X : Type 0} (o : Option X) (Is : X → Type 0) (finds : Finds o Is) where
  found_some : Decides (is_some o) ((x : X) × (o ≡ Some x))
  found_some = by o
    where
      by : (p : Option X) → Decides (is_some p) ((x : X) × (p ≡ Some x))
      by None = (λ e. absurd (false≢true e), λ h. absurd (let e = h.1 in cc))
      by (Some x) = (λ e. (x, refl), λ h. refl)

  pub some_found : Decides (is_some o) ((x : X) × Is x)
  some_found = like (λ h. (h.0, (finds h.0).0 h.1)) (λ h. (h.0, (finds h.0).1 h.1)) found_some

  pub none_found : Decides (is_none o) ((x : X) → ¬ Is x)
  none_found = like (λ h x is. h x ((finds x).1 is)) (λ h x e. h x ((finds x).0 e)) (missing o)

  module _ {test : X → Bool} {Fits : X → Type 0} (each : (x : X) → Decides (test x) (Fits x)) where
    pub fits_found : Decides (passes test o) ((x : X) × Is x × Fits x)
    fits_found = like (λ h. (h.0, (finds h.0).0 h.1, h.2)) (λ h. (h.0, (finds h.0).1 h.1, h.2)) (has each o)

    missing_or : (p : Option X) → ((x : X) → ((p ≡ Some x) → Is x) × (Is x → (p ≡ Some x))) → Decides (option_map_or test p true) (((x : X) → ¬ Is x) ⊎ (x : X) × Is x × Fits x)
    missing_or None finds = (λ e. inl (λ x is. absurd (let f = (finds x).1 is in cc)), λ h. refl)
    missing_or (Some x) finds = (
      λ e. inr (x, (finds x).0 refl, (each x).0 e),
      λ h. elim h [ inl none ↦ absurd (none x ((finds x).0 refl)) | inr y ↦ moved test x y.0 ((finds y.0).1 y.1) ((each y.0).1 y.2) ],
    )

    pub missing_or_fits : Decides (option_map_or test o true) (((x : X) → ¬ Is x) ⊎ (x : X) × Is x × Fits x)
    missing_or_fits = missing_or o finds

    pub none_fits : Decides (lacks test o) (¬ ((x : X) × Is x × Fits x))
    none_fits = Decides-at (lacks test o) (not (passes test o)) (lacks_is test o) (neg fits_found)
