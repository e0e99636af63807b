-- Names that are found by digests.
use Rattle.std.proofs.Common.{◌≡◌, ◌∙◌, ◌<◌, ℕ, Bool, true, false, cond, List, [], ◌∷◌, ◌++◌, length, length-append, ◌+◌, Option, Some, None, IsSome, refl, sym, ap, subst, arith}
use Rattle.std.proofs.lemmas.Cmp.{nat_cmp_total}
use Rattle.std.specs.BTreeMap.{BTreeMap, is_at}
use Rattle.std.specs.Cmp.{Equal-is, eq_by_cmp_equiv}
use Rattle.std.specs.Cmp.Lexicographic.{nat_list_cmp_total}
use Rattle.std.specs.FinMap as fin
use Rattle.std.specs.FinMap.{nat_cmp-IsAntisymmetric}
use Rattle.std.specs.Map.{lookup}
use Rattle.std.specs.Ordering.{nat_cmp}
use Rattle.jc_classes.specs.Names.{Name, name_cmp, same_name}
use Rattle.jc_classes.specs.Numbers.{name_at}
use Rattle.jc_classes.specs.inside.Numbering.{AddsPlace, IsDigested, NumberOf, digest_of, number_at, number_in, place_at}
use Rattle.jc_classes.specs.inside.Numbering.{AddsPlace as adds}
use Rattle.jc_classes.proofs.numbering.NumberLemmas.{finds_push, name_last, name_left}
use Rattle.jc_classes.proofs.worlds.NameTests.{same_is, same_self}

none_some : {X A : Type 0} {x : X} → None ≡ Some x → A
none_some e = absurd cc

some_one : {X : Type 0} {x y : X} → Some x ≡ Some y → x ≡ y
some_one e = cc

nowhere : (n : Name) (place other : Option ℕ) → place ≡ None → number_at [] n place other ≡ None
nowhere n None other e = refl
nowhere n (Some i) other e = none_some (sym e)

-- the map without an entry
pub digested_empty : (m : BTreeMap ℕ ℕ) → m.entries ≡ [] → IsDigested (place_at m) fin.empty []
digested_empty m e =
    let nothing = λ (d : ℕ). ap (lookup (is_at (nat_cmp d))) e in
    record {
      finds = record {
        there = λ n i h. none_some (sym (nowhere n (place_at m (digest_of n)) (fin.get fin.empty n) (nothing (digest_of n))) ∙ h);
        back = λ i l. absurd (omega arith);
      };
      within = λ d i h. none_some (sym (nothing d) ∙ h);
      behind = λ n i h. none_some (sym (fin.get-empty name_cmp n) ∙ h);
    }

-- a name at a place that was there
at_left : (ns : List Name) (x n : Name) (o other other2 : Option ℕ) → ((i : ℕ) → o ≡ Some i → i < length ns)
    → other2 ≡ other → number_at (ns ++ x ∷ []) n o other2 ≡ number_at ns n o other
at_left ns x n None other other2 l e = refl
at_left ns x n (Some i) other other2 l e =
    ap (λ z. cond (same_name z n) (Some i) other2) (name_left ns (x ∷ []) i (l i refl)) ∙ ap (cond (same_name (name_at ns i) n) (Some i)) e

at_self : (d : ℕ) → is_at (nat_cmp d) d ≡ true
at_self d = (eq_by_cmp_equiv nat_cmp_total).refl d

at_is : (d e : ℕ) → is_at (nat_cmp d) e ≡ true → d ≡ e
at_is d e h = nat_cmp-IsAntisymmetric d e ((Equal-is (nat_cmp d e)).0 h)

module _ (f : ℕ → Option ℕ) (o : NumberOf) (ns : List Name) (x : Name) (h : IsDigested f o ns) (none : number_in f o ns x ≡ None) where
  abbrev more : List Name
  more = ns ++ x ∷ []

  -- where no name has the digest of another, that one is not beside it
  free : (n : Name) → f (digest_of n) ≡ None → fin.get o n ≡ None
  free n e = by (fin.get o n) refl
    where
      by : (r : Option ℕ) → fin.get o n ≡ r → fin.get o n ≡ None
      by None q = q
      by (Some i) q = none_is (f (digest_of n)) e (h.behind n i q)
        where
          none_is : {A : Type 0} (r : Option ℕ) → r ≡ None → IsSome r → A
          none_is None e s = absurd cc
          none_is (Some j) e s = none_some (sym e)

  -- a name whose digest another has is not found beside it
  taken : (k : ℕ) → f (digest_of x) ≡ Some k → (same_name (name_at ns k) x ≡ false) × (fin.get o x ≡ None)
  taken k e = by (same_name (name_at ns k) x) refl (ap (λ r. number_at ns x r (fin.get o x)) (sym e) ∙ none)
    where
      by : (b : Bool) → same_name (name_at ns k) x ≡ b → number_at ns x (Some k) (fin.get o x) ≡ None → (same_name (name_at ns k) x ≡ false) × (fin.get o x ≡ None)
      by true s q = none_some (sym q ∙ ap (λ b. cond b (Some k) (fin.get o x)) s)
      by false s q = (s, sym (ap (λ b. cond b (Some k) (fin.get o x)) s) ∙ q)

  module _ (g : ℕ → Option ℕ) where
    first_more : f (digest_of x) ≡ None → ((d : ℕ) → g d ≡ cond (is_at (nat_cmp (digest_of x)) d) (Some (length ns)) (f d))
        → (n : Name) → number_in g o more n ≡ cond (same_name n x) (Some (length ns)) (number_in f o ns n)
    first_more e is n = by (same_name n x) refl
      where
        there : g (digest_of x) ≡ Some (length ns)
        there = is (digest_of x) ∙ ap (λ b. cond b (Some (length ns)) (f (digest_of x))) (at_self (digest_of x))

        elsewhere : (b : Bool) → is_at (nat_cmp (digest_of x)) (digest_of n) ≡ b → same_name n x ≡ false → number_in g o more n ≡ number_in f o ns n
        elsewhere true a s =
            let same : digest_of x ≡ digest_of n = at_is (digest_of x) (digest_of n) a in
            let nothing : f (digest_of n) ≡ None = ap f (sym same) ∙ e in
            let other : same_name x n ≡ false = (eq_by_cmp_equiv nat_list_cmp_total).symm x n ∙ s in
            ap (λ r. number_at more n r (fin.get o n)) (ap g (sym same) ∙ there)
            ∙ ap (λ z. cond (same_name z n) (Some (length ns)) (fin.get o n)) (name_last ns x (length ns) refl)
            ∙ ap (λ b. cond b (Some (length ns)) (fin.get o n)) other
            ∙ free n nothing
            ∙ sym (ap (λ r. number_at ns n r (fin.get o n)) nothing)
        elsewhere false a s =
            ap (λ r. number_at more n r (fin.get o n)) (is (digest_of n) ∙ ap (λ b. cond b (Some (length ns)) (f (digest_of n))) a)
            ∙ at_left ns x n (f (digest_of n)) (fin.get o n) (fin.get o n) (λ i q. h.within (digest_of n) i q) refl

        by : (b : Bool) → same_name n x ≡ b → number_in g o more n ≡ cond b (Some (length ns)) (number_in f o ns n)
        by true s =
            let same = same_is n x s in
            ap (number_in g o more) same
            ∙ ap (λ r. number_at more x r (fin.get o x)) there
            ∙ ap (λ z. cond (same_name z x) (Some (length ns)) (fin.get o x)) (name_last ns x (length ns) refl)
            ∙ ap (λ b. cond b (Some (length ns)) (fin.get o x)) (same_self x)
        by false s = elsewhere (is_at (nat_cmp (digest_of x)) (digest_of n)) refl s

    other_more : (k : ℕ) → f (digest_of x) ≡ Some k → ((d : ℕ) → g d ≡ f d)
        → (n : Name) → number_in g (fin.insert o x (length ns)) more n ≡ cond (same_name n x) (Some (length ns)) (number_in f o ns n)
    other_more k e is n = by (same_name n x) refl
      where
        p : NumberOf
        p = fin.insert o x (length ns)

        by : (b : Bool) → same_name n x ≡ b → number_in g p more n ≡ cond b (Some (length ns)) (number_in f o ns n)
        by true s =
            let same = same_is n x s in
            let t = taken k e in
            ap (number_in g p more) same
            ∙ ap (λ r. number_at more x r (fin.get p x)) (is (digest_of x) ∙ e)
            ∙ ap (λ z. cond (same_name z x) (Some k) (fin.get p x)) (name_left ns (x ∷ []) k (h.within (digest_of x) k e))
            ∙ ap (λ b. cond b (Some k) (fin.get p x)) t.0
            ∙ fin.get-insert nat_list_cmp_total o x (length ns) x
            ∙ ap (λ b. cond b (Some (length ns)) (fin.get o x)) (same_self x)
        by false s =
            ap (λ r. number_at more n r (fin.get p n)) (is (digest_of n))
            ∙ at_left ns x n (f (digest_of n)) (fin.get o n) (fin.get p n) (λ i q. h.within (digest_of n) i q)
            (fin.get-insert nat_list_cmp_total o x (length ns) n ∙ ap (λ b. cond b (Some (length ns)) (fin.get o n)) s)

-- one name more has its place
pub digested_push : (f g : ℕ → Option ℕ) (o p : NumberOf) (ns : List Name) (x : Name) → IsDigested f o ns → number_in f o ns x ≡ None
    → AddsPlace f g o p x (length ns) → IsDigested g p (ns ++ x ∷ [])
digested_push f g o p ns x h none (adds.first e is same) = subst (λ q. IsDigested g q (ns ++ x ∷ [])) (sym same) (record {
  finds = finds_push (number_in f o ns) (number_in g o (ns ++ x ∷ [])) ns x h.finds none (first_more f o ns x h none g e is);
  within = λ d i q. within d (is_at (nat_cmp (digest_of x)) d) i (sym (is d) ∙ q);
  behind = λ n i q. kept n (is_at (nat_cmp (digest_of x)) (digest_of n)) refl (h.behind n i q);
})
  where
    size : length (ns ++ x ∷ []) ≡ length ns + 1
    size = length-append ns (x ∷ [])

    within : (d : ℕ) (b : Bool) (i : ℕ) → cond b (Some (length ns)) (f d) ≡ Some i → i < length (ns ++ x ∷ [])
    within d true i q = let at : length ns ≡ i = some_one q in omega (arith, size, at)
    within d false i q = let l = h.within d i q in omega (arith, size, l)

    kept : (n : Name) (b : Bool) → is_at (nat_cmp (digest_of x)) (digest_of n) ≡ b → IsSome (f (digest_of n)) → IsSome (g (digest_of n))
    kept n true a s = subst IsSome (sym (is (digest_of n) ∙ ap (λ c. cond c (Some (length ns)) (f (digest_of n))) a)) refl
    kept n false a s = subst IsSome (sym (is (digest_of n) ∙ ap (λ c. cond c (Some (length ns)) (f (digest_of n))) a)) s
digested_push f g o p ns x h none (adds.other there is same) = subst (λ q. IsDigested g q (ns ++ x ∷ [])) (sym same)
    (by (f (digest_of x)) refl)
  where
    size : length (ns ++ x ∷ []) ≡ length ns + 1
    size = length-append ns (x ∷ [])

    behind : (n : Name) (b : Bool) → same_name n x ≡ b → (i : ℕ) → cond b (Some (length ns)) (fin.get o n) ≡ Some i → IsSome (g (digest_of n))
    behind n true s i q = subst (λ r. IsSome (g (digest_of r))) (sym (same_is n x s)) (subst IsSome (sym (is (digest_of x))) there)
    behind n false s i q = subst IsSome (sym (is (digest_of n))) (h.behind n i q)

    by : (r : Option ℕ) → f (digest_of x) ≡ r → IsDigested g (fin.insert o x (length ns)) (ns ++ x ∷ [])
    by None e = nothing (f (digest_of x)) e there
      where
        nothing : {A : Type 0} (r : Option ℕ) → r ≡ None → IsSome r → A
        nothing None e s = absurd cc
        nothing (Some j) e s = none_some (sym e)
    by (Some k) e = record {
      finds = finds_push (number_in f o ns) (number_in g (fin.insert o x (length ns)) (ns ++ x ∷ [])) ns x h.finds none (other_more f o ns x h none g k e is);
      within = λ d i q. let l = h.within d i (sym (is d) ∙ q) in omega (arith, size, l);
      behind = λ n i q. behind n (same_name n x) refl i (sym (fin.get-insert nat_list_cmp_total o x (length ns) n) ∙ q);
    }

-- the same places of the same names
pub digested_same : (f g : ℕ → Option ℕ) (o p : NumberOf) (ns : List Name) → IsDigested f o ns → ((d : ℕ) → g d ≡ f d) → p ≡ o → IsDigested g p ns
digested_same f g o p ns h is same = subst (λ q. IsDigested g q ns) (sym same) (record {
  finds = record {
    there = λ n i q. h.finds.there n i (sym (at n) ∙ q);
    back = λ i l. at (name_at ns i) ∙ h.finds.back i l;
  };
  within = λ d i q. h.within d i (sym (is d) ∙ q);
  behind = λ n i q. subst IsSome (sym (is (digest_of n))) (h.behind n i q);
})
  where
    at : (n : Name) → number_in g o ns n ≡ number_in f o ns n
    at n = ap (λ r. number_at ns n r (fin.get o n)) (is (digest_of n))

-- the first name of the digest, or what stands beside it
pub looked_up : (f : ℕ → Option ℕ) (o : NumberOf) (ns : List Name) (x : Name) (i : ℕ) (b : Bool) → f (digest_of x) ≡ Some i → same_name (name_at ns i) x ≡ b
    → number_in f o ns x ≡ cond b (Some i) (fin.get o x)
looked_up f o ns x i b e s = ap (λ r. number_at ns x r (fin.get o x)) e ∙ ap (λ c. cond c (Some i) (fin.get o x)) s
