-- Names and their numbers.
use Rattle.std.proofs.Common.{◌≡◌, ℕ, ◌+◌, ◌<◌, ◌≤◌, is_some, Bool, true, false, cond, List, [], ◌∷◌, ◌++◌, map, length, Option, Some, None, refl, sym, ap, subst, ◌∙◌, arith, ◌⊎◌, inl, inr, ⊎_elim, zero, suc, append_assoc, length-append}
use Rattle.std.proofs.lemmas.List.{append-nil, get_or_push, get_or_append_left, map-append}
use Rattle.std.proofs.lemmas.List.Elements.{Contains-append_left, Contains-append_right, All-push}
use Rattle.std.specs.List.{Contains, All}
use Rattle.std.specs.FinMap as fin
use Rattle.std.specs.Cmp.Lexicographic.{nat_list_cmp_total}
use Rattle.jc_classes.specs.Names.{Name, name_cmp, same_name}
use Rattle.jc_classes.proofs.worlds.NameTests.{same_is, same_self}
use Rattle.jc_classes.specs.Numbers.{name_at, IsOnce, Grows, AddsNumbers}
use Rattle.jc_classes.specs.inside.Numbering.{Finds, NumberOf, IsNumbered}

some_one : {X : Type 0} {x y : X} → Some x ≡ Some y → x ≡ y
some_one e = cc

none_some : {X A : Type 0} {x : X} → None ≡ Some x → A
none_some e = absurd cc

pub name_left : (xs ys : List Name) (i : ℕ) → i < length xs → name_at (xs ++ ys) i ≡ name_at xs i
name_left xs ys i l = get_or_append_left xs ys [] i l

pub name_last : (xs : List Name) (x : Name) (i : ℕ) → length xs ≡ i → name_at (xs ++ x ∷ []) i ≡ x
name_last xs x i e = get_or_push xs x [] i e

pub numbered_empty : IsNumbered fin.empty []
numbered_empty = record {
  finds = record {
    there = λ n i e. none_some (sym (fin.get-empty name_cmp n) ∙ e);
    back = λ i l. absurd (omega arith);
  };
  count = fin.len-empty name_cmp ℕ;
}

pub finds_once : (find : Name → Option ℕ) (ns : List Name) → Finds find ns → IsOnce ns
finds_once find ns h = λ i j a b e. some_one (sym (h.back i a) ∙ ap find e ∙ h.back j b)

-- either an old place or the new one
place_cases : (xs : List Name) (x : Name) (i : ℕ) → i < length (xs ++ x ∷ []) → (i < length xs) ⊎ (length xs ≡ i)
place_cases xs x i l = ⊎_elim inl (λ e. inr (omega (arith, length-append xs (x ∷ [])))) (under i (length xs))
  where
    under : (a b : ℕ) → (a < b) ⊎ (b ≤ a)
    under a b = grind arith

-- the look-up with one name more
pub finds_push : (find more : Name → Option ℕ) (ns : List Name) (x : Name) → Finds find ns → find x ≡ None
    → ((n : Name) → more n ≡ cond (same_name n x) (Some (length ns)) (find n)) → Finds more (ns ++ x ∷ [])
finds_push find more ns x h none is = record {
  there = λ n i e. by n (same_name n x) refl i (sym (is n) ∙ e);
  back = λ i l. ⊎_elim
      (λ a.
      let e : name_at (ns ++ x ∷ []) i ≡ name_at ns i = name_left ns (x ∷ []) i a in
      is _ ∙ at (name_at (ns ++ x ∷ []) i) i (same_name (name_at (ns ++ x ∷ []) i) x) refl (ap find e ∙ h.back i a))
      (λ a.
      let e : name_at (ns ++ x ∷ []) i ≡ x = name_last ns x i a in
      is _ ∙ ap (λ b. cond b (Some (length ns)) (find (name_at (ns ++ x ∷ []) i))) (ap (λ z. same_name z x) e ∙ same_self x) ∙ ap Some a)
      (place_cases ns x i l);
}
  where
    by : (n : Name) (b : Bool) → same_name n x ≡ b → (i : ℕ) → cond b (Some (length ns)) (find n) ≡ Some i → (i < length (ns ++ x ∷ [])) × (name_at (ns ++ x ∷ []) i ≡ n)
    by n true s i e =
        let q : length ns ≡ i = some_one e in
        (omega (arith, length-append ns (x ∷ [])), name_last ns x i q ∙ sym (same_is n x s))
    by n false s i e =
        let q = h.there n i e in
        (omega (arith, length-append ns (x ∷ []), q.0), name_left ns (x ∷ []) i q.0 ∙ q.1)

    at : (n : Name) (i : ℕ) (b : Bool) → same_name n x ≡ b → find n ≡ Some i → cond b (Some (length ns)) (find n) ≡ Some i
    at n i true s e = none_some (sym none ∙ ap find (sym (same_is n x s)) ∙ e)
    at n i false s e = e

pub numbered_push : (p : NumberOf) (ns : List Name) (x : Name) → IsNumbered p ns → fin.get p x ≡ None → IsNumbered (fin.insert p x (length ns)) (ns ++ x ∷ [])
numbered_push p ns x h none = record {
  finds = finds_push (fin.get p) (fin.get (fin.insert p x (length ns))) ns x h.finds none (fin.get-insert nat_list_cmp_total p x (length ns));
  count = fin.len-insert nat_list_cmp_total p x (length ns) ∙ ap (λ o. cond (is_some o) (fin.len p) (fin.len p + 1)) none ∙ omega (arith, h.count, length-append ns (x ∷ []));
}

pub contains_one : (x : Name) → Contains (x ∷ []) x
contains_one x = (zero, omega arith, refl)

pub grows_same : (ns added : List Name) → IsOnce ns → Grows ns ns added
grows_same ns added once = record { once = once; longer = omega arith; few = omega arith; same = λ i l. refl; only = λ i l m. absurd (omega arith) }

pub grows_push : (more : Name → Option ℕ) (ns : List Name) (x : Name) → Finds more (ns ++ x ∷ []) → Grows ns (ns ++ x ∷ []) (x ∷ [])
grows_push more ns x h =
    let size = length-append ns (x ∷ []) in
    record {
      once = finds_once more (ns ++ x ∷ []) h;
      longer = omega arith;
      few = omega arith;
      same = λ i l. name_left ns (x ∷ []) i l;
      only = λ i l m. subst (Contains (x ∷ [])) (sym (name_last ns x i (omega arith))) (contains_one x);
    }

pub grows_more : (a b c xs ys : List Name) → Grows a b xs → Grows b c ys → Grows a c (xs ++ ys)
grows_more a b c xs ys g h =
    let size = length-append xs ys in
    let p = g.longer in let q = h.longer in let r = g.few in let s = h.few in
    record {
      once = h.once;
      longer = omega arith;
      few = omega arith;
      same = λ i l. h.same i (omega arith) ∙ g.same i l;
      only = λ i l m. ⊎_elim
          (λ n. Contains-append_left xs ys _ (subst (Contains xs) (sym (h.same i n)) (g.only i l n)))
          (λ n. Contains-append_right xs ys _ (h.only i n m))
          (under i (length b));
    }
  where
    under : (i n : ℕ) → (i < n) ⊎ (n ≤ i)
    under i n = grind arith

-- lists keep their names while names are added
pub numbers_same : (a b : List Name) (list : List ℕ) → length a ≤ length b → ((i : ℕ) → i < length a → name_at b i ≡ name_at a i) → All (λ v. v < length a) list → map (name_at b) list ≡ map (name_at a) list
numbers_same a b [] l h all = refl
numbers_same a b (v ∷ list) l h all =
    let e = h v (all zero v (omega arith)) in
    let f = numbers_same a b list l h (λ k d m. all (suc k) d (omega arith)) in
    cc

pub adds_none : (a : List Name) (list : List ℕ) → IsOnce a → All (λ v. v < length a) list → AddsNumbers a list a list []
adds_none a list once all = record { grows = grows_same a [] once; nodes = all; named = sym (append-nil (map (name_at a) list)) }

pub adds_more : (a b c : List Name) (r s t : List ℕ) (xs ys : List Name) → AddsNumbers a r b s xs → AddsNumbers b s c t ys → AddsNumbers a r c t (xs ++ ys)
adds_more a b c r s t xs ys g h = record {
  grows = grows_more a b c xs ys g.grows h.grows;
  nodes = h.nodes;
  named = h.named ∙ ap (λ z. z ++ ys) g.named ∙ append_assoc (map (name_at a) r) xs ys;
}

pub adds_one : (a b : List Name) (list : List ℕ) (v : ℕ) (x : Name) → Grows a b (x ∷ []) → All (λ w. w < length a) list → v < length b → name_at b v ≡ x → AddsNumbers a list b (list ++ v ∷ []) (x ∷ [])
adds_one a b list v x g all l e =
    let p = g.longer in
    record {
      grows = g;
      nodes = All-push (λ w. w < length b) list v (λ k d m. let q = all k d m in omega arith) l;
      named = map-append (name_at b) list (v ∷ []) ∙ ap (λ z. z ++ name_at b v ∷ []) (numbers_same a b list g.longer g.same all) ∙ ap (λ z. map (name_at a) list ++ z ∷ []) e;
    }

pub none_found : (find : Name → Option ℕ) (ns ms : List Name) (x : Name) → Finds find ns → ns ≡ ms → ((i : ℕ) → i < length ms → name_at ms i ≡ x → ⊥) → find x ≡ None
none_found find ns ms x h e f = by (find x) refl
  where
    by : (o : Option ℕ) → find x ≡ o → find x ≡ None
    by None q = q
    by (Some i) q = let t = subst (λ z. (i < length z) × (name_at z i ≡ x)) e (h.there x i q) in absurd (f i t.0 t.1)

pub not_there : (find : Name → Option ℕ) (ns ms : List Name) (x : Name) → Finds find ns → ns ≡ ms → find x ≡ None → (i : ℕ) → i < length ms → name_at ms i ≡ x → ⊥
not_there find ns ms x h e none i l q =
    let k : i < length ns = subst (λ z. i < length z) (sym e) l in
    none_some (sym none ∙ ap find (sym q ∙ ap (λ z. name_at z i) (sym e)) ∙ h.back i k)
