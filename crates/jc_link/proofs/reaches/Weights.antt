-- What is left to gather.
use Rattle.jc_classes.specs.Worlds.{Stands as stands}
use Rattle.std.proofs.Common.{◌≡◌, ℕ, ◌+◌, ◌-◌, ◌<◌, ◌≤◌, Bool, true, false, ◌||◌, cond, List, [], ◌∷◌, length, Option, Some, None, refl, sym, ap, ◌∙◌, arith, zero, suc}
use Rattle.std.proofs.lemmas.Bool.{false≢true}
use Rattle.std.specs.Cmp.{eq_by_cmp_equiv}
use Rattle.std.specs.Cmp.Lexicographic.{nat_list_cmp_total}
use Rattle.std.specs.FinMap as fin
use Rattle.std.specs.FinMap.Entries.{find}
use Rattle.jc_classes.specs.Facts.{Facts}
use Rattle.jc_classes.specs.Names.{Name, name_cmp, same_name, object}
use Rattle.jc_classes.specs.Worlds.{Stands, supertypes_of}
use Rattle.jc_classes.specs.BuiltIn.{object_facts}
use Rattle.jc_link.specs.Prefixes.{is_covered}
use Rattle.jc_link.specs.Tables.{Places, placed, or_built_in, stands_by, world}
use Rattle.jc_classes.proofs.worlds.NameTests.{same_is}
use Rattle.jc_classes.specs.Numbers.{name_at, IsOnce}

or_true : (a : Bool) → (a || true) ≡ true
or_true true = refl
or_true false = refl

-- a name is one of the first
abbrev pub asked : List Name → ℕ → Name → Bool
asked names zero n = false
asked names (suc k) n = same_name n (name_at names k) || asked names k n

-- how many supertypes what stands somewhere has
abbrev pub told_by : Stands → ℕ
told_by s = length (supertypes_of s)

-- how many the class at a place tells
abbrev pub told_count : Option Facts → ℕ
told_count None = 0
told_count (Some r) = told_by (stands.Class r)

-- what the classes tell that were not asked for
pub weight : (Name → Bool) → List (Name × Option Facts) → ℕ
weight seen [] = 0
weight seen (e ∷ es) = cond (seen e.0) 0 (told_count e.1) + weight seen es

abbrev pub left : Places → List Name → ℕ → ℕ
left t names at = weight (asked names at) (fin.entries t) + (length names - at)

cond_less : (b c : Bool) (n : ℕ) → (b ≡ true → c ≡ true) → cond c 0 n ≤ cond b 0 n
cond_less true true n f = omega arith
cond_less true false n f = absurd (false≢true (f refl))
cond_less false true n f = omega arith
cond_less false false n f = omega arith

weight_less : (seen more : Name → Bool) → ((n : Name) → seen n ≡ true → more n ≡ true) → (es : List (Name × Option Facts)) → weight more es ≤ weight seen es
unfolding weight
weight_less seen more f [] = omega arith
weight_less seen more f (e ∷ es) =
    let a = cond_less (seen e.0) (more e.0) (told_count e.1) (f e.0) in
    let b = weight_less seen more f es in
    omega arith

abbrev found_told : Option (Option Facts) → ℕ
found_told None = 0
found_told (Some o) = told_count o

weight_found : (seen more : Name → Bool) (x : Name) → ((n : Name) → more n ≡ (same_name n x || seen n)) → seen x ≡ false → (es : List (Name × Option Facts)) → weight more es + found_told (find name_cmp x es) ≤ weight seen es
unfolding weight
weight_found seen more x f none [] = omega arith
weight_found seen more x f none (e ∷ es) =
    let laws = eq_by_cmp_equiv nat_list_cmp_total in
    let grows : (n : Name) → seen n ≡ true → more n ≡ true = λ n h. f n ∙ ap (λ b. same_name n x || b) h ∙ or_true (same_name n x) in
    let rest = weight_found seen more x f none es in
    let less = weight_less seen more grows es in
    elim (same_name x e.0) as (λ b. same_name x e.0 ≡ b → cond (more e.0) 0 (told_count e.1) + weight more es + found_told (cond b (Some e.1) (find name_cmp x es)) ≤ cond (seen e.0) 0 (told_count e.1) + weight seen es) [
      | true ↦ λ t.
          let now_seen : more e.0 ≡ true = f e.0 ∙ ap (λ b. b || seen e.0) (laws.symm e.0 x ∙ t) in
          let not_seen : seen e.0 ≡ false = ap seen (sym (same_is x e.0 t)) ∙ none in
          let p = ap (λ b. cond b 0 (told_count e.1)) now_seen in
          let q = ap (λ b. cond b 0 (told_count e.1)) not_seen in
          omega arith
      | false ↦ λ t.
          let same : more e.0 ≡ seen e.0 = f e.0 ∙ ap (λ b. b || seen e.0) (laws.symm e.0 x ∙ t) in
          let p = ap (λ b. cond b 0 (told_count e.1)) same in
          omega arith
    ] refl

-- the built-in class tells none
built_in_tells : (s b : Bool) → told_by (stands_by (cond s (Some object_facts) None) b) ≡ 0
built_in_tells true b = refl
built_in_tells false true = refl
built_in_tells false false = refl

tells_by : (o : Option (Option Facts)) (n : Name) (b : Bool) → told_by (stands_by (or_built_in (placed o) n) b) ≡ found_told o
tells_by (Some (Some r)) n b = refl
tells_by (Some None) n b = built_in_tells (same_name n object) b
tells_by None n b = built_in_tells (same_name n object) b

-- the name at a place is none of those before it
not_asked : (names : List Name) (at k : ℕ) → IsOnce names → at < length names → k ≤ at → asked names k (name_at names at) ≡ false
not_asked names at zero once l m = refl
not_asked names at (suc k) once l m = by (same_name (name_at names at) (name_at names k)) refl (not_asked names at k once l (omega arith))
  where
    by : (b : Bool) → same_name (name_at names at) (name_at names k) ≡ b → asked names k (name_at names at) ≡ false → (b || asked names k (name_at names at)) ≡ false
    by true s q = let e = once at k l (omega arith) (same_is (name_at names at) (name_at names k) s) in absurd (omega arith)
    by false s q = q

same_asked : (old new : List Name) (k : ℕ) → ((i : ℕ) → i < length old → name_at new i ≡ name_at old i) → k ≤ length old → (n : Name) → asked new k n ≡ asked old k n
same_asked old new zero h l n = refl
same_asked old new (suc k) h l n =
    let e = h k (omega arith) in
    let f = same_asked old new k h (omega arith) n in
    ap (λ x. same_name n x || asked new k n) e ∙ ap (λ b. same_name n (name_at old k) || b) f

-- a name that is asked for adds no more than it takes away
pub left_less : (t : Places) (ps old new : List Name) (at next : ℕ) → IsOnce old → at < length old → next ≡ at + 1 → length old ≤ length new → ((i : ℕ) → i < length old → name_at new i ≡ name_at old i)
    → length new ≤ length old + told_by (world t ps (name_at old at)) → left t new next < left t old at
left_less t ps old new at next once l e longer same few =
    let x = name_at old at in
    let f : (n : Name) → asked new (suc at) n ≡ (same_name n x || asked old at n) =
    λ n. ap (λ z. same_name n z || asked new at n) (same at l) ∙ ap (λ b. same_name n x || b) (same_asked old new at same (omega arith) n) in
    let w = weight_found (asked old at) (asked new (suc at)) x f (not_asked old at at once l (omega arith)) (fin.entries t) in
    let s = tells_by (fin.get t x) x (is_covered ps x) in
    let g = ap found_told (fin.get-entries t x) in
    let q : next ≡ suc at = omega arith in
    let v = ap (λ k. weight (asked new k) (fin.entries t)) q in
    omega arith
