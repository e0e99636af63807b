-- A pool that is read is the pool that was spelled, and what was spelled is read again.
use Rattle.std.proofs.Common.{◌≡◌, ℕ, zero, suc, ◌+◌, ◌-◌, Bool, true, false, ◌&&◌, cond, eqb, List, [], ◌∷◌, ◌++◌, length, Option, Some, None, Result, Ok, Err, refl, sym, ap, subst, ◌∙◌, append_assoc, arith, length-append}
use Rattle.std.specs.List.{flat_map, AllByRecursion}
use Rattle.std.proofs.lemmas.Bool.{ne_eqb}
use Rattle.jc_base.proofs.Common.{same_pair}
use Rattle.jc_base.specs.Cursor.{Reading}
use Rattle.jc_view.specs.declared.constant_pool.ConstantKind.{ConstantKind}
use Rattle.jc_view.specs.declared.parse_error.ParseError.{ParseError}
use Rattle.jc_view.specs.ConstantPool.{Constant, kind_of, is_wide, constant_bytes, FitsConstant}
use Rattle.jc_view.specs.ClassFile.{slots, all_slots}
use Rattle.jc_view.specs.Places.{unusable_index, places_of}
use Rattle.jc_view.specs.Reading.{constant_value, ◌>>=◌, first_constant, Entry, entry_at, entries_from, with_front}
use Rattle.jc_view.proofs.reading.BigEndian.{IsBytes, Takes, Takes-then}
use Rattle.jc_view.proofs.reading.Steps.{bind_ok}
use Rattle.jc_view.proofs.reading.FirstConstant.{ok_is, TakesFirst, first_takes, first_again}

both_of : {a x : ℕ} {b y : List ℕ} → a ≡ x → b ≡ y → ◌≡◌ {A = ℕ × List ℕ} (a, b) (x, y)
both_of e f = cc

-- how many indexes the second of a wide constant takes
abbrev pub pending : Bool → ℕ
pending true = 1
pending false = 0

pub slots_is : (constant : Constant) → slots constant ≡ suc (pending (is_wide (kind_of constant)))
slots_is constant = elim (is_wide (kind_of constant)) as (λ b. cond b 2 1 ≡ suc (pending b)) [ true ↦ refl | false ↦ refl ]

abbrev pub pool_bytes : List Constant → List ℕ
pool_bytes constants = flat_map constant_bytes constants

-- after a wide constant at the last index there would be none
room_left : (w : Bool) (n : ℕ) → eqb (pending w + n) 0 && w ≡ false
room_left true n = rw (ne_eqb (1 + n) 0 (λ e. absurd (omega arith))) refl
room_left false n = elim (eqb (0 + n) 0) as (λ b. b && false ≡ false) [ true ↦ refl | false ↦ refl ]

abbrev pub Pool : Type 0
Pool = Result (List (Option ℕ) × Reading) ParseError

with_none : (read : Pool) → with_front [] read ≡ read
with_none (Ok x) = refl
with_none (Err e) = refl

with_both : (a b : List (Option ℕ)) (read : Pool) → with_front a (with_front b read) ≡ with_front (a ++ b) read
with_both a b (Ok x) = ap (λ (ps : List (Option ℕ)). Ok (ps, x.1)) (sym (append_assoc a b x.0))
with_both a b (Err e) = refl

-- the second index of a wide constant, and those behind it
second_front : (w : Bool) (n : ℕ) (reading : Reading) → entries_from (pending w + n) w reading ≡ with_front (unusable_index w) (entries_from n false reading)
unfolding entries_from entry_at
second_front true n reading =
    let k : 1 + n ≡ suc n = omega arith in
    ap (λ (m : ℕ). entries_from m true reading) k
second_front false n reading =
    let k : 0 + n ≡ n = omega arith in
    ap (λ (m : ℕ). entries_from m false reading) k ∙ sym (with_none (entries_from n false reading))

entries_first : (c : Constant) (n place : ℕ) (ys : List ℕ) → FitsConstant c
    → entries_from (suc (pending (is_wide (kind_of c)) + n)) false (record { place = place; rest = constant_bytes c ++ ys })
    ≡ with_front (Some place ∷ unusable_index (is_wide (kind_of c))) (entries_from n false (record { place = place + length (constant_bytes c); rest = ys }))
unfolding entries_from entry_at
entries_first c n place ys fits =
    let w = is_wide (kind_of c) in
    let new : Reading = record { place = place + length (constant_bytes c); rest = ys } in
    rw (first_again (eqb (pending w + n) 0) c place ys fits (room_left w n))
    (ap (λ (r : Pool). with_front (Some place ∷ []) r) (second_front w n new) ∙ with_both (Some place ∷ []) (unusable_index w) (entries_from n false new))

-- whole constants at the front fill the first indexes
pub entries_front : (constants : List Constant) (n place : ℕ) (ys : List ℕ) → AllByRecursion FitsConstant constants
    → entries_from (all_slots constants + n) false (record { place = place; rest = pool_bytes constants ++ ys })
    ≡ with_front (places_of place constants) (entries_from n false (record { place = place + length (pool_bytes constants); rest = ys }))
unfolding places_of
entries_front [] n place ys fits =
    let k : 0 + n ≡ n = omega arith in
    let p : place ≡ place + 0 = omega arith in
    ap (λ (x : ℕ × ℕ). entries_from x.0 false (record { place = x.1; rest = ys })) (same_pair k p) ∙ sym (with_none _)
entries_front (c ∷ cs) n place ys fits =
    let w = is_wide (kind_of c) in
    let k : slots c + all_slots cs + n ≡ suc (pending w + (all_slots cs + n)) = omega (arith, slots_is c) in
    let regrouped : constant_bytes c ++ pool_bytes cs ++ ys ≡ constant_bytes c ++ (pool_bytes cs ++ ys) = append_assoc (constant_bytes c) (pool_bytes cs) ys in
    let p : place + length (constant_bytes c) + length (pool_bytes cs) ≡ place + length (constant_bytes c ++ pool_bytes cs) = omega (arith, length-append (constant_bytes c) (pool_bytes cs)) in
    ap (λ (x : ℕ × List ℕ). entries_from x.0 false (record { place = place; rest = x.1 })) (both_of k regrouped)
    ∙ entries_first c (all_slots cs + n) place (pool_bytes cs ++ ys) fits.0
    ∙ ap (λ (r : Pool). with_front (Some place ∷ unusable_index w) r) (entries_front cs n (place + length (constant_bytes c)) ys fits.1)
    ∙ with_both (Some place ∷ unusable_index w) (places_of (place + length (constant_bytes c)) cs) _
    ∙ ap (λ (q : ℕ). with_front (Some place ∷ (unusable_index w ++ places_of (place + length (constant_bytes c)) cs)) (entries_from n false (record { place = q; rest = ys }))) p

-- ---- what is taken

pub record TakesPool (indexes : ℕ) (old : Reading) (places : List (Option ℕ)) (new : Reading) : Type 0 where
  pub constants : List Constant
  pub takes : Takes old.rest (pool_bytes constants) new.rest
  pub fits : AllByRecursion FitsConstant constants
  pub filled : all_slots constants ≡ indexes
  pub are_places : places ≡ places_of old.place constants
  pub end : new.place + length new.rest ≡ old.place + length old.rest

-- a wide constant is followed by an index
pub wide_goes_on : (w : Bool) (n : ℕ) → eqb n 0 && w ≡ false → (m : ℕ) × (n ≡ pending w + m)
wide_goes_on true zero e = absurd cc
wide_goes_on true (suc n) e = (n, omega arith)
wide_goes_on false n e = (n, omega arith)

after_first : (is_last : Bool) (old : Reading) (kind : ConstantKind) (new : Reading) → TakesFirst is_last old kind new → new.place + length new.rest ≡ old.place + length old.rest
after_first is_last old kind new t =
    let xs = constant_bytes (constant_value old.rest) in
    let parts = ap length t.takes.parts in
    let place : new.place ≡ (old.place + length old.rest) - length new.rest = ap (λ (r : Reading). r.place) t.place in
    let len : length (xs ++ new.rest) ≡ length xs + length new.rest = length-append xs new.rest in
    omega arith

pub next_place : (is_last : Bool) (old : Reading) (kind : ConstantKind) (new : Reading) → TakesFirst is_last old kind new → new.place ≡ old.place + length (constant_bytes (constant_value old.rest))
next_place is_last old kind new t =
    let xs = constant_bytes (constant_value old.rest) in
    let parts = ap length t.takes.parts in
    let end = after_first is_last old kind new t in
    let len : length (xs ++ new.rest) ≡ length xs + length new.rest = length-append xs new.rest in
    omega arith

take_one : (is_last : Bool) (indexes m : ℕ) (old mid new : Reading) (kind : ConstantKind) (places : List (Option ℕ)) → TakesFirst is_last old kind mid → TakesPool m mid places new → indexes ≡ suc (pending (is_wide kind) + m)
    → TakesPool indexes old (Some old.place ∷ (unusable_index (is_wide kind) ++ places)) new
unfolding places_of
take_one is_last indexes m old mid new kind places first others count =
    let c = constant_value old.rest in
    let kind_is : is_wide (kind_of c) ≡ is_wide kind = ap is_wide first.same in
    let wide_is : pending (is_wide (kind_of c)) ≡ pending (is_wide kind) = ap pending kind_is in
    let here : Some old.place ∷ (unusable_index (is_wide kind) ++ places) ≡ places_of old.place (c ∷ others.constants) =
    rw (others.are_places, next_place is_last old kind mid first, ← kind_is) refl in
    record {
      constants = c ∷ others.constants;
      takes = Takes-then old.rest (constant_bytes c) mid.rest (pool_bytes others.constants) new.rest first.takes others.takes;
      fits = (first.fits, others.fits);
      filled = omega (arith, slots_is c, others.filled, count, wide_is);
      are_places = here;
      end = others.end ∙ after_first is_last old kind mid first;
    }

-- what stands in the places of a pool that is read with its first index second to a wide constant
record TakesFrom (is_second : Bool) (indexes : ℕ) (old : Reading) (places : List (Option ℕ)) (new : Reading) : Type 0 where
  others : List (Option ℕ)
  split : places ≡ unusable_index is_second ++ others
  pool : TakesPool indexes old others new

take_nothing : (old : Reading) → IsBytes old.rest → TakesPool 0 old [] old
unfolding places_of
take_nothing old fits = record { constants = []; takes = record { parts = refl; rest_fits = fits }; fits = tt; filled = refl; are_places = refl; end = refl }

entries_take : (left : ℕ) (is_second : Bool) (indexes : ℕ) (old : Reading) (found : List (Option ℕ) × Reading) → IsBytes old.rest → left ≡ pending is_second + indexes
    → entries_from left is_second old ≡ Ok found → TakesFrom is_second indexes old found.0 found.1
unfolding entries_from entry_at
entries_take zero true indexes old found fits count e = absurd (omega arith)
entries_take zero false indexes old found fits count e =
    let none : 0 ≡ indexes = omega arith in
    subst (λ (n : ℕ). TakesFrom false n old found.0 found.1) none
    (subst (λ (f : List (Option ℕ) × Reading). TakesFrom false 0 old f.0 f.1) (ok_is ([], old) found e) (record { others = []; split = refl; pool = take_nothing old fits }))
entries_take (suc left) true indexes old found fits count e =
    let b = bind_ok (entries_from left false old) (λ others. Ok (None ∷ others.0, others.1)) found e in
    let rest = entries_take left false indexes old b.0 fits (omega arith) b.1 in
    let split : None ∷ b.0.0 ≡ unusable_index true ++ rest.others = ap (λ (ps : List (Option ℕ)). None ∷ ps) rest.split in
    subst (λ (f : List (Option ℕ) × Reading). TakesFrom true indexes old f.0 f.1) (ok_is (None ∷ b.0.0, b.0.1) found b.2) (record { others = rest.others; split = split; pool = rest.pool })
entries_take (suc left) false indexes old found fits count e =
    let a = bind_ok (entry_at false (eqb left 0) old) (λ entry. entries_from left entry.0.is_wide entry.1 >>= λ others. Ok (entry.0.offset ∷ others.0, others.1)) found e in
    let f = bind_ok (first_constant (eqb left 0) old) (λ first. Ok (record { offset = Some old.place; is_wide = is_wide first.0 }, first.1)) a.0 a.1 in
    let first = first_takes (eqb left 0) old f.0 fits f.1 in
    let entry_is : ◌≡◌ {A = Entry × Reading} (record { offset = Some old.place; is_wide = is_wide f.0.0 }, f.0.1) a.0 = ok_is _ a.0 f.2 in
    let rest : (entries_from left (is_wide f.0.0) f.0.1 >>= λ others. Ok (Some old.place ∷ others.0, others.1)) ≡ Ok found =
    subst (λ (x : Entry × Reading). (entries_from left x.0.is_wide x.1 >>= λ others. Ok (x.0.offset ∷ others.0, others.1)) ≡ Ok found) (sym entry_is) a.2 in
    let b = bind_ok (entries_from left (is_wide f.0.0) f.0.1) (λ others. Ok (Some old.place ∷ others.0, others.1)) found rest in
    let w = wide_goes_on (is_wide f.0.0) left first.room in
    let others = entries_take left (is_wide f.0.0) w.0 f.0.1 b.0 first.takes.rest_fits w.1 b.1 in
    let whole = take_one (eqb left 0) indexes w.0 old f.0.1 b.0.1 f.0.0 others.others first others.pool (omega (arith, w.1, count)) in
    let split : Some old.place ∷ b.0.0 ≡ unusable_index false ++ (Some old.place ∷ (unusable_index (is_wide f.0.0) ++ others.others)) = ap (λ (ps : List (Option ℕ)). Some old.place ∷ ps) others.split in
    subst (λ (g : List (Option ℕ) × Reading). TakesFrom false indexes old g.0 g.1) (ok_is (Some old.place ∷ b.0.0, b.0.1) found b.2)
    (record { others = Some old.place ∷ (unusable_index (is_wide f.0.0) ++ others.others); split = split; pool = whole })

pub pool_take : (indexes : ℕ) (old : Reading) (found : List (Option ℕ) × Reading) → IsBytes old.rest → entries_from indexes false old ≡ Ok found → TakesPool indexes old found.0 found.1
pool_take indexes old found fits e =
    let t = entries_take indexes false indexes old found fits (omega arith) e in
    subst (λ (ps : List (Option ℕ)). TakesPool indexes old ps found.1) (sym t.split) t.pool

-- ---- how many indexes there are

slots_of : (wide : Bool) (places : List (Option ℕ)) (n : ℕ) → length places ≡ n → suc (length (unusable_index wide ++ places)) ≡ cond wide 2 1 + n
slots_of true places n e = omega (arith, e)
slots_of false places n e = omega (arith, e)

pub length-places_of : (constants : List Constant) (place : ℕ) → length (places_of place constants) ≡ all_slots constants
unfolding places_of
length-places_of [] place = refl
length-places_of (c ∷ cs) place =
    let next = place + length (constant_bytes c) in
    slots_of (is_wide (kind_of c)) (places_of next cs) (all_slots cs) (length-places_of cs next)
