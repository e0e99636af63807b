-- The code units before the first wrong spelling, step by step.
use Rattle.std.proofs.Common.{◌≡◌, ℕ, zero, suc, ◌+◌, ◌-◌, ◌<◌, ◌≤◌, List, [], ◌∷◌, ◌++◌, length, take, drop, Option, Some, None, refl, sym, ap, ◌∙◌, arith, append_assoc, length-append, length-drop}
use Rattle.std.specs.List.{AllByRecursion}
use Rattle.std.specs.Option.{option_map_or}
use Rattle.std.proofs.lemmas.List.{append-nil, take-append-drop, drop_at, take_rest}
use Rattle.jc_base.specs.FirstUnit.{first_unit}
use Rattle.jc_base.specs.ModifiedUtf8.{IsUnit, spelling, spelled, Spells, IsLongestFront}
use Rattle.jc_base.specs.CodeUnits.{units_before_within, units_before}
use Rattle.jc_base.proofs.texts.FirstUnitIsSpelled.{first_found, found_first, spelling_takes_room}
use Rattle.jc_base.proofs.texts.WellSpelledFronts.{one_more}

-- what is found takes room
pub found_size : (b : List ℕ) (u n : ℕ) → first_unit b ≡ Some (u, n) → (0 < n) × (n ≤ length b)
found_size b u n e =
    let first = first_found b u n e in
    (omega (arith, spelling_takes_room u, first.size), omega (arith, first.size, ap length first.split, length-append (spelling u) first.rest))

-- by the unit that stands at the front
within_by : (m n : ℕ) (b : List ℕ) (o : Option (ℕ × ℕ)) → first_unit b ≡ o → length b ≤ m + 1 → length b ≤ n + 1
    → ((c : List ℕ) → length c ≤ m → length c ≤ n → units_before_within m c ≡ units_before_within n c)
    → option_map_or (λ first. first.0 ∷ units_before_within m (drop first.1 b)) o [] ≡ option_map_or (λ first. first.0 ∷ units_before_within n (drop first.1 b)) o []
within_by m n b None e p q more = refl
within_by m n b (Some found) e p q more =
    let size = found_size b found.0 found.1 e in
    let fewer = length-drop found.1 b in
    ap (λ us. found.0 ∷ us) (more (drop found.1 b) (omega arith) (omega arith))

pub none_within : (n : ℕ) (b : List ℕ) → first_unit b ≡ None → units_before_within n b ≡ []
unfolding units_before_within
none_within zero b e = refl
none_within (suc n) b e = rw e

-- no unit stands where no bytes are left
none_at_end : (b : List ℕ) → length b ≤ 0 → first_unit b ≡ None
unfolding first_unit
none_at_end [] h = refl
none_at_end (x ∷ xs) h = absurd (omega arith)

-- more room than bytes changes nothing
pub enough : (m n : ℕ) (b : List ℕ) → length b ≤ m → length b ≤ n → units_before_within m b ≡ units_before_within n b
unfolding units_before_within
enough zero n b p q = sym (none_within n b (none_at_end b p))
enough (suc m) zero b p q = none_within (suc m) b (none_at_end b q)
enough (suc m) (suc n) b p q =
    within_by m n b (first_unit b) refl (omega arith) (omega arith) (λ c h k. enough m n c h k)

pub units_before-none : (b : List ℕ) → first_unit b ≡ None → units_before b ≡ []
unfolding units_before
units_before-none b e = none_within (length b) b e

some_within : (n : ℕ) (b : List ℕ) (u size : ℕ) → first_unit b ≡ Some (u, size) → units_before_within (suc n) b ≡ u ∷ units_before_within n (drop size b)
unfolding units_before_within
some_within n b u size e = rw e

pub units_before-some : (b : List ℕ) (u size : ℕ) → first_unit b ≡ Some (u, size) → units_before b ≡ u ∷ units_before (drop size b)
unfolding units_before
units_before-some b u size e =
    let found = found_size b u size e in
    let fewer = length-drop size b in
    let one : length b ≡ suc (length b - 1) = omega arith in
    ap (λ n. units_before_within n b) one ∙ some_within (length b - 1) b u size e
    ∙ ap (λ us. u ∷ us) (enough (length b - 1) (length (drop size b)) (drop size b) (omega arith) (omega arith))

-- a unit and then others
pub units_before-spelling : (u : ℕ) (rest : List ℕ) → IsUnit u → units_before (spelling u ++ rest) ≡ u ∷ units_before rest
units_before-spelling u rest unit =
    units_before-some (spelling u ++ rest) u (length (spelling u)) (found_first u rest unit)
    ∙ ap (λ xs. u ∷ units_before xs) (drop_at (spelling u) rest (length (spelling u)) refl)

pub units_before-spelled : (us rest : List ℕ) → AllByRecursion IsUnit us → units_before (spelled us ++ rest) ≡ us ++ units_before rest
units_before-spelled [] rest units = refl
units_before-spelled (u ∷ us) rest units =
    ap units_before (append_assoc (spelling u) (spelled us) rest)
    ∙ units_before-spelling u (spelled us ++ rest) units.0 ∙ ap (λ xs. u ∷ xs) (units_before-spelled us rest units.1)

pub units_before-text : (us bytes : List ℕ) → Spells us bytes → units_before bytes ≡ us
units_before-text us bytes spells =
    ap units_before (spells.1 ∙ sym (append-nil (spelled us))) ∙ units_before-spelled us [] spells.0
    ∙ ap (λ xs. us ++ xs) (units_before-none [] (none_at_end [] (omega arith))) ∙ append-nil us

-- behind the longest well spelled front no unit stands
none_behind : (bytes : List ℕ) (n : ℕ) (o : Option (ℕ × ℕ)) → IsLongestFront bytes n → first_unit (drop n bytes) ≡ o → first_unit (drop n bytes) ≡ None
none_behind bytes n None longest e = e
none_behind bytes n (Some found) longest e =
    let more = one_more bytes n found.0 found.1 (omega (arith, longest.within)) longest.front (ap first_unit (take_rest bytes n) ∙ e) in
    absurd (longest.longest (n + found.1) (omega (arith, more.0)) more.1 more.2)

pub units_before-front : (us bytes : List ℕ) (n : ℕ) → IsLongestFront bytes n → Spells us (take n bytes) → units_before bytes ≡ us
units_before-front us bytes n longest spells =
    ap units_before (sym (take-append-drop n bytes) ∙ ap (λ xs. xs ++ drop n bytes) spells.1)
    ∙ units_before-spelled us (drop n bytes) spells.0
    ∙ ap (λ xs. us ++ xs) (units_before-none (drop n bytes) (none_behind bytes n (first_unit (drop n bytes)) longest refl)) ∙ append-nil us
