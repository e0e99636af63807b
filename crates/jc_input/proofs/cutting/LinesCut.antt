-- How lines are cut, and that a line over 8,192 bytes is bad whatever follows.
use Rattle.std.proofs.Common.{◌≡◌, ◌∙◌, ◌+◌, ◌-◌, ◌<◌, ◌≤◌, ◌++◌, ◌||◌, ℕ, zero, suc, min, Bool, true, false, cond, is_some, IsSome, List, [], ◌∷◌, Option, Some, None, length, take, drop, get_or, position, refl, sym, ap, subst, arith, nat_lt, append_assoc, append-nil, length-append, length-take, length-drop, lt-ltb, ltb-true, ltb-false}
use Rattle.std.proofs.lemmas.List.{take_all, drop_all, take_min, get_or-take}
use Rattle.std.proofs.lemmas.List.Folds.{list_any-append, list_any_none}
use Rattle.std.proofs.lemmas.List.Sums.{fails_before_first, passes_at_first, split_at_first}
use Rattle.std.proofs.lemmas.Bool.{cond-true, cond-false, or_parts, eqb-true}
use Rattle.std.proofs.Math.Seq.{take-append-add}
use Rattle.std.specs.Bool.{⊤}
use Rattle.std.specs.List.{list_any, position_or_len, before_first, after_first}
use Rattle.std.specs.Io.KnownBytes.{Consumes, IsAtEnd, Keeps}
use Rattle.jc_input.specs.Lines.{Bad, command_of, lines_of, onto_first, whole_lines, onto_whole}
use Rattle.jc_input.specs.LineReading.{is_line_feed, LacksFeed, kept_of, bytes_left, TakesLine, LosesPart}

-- what `keep` keeps
pub kept : (n : ℕ) (xs ys : List ℕ) → length xs ≤ n → xs ++ take (min (length ys) (n - length xs)) ys ≡ take n (xs ++ ys)
kept n xs ys short =
    let room = n - length xs in
    let all : length xs + room ≡ n = omega arith in
    let least : min (length ys) room ≡ min room (length ys) = omega arith in
    ap (λ k. xs ++ take k ys) least ∙ ap (λ l. xs ++ l) (take_min room ys) ∙ sym (take-append-add xs ys room) ∙ ap (λ k. take k (xs ++ ys)) all

-- ---- the first LF

pub lacks_feed-append : (xs ys : List ℕ) → LacksFeed xs → LacksFeed ys → LacksFeed (xs ++ ys)
lacks_feed-append xs ys p q = list_any-append is_line_feed xs ys ∙ ap (λ b. b || list_any is_line_feed ys) p ∙ q

-- what stands before the first LF has none
pub lacks_feed-before : (xs : List ℕ) → LacksFeed (before_first is_line_feed xs)
lacks_feed-before xs =
    let n = position_or_len is_line_feed xs in
    list_any_none is_line_feed (take n xs) (λ k d within. let below : k < n = omega (arith, within, length-take n xs) in
    ap is_line_feed (get_or-take n xs k d below) ∙ fails_before_first is_line_feed xs k d below)

test_is : (b r : Bool) (n : ℕ) → is_some (cond b (Some n) None) ≡ r → b ≡ r
test_is true r n e = e
test_is false r n e = e

-- with an LF the bytes are what stands before it, the LF, and what stands after it
pub split_at_feed : (xs : List ℕ) → is_some (position is_line_feed xs) ≡ true
    → (xs ≡ before_first is_line_feed xs ++ (10 ∷ after_first is_line_feed xs)) × (length (after_first is_line_feed xs) + length (before_first is_line_feed xs) < length xs)
split_at_feed xs there =
    let n = position_or_len is_line_feed xs in
    let within : n < length xs = ltb-true n (length xs) (test_is _ true n there) in
    let feed : get_or xs n 0 ≡ 10 = eqb-true _ 10 (passes_at_first is_line_feed xs 0 within) in (
      split_at_first is_line_feed xs 0 within ∙ ap (λ x. take n xs ++ (x ∷ drop (n + 1) xs)) feed,
      omega (arith, within, length-take n xs, length-drop (n + 1) xs),
    )

-- without one all of them stand before it
pub all_before_feed : (xs : List ℕ) → is_some (position is_line_feed xs) ≡ false → (before_first is_line_feed xs ≡ xs) × (after_first is_line_feed xs ≡ [])
all_before_feed xs none =
    let n = position_or_len is_line_feed xs in
    let past : length xs ≤ n = ltb-false n (length xs) (test_is _ false n none) in
    (take_all n xs past, drop_all (n + 1) xs (omega arith))

-- ---- lines

-- a line that an LF ends
pub lines_of-feed : (line rest : List ℕ) → LacksFeed line → lines_of (line ++ 10 ∷ rest) ≡ line ∷ lines_of rest
lines_of-feed [] rest lacks = refl
lines_of-feed (x ∷ line) rest lacks =
    let parts = or_parts (is_line_feed x) (list_any is_line_feed line) lacks in
    cond-false (is_line_feed x) _ _ parts.0 ∙ ap (onto_first x) (lines_of-feed line rest parts.1)

pub whole_lines-feed : (line rest : List ℕ) → LacksFeed line → whole_lines (line ++ 10 ∷ rest) ≡ line ∷ whole_lines rest
whole_lines-feed [] rest lacks = refl
whole_lines-feed (x ∷ line) rest lacks =
    let parts = or_parts (is_line_feed x) (list_any is_line_feed line) lacks in
    cond-false (is_line_feed x) _ _ parts.0 ∙ ap (onto_whole x) (whole_lines-feed line rest parts.1)

-- one that the end of the input ends
pub lines_of-last : (x : ℕ) (line : List ℕ) → LacksFeed (x ∷ line) → lines_of (x ∷ line) ≡ (x ∷ line) ∷ []
lines_of-last x [] lacks = cond-false (is_line_feed x) _ _ (or_parts (is_line_feed x) false lacks).0
lines_of-last x (y ∷ line) lacks =
    let parts = or_parts (is_line_feed x) (list_any is_line_feed (y ∷ line)) lacks in
    cond-false (is_line_feed x) _ _ parts.0 ∙ ap (onto_first x) (lines_of-last y line parts.1)

pub whole_lines-part : (part : List ℕ) → LacksFeed part → whole_lines part ≡ []
whole_lines-part [] lacks = refl
whole_lines-part (x ∷ part) lacks =
    let parts = or_parts (is_line_feed x) (list_any is_line_feed part) lacks in
    cond-false (is_line_feed x) _ _ parts.0 ∙ ap (onto_whole x) (whole_lines-part part parts.1)

-- ---- what is kept of a line

-- a front that is cut and goes on is the same cut again
pub cut_again : (n : ℕ) (front rest : List ℕ) → take n (take n front ++ rest) ≡ take n (front ++ rest)
cut_again zero front rest = refl
cut_again (suc n) [] rest = refl
cut_again (suc n) (x ∷ front) rest = ap (λ l. x ∷ l) (cut_again n front rest)

bad_line : (line : List ℕ) → 8192 < length line → command_of line ≡ Bad
bad_line line long = cond-true (nat_lt 8192 (length line)) Bad _ (lt-ltb 8192 (length line) long)

-- what is kept of a line asks for the same
command_of-cut : (n : ℕ) (line : List ℕ) → 8192 < n → command_of (take n line) ≡ command_of line
command_of-cut n line long = by (nat_lt n (length line)) refl
  where
    by : (b : Bool) → nat_lt n (length line) ≡ b → command_of (take n line) ≡ command_of line
    by true t =
        let over : n < length line = ltb-true n (length line) t in
        bad_line (take n line) (omega (arith, length-take n line)) ∙ sym (bad_line line (omega arith))
    by false t = ap command_of (take_all n line (ltb-false n (length line) t))

pub command_of-kept : (line : List ℕ) → command_of (kept_of line) ≡ command_of line
command_of-kept line = command_of-cut 8193 line (omega arith)

pub kept-cons : (x : ℕ) (line : List ℕ) → (y : ℕ) × (rest : List ℕ) × (kept_of (x ∷ line) ≡ y ∷ rest)
kept-cons x line = by 8193 (omega arith)
  where
    by : (n : ℕ) → 0 < n → (y : ℕ) × (rest : List ℕ) × (take n (x ∷ line) ≡ y ∷ rest)
    by zero some = absurd (omega arith)
    by (suc n) some = (x, take n line, refl)

-- ---- a reader in mid-line

-- of the bytes that were left a part of a line is read, with no LF so far: the start of it is kept, and the rest is ahead or still to come
abbrev pub IsReading : Option (List ℕ) → (kept ahead : List ℕ) → Option (List ℕ) → Type 0
IsReading None kept ahead coming = ⊤
IsReading (Some start) kept ahead None = ⊥
IsReading (Some start) kept ahead (Some coming) = (part : List ℕ) × LacksFeed part × (start ≡ part ++ (ahead ++ coming)) × (kept ≡ kept_of part)

pub reading_begins : (ahead : List ℕ) (coming : Option (List ℕ)) → IsReading (bytes_left ahead coming) [] ahead coming
reading_begins ahead None = tt
reading_begins ahead (Some coming) = ([], refl, refl, sym (take_all 8193 [] (omega arith)))

-- what stands before the LF is one line with the part
kept_on : (part before kept longer : List ℕ) → kept ≡ kept_of part → longer ≡ take 8193 (kept ++ before) → longer ≡ kept_of (part ++ before)
kept_on part before kept longer is more = more ∙ ap (λ l. take 8193 (l ++ before)) is ∙ cut_again 8193 part before

-- an LF was ahead
pub reading_finds : (start : Option (List ℕ)) (kept ahead longer rest : List ℕ) (coming : Option (List ℕ)) → IsReading start kept ahead coming
    → true ≡ is_some (position is_line_feed ahead) → longer ≡ take 8193 (kept ++ before_first is_line_feed ahead) → rest ≡ after_first is_line_feed ahead
    → TakesLine start true longer (bytes_left rest coming)
reading_finds None kept ahead longer rest coming reading there more rest_is = tt
reading_finds (Some start) kept ahead longer rest None reading there more rest_is = absurd reading
reading_finds (Some start) kept ahead longer rest (Some coming) (part, lacks, whole, is) there more rest_is =
    let before = before_first is_line_feed ahead in
    let after = after_first is_line_feed ahead in
    let cut : ahead ≡ before ++ (10 ∷ after) = (split_at_feed ahead (sym there)).0 in (
      part ++ before,
      lacks_feed-append part before lacks (lacks_feed-before ahead),
      whole ∙ ap (λ l. part ++ (l ++ coming)) cut ∙ ap (λ l. part ++ l) (append_assoc before (10 ∷ after) coming) ∙ sym (append_assoc part before (10 ∷ (after ++ coming)))
          ∙ ap (λ l. (part ++ before) ++ 10 ∷ (l ++ coming)) (sym rest_is),
      kept_on part before kept longer is more,
    )

-- no LF was ahead, so all of it was moved to the part
pub reading_moves : (start : Option (List ℕ)) (kept ahead longer : List ℕ) (coming : Option (List ℕ)) → IsReading start kept ahead coming
    → false ≡ is_some (position is_line_feed ahead) → longer ≡ take 8193 (kept ++ before_first is_line_feed ahead) → IsReading start longer [] coming
reading_moves None kept ahead longer coming reading none more = tt
reading_moves (Some start) kept ahead longer None reading none more = absurd reading
reading_moves (Some start) kept ahead longer (Some coming) (part, lacks, whole, is) none more =
    let all = (all_before_feed ahead (sym none)).0 in (
      part ++ ahead,
      lacks_feed-append part ahead lacks (subst LacksFeed all (lacks_feed-before ahead)),
      whole ∙ sym (append_assoc part ahead coming),
      kept_on part (before_first is_line_feed ahead) kept longer is more ∙ ap (λ l. kept_of (part ++ l)) all,
    )

-- the next bytes were read
pub reading_reads : (start : Option (List ℕ)) (kept bytes : List ℕ) (old new : Option (List ℕ)) → IsReading start kept [] old → Consumes old new bytes → IsReading start kept bytes new
reading_reads None kept bytes old new reading e = tt
reading_reads (Some start) kept bytes None new reading e = absurd reading
reading_reads (Some start) kept bytes (Some old) None reading e = absurd e
reading_reads (Some start) kept bytes (Some old) (Some new) (part, lacks, whole, is) e = (part, lacks, whole ∙ ap (λ l. part ++ l) e, is)

-- the end of the input was read
pub reading_ends : (start : Option (List ℕ)) (kept ahead : List ℕ) (coming : Option (List ℕ)) → IsReading start kept ahead coming
    → length ahead ≡ 0 → IsAtEnd coming → TakesLine start false kept (bytes_left ahead coming)
reading_ends start kept (x ∷ ahead) coming reading none end = absurd (omega arith)
reading_ends None kept [] coming reading none end = tt
reading_ends (Some start) kept [] None reading none end = absurd reading
reading_ends (Some start) kept [] (Some coming) (part, lacks, whole, is) none end =
    let same : start ≡ part = whole ∙ ap (λ l. part ++ l) end ∙ append-nil part in
    (subst LacksFeed (sym same) lacks, end, is ∙ ap kept_of (sym same))

-- no LF was ahead, and the input has ended
pub reading_stops : (start : Option (List ℕ)) (kept ahead longer rest : List ℕ) (coming : Option (List ℕ)) → IsReading start kept ahead coming
    → false ≡ is_some (position is_line_feed ahead) → longer ≡ take 8193 (kept ++ before_first is_line_feed ahead) → rest ≡ after_first is_line_feed ahead
    → IsAtEnd coming → TakesLine start false longer (bytes_left rest coming)
reading_stops start kept ahead longer rest coming reading none more rest_is end =
    let nothing : rest ≡ [] = rest_is ∙ (all_before_feed ahead (sym none)).1 in
    let moved = reading_moves start kept ahead longer coming reading none more in
    reading_ends start longer rest coming (subst (λ r. IsReading start longer r coming) (sym nothing) moved) (ap length nothing) end

-- reading failed
pub reading_fails : (start : Option (List ℕ)) (kept : List ℕ) (old new : Option (List ℕ)) → IsReading start kept [] old → Keeps old new → LosesPart start new
reading_fails None kept old new reading keeps = tt
reading_fails (Some start) kept None new reading keeps = absurd reading
reading_fails (Some start) kept (Some old) None reading keeps = absurd keeps
reading_fails (Some start) kept (Some old) (Some new) (part, lacks, whole, is) keeps = (part, lacks, whole ∙ ap (λ l. part ++ l) (sym keeps))

pub longer_by : (line ahead longer : List ℕ) → longer ≡ take 8193 (line ++ before_first is_line_feed ahead) → length longer ≤ length line + length ahead
longer_by line ahead longer is =
    let n = position_or_len is_line_feed ahead in
    omega (arith, ap length is, length-take 8193 (line ++ take n ahead), length-append line (take n ahead), length-take n ahead)

-- no LF is where one is found to be missing
pub no_feed : (there missed : List ℕ) → missed ≡ there → IsSome (position is_line_feed there) → false ≡ is_some (position is_line_feed missed) → ⊥
no_feed there missed same is none =
    let found : IsSome (position is_line_feed missed) = subst (λ l. IsSome (position is_line_feed l)) (sym same) is in
    cc
