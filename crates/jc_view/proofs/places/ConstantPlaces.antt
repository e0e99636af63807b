-- The constant of an index stands where its place says.
use Rattle.std.proofs.Common.{◌≡◌, ℕ, zero, suc, ◌+◌, ◌-◌, ◌≤◌, Bool, true, false, cond, eqb, ltb, List, [], ◌∷◌, ◌++◌, length, take, drop, Option, Some, None, option_and_then, slice_get, refl, sym, ap, subst, ◌∙◌, append_assoc, arith, length-append}
use Rattle.std.specs.List.{AllByRecursion}
use Rattle.std.proofs.lemmas.Bool.{ne_eqb, le-ltb}
use Rattle.std.proofs.lemmas.List.{take_at, drop_at, drop-drop, length-drop, append-nil}
use Rattle.std.specs.Option.{option_map}
use Rattle.std.proofs.lemmas.Option.{same_Some}
use Rattle.jc_base.specs.Endian.{big_number}
use Rattle.jc_view.specs.declared.constant_pool.ConstantIndex.{ConstantIndex}
use Rattle.jc_view.specs.declared.constant_pool.ConstantKind.{ConstantKind}
use Rattle.jc_view.specs.ConstantPool as pool
use Rattle.jc_view.specs.ConstantPool.{class_name_index, Constant, kind_of, tag_of, kind_of_tag, is_wide, body_bytes, constant_bytes, FitsConstant, utf8_text}
use Rattle.jc_view.specs.ClassFile.{class_text_at, ClassFile, tail_bytes, layout, FitsClassFile, all_slots, constant_from_first, constant_at}
use Rattle.jc_view.specs.Places.{unusable_index, places_of, place_at, IsLent}
use Rattle.jc_view.specs.Reading.{after}
use Rattle.jc_view.specs.inside.ConstantRead.{constant_read, kind_read}
use Rattle.jc_view.specs.inside.ConstantPlaces.{Holds}
use Rattle.jc_view.specs.Lookups.{utf8_at}
use Rattle.jc_view.proofs.reading.BigEndian.{after_front, after_text, then_some}
use Rattle.jc_view.proofs.reading.FirstConstant.{first_byte, kind_of_its_tag}
use Rattle.jc_view.proofs.reading.Pools.{pool_bytes, length-places_of}
use Rattle.jc_view.proofs.reading.Constants.{body_again}
use Rattle.jc_view.proofs.reading.ClassFiles.{whole_again}

first_at : (place : ℕ) (bytes : List ℕ) (x : ℕ) (rest : List ℕ) → drop place bytes ≡ x ∷ rest → slice_get bytes place ≡ Some x
first_at zero [] x rest here = absurd cc
first_at zero (y ∷ bytes) x rest here = ap (λ (xs : List ℕ). slice_get xs 0) here
first_at (suc place) [] x rest here = absurd cc
first_at (suc place) (y ∷ bytes) x rest here = first_at place bytes x rest here

-- what is read at these places is what stands there
abbrev pub read_at : List ℕ → Option ℕ → Option Constant
read_at bytes place = option_and_then (λ at. constant_read at bytes) place

read_here : (place : ℕ) (bytes rest : List ℕ) (constant : Constant) → place ≤ length bytes → FitsConstant constant → drop place bytes ≡ constant_bytes constant ++ rest → constant_read place bytes ≡ Some constant
unfolding constant_read constant_bytes
read_here place bytes rest constant le fits here =
    let body = body_bytes constant ++ rest in
    let text = tag_of (kind_of constant) ∷ body in
    let front : after place bytes ≡ Some text = after_front place bytes le ∙ ap (λ (xs : List ℕ). Some xs) here in
    let head : after 1 text ≡ Some body = after_text (tag_of (kind_of constant) ∷ []) body 1 refl in
    let tag : kind_of_tag (big_number 1 text) ≡ Some (kind_of constant) = ap kind_of_tag (first_byte (tag_of (kind_of constant)) body) ∙ kind_of_its_tag (kind_of constant) in
    let again = body_again constant rest fits in
    rw (front, head, tag, again.left, again.value) refl

-- the place of an index, in a pool whose first constant has the index 0
place_from : List (Option ℕ) → ℕ → Option ℕ
place_from places i = option_and_then (λ place. place) (slice_get places i)

-- behind a constant and its second index, if it has one
later : {A : Type 0} (read : Option ℕ → Option A) (value : Option Constant → Option A) (w : Bool) (constants : List Constant) (places : List (Option ℕ)) → read None ≡ value None
    → ((j : ℕ) → read (place_from places j) ≡ value (constant_from_first constants j))
    → (i : ℕ) → read (place_from (unusable_index w ++ places) i) ≡ value (cond (ltb (suc i) (cond w 2 1)) None (constant_from_first constants (suc i - cond w 2 1)))
unfolding place_from
later read value true constants places none h zero = none
later read value true constants places none h (suc i) =
    let past : ltb (suc (suc i)) 2 ≡ false = le-ltb _ _ (omega arith) in
    let left : suc (suc i) - 2 ≡ i = omega arith in
    h i ∙ sym (rw (past, left) refl)
later read value false constants places none h i =
    let past : ltb (suc i) 1 ≡ false = le-ltb _ _ (omega arith) in
    let left : suc i - 1 ≡ i = omega arith in
    h i ∙ sym (rw (past, left) refl)

-- something is read where a constant stands
abbrev IsRead : {A : Type 0} → List ℕ → (Option ℕ → Option A) → (Option Constant → Option A) → Type 0
IsRead bytes read value = (place : ℕ) (rest : List ℕ) (constant : Constant) → place ≤ length bytes → FitsConstant constant → drop place bytes ≡ constant_bytes constant ++ rest → read (Some place) ≡ value (Some constant)

found_from : {A : Type 0} (read : Option ℕ → Option A) (value : Option Constant → Option A) (constants : List Constant) (place : ℕ) (bytes rest : List ℕ) (i : ℕ) → read None ≡ value None → IsRead bytes read value
    → place ≤ length bytes → AllByRecursion FitsConstant constants → drop place bytes ≡ pool_bytes constants ++ rest
    → read (place_from (places_of place constants) i) ≡ value (constant_from_first constants i)
unfolding place_from places_of
found_from read value [] place bytes rest i none here le fits stands = none
found_from read value (c ∷ cs) place bytes rest zero none here le fits stands =
    here place (pool_bytes cs ++ rest) c le fits.0 (stands ∙ append_assoc (constant_bytes c) (pool_bytes cs) rest)
found_from read value (c ∷ cs) place bytes rest (suc i) none here le fits stands =
    let grouped : drop place bytes ≡ constant_bytes c ++ (pool_bytes cs ++ rest) = stands ∙ append_assoc (constant_bytes c) (pool_bytes cs) rest in
    let next_place = place + length (constant_bytes c) in
    let next : drop next_place bytes ≡ pool_bytes cs ++ rest =
    sym (drop-drop (length (constant_bytes c)) place bytes) ∙ ap (drop (length (constant_bytes c))) grouped ∙ drop_at (constant_bytes c) (pool_bytes cs ++ rest) (length (constant_bytes c)) refl in
    let within : next_place ≤ length bytes = omega (arith, ap length grouped, length-drop place bytes, length-append (constant_bytes c) (pool_bytes cs ++ rest)) in
    let not_first : eqb (suc i) 0 ≡ false = ne_eqb (suc i) 0 (λ e. absurd (omega arith)) in
    later read value (is_wide (kind_of c)) cs (places_of next_place cs) none (λ j. found_from read value cs next_place bytes rest j none here within fits.1 next) i ∙ sym (rw not_first refl)

found_in : {A : Type 0} (read : Option ℕ → Option A) (value : Option Constant → Option A) (c : ClassFile) (n : ℕ) → read None ≡ value None → IsRead (layout c) read value → FitsClassFile c
    → read (place_from (None ∷ places_of 10 c.constants) n) ≡ value (constant_at c (record { 0 = n }))
unfolding place_from
found_in read value c zero none here fits = none
found_in read value c (suc n) none here fits =
    let again = whole_again c [] fits in
    let text : layout c ++ [] ≡ layout c = append-nil (layout c) in
    let behind : drop 10 (layout c) ≡ pool_bytes c.constants ++ (tail_bytes c ++ []) = ap (drop 10) (sym text) ∙ again.behind_ten in
    let long : 10 ≤ length (layout c) = subst (λ (xs : List ℕ). 10 ≤ length xs) text again.head.long in
    let not_first : eqb (suc n) 0 ≡ false = ne_eqb (suc n) 0 (λ e. absurd (omega arith)) in
    let left : suc n - 1 ≡ n = omega arith in
    found_from read value c.constants 10 (layout c) (tail_bytes c ++ []) n none here long fits.constants behind ∙ sym (rw (not_first, left) refl)

-- what is read at the place of an index is the entry of that index
pub found : (bytes : List ℕ) (places : List (Option ℕ)) (c : ClassFile) (index : ConstantIndex) → Holds bytes places c → read_at bytes (place_at places index) ≡ constant_at c index
unfolding place_from
found bytes places c index h =
    ap (λ (b : List ℕ). read_at b (place_at places index)) (sym h.layout) ∙ ap (λ (ps : List (Option ℕ)). read_at (layout c) (place_at ps index)) h.are_places
    ∙ found_in (read_at (layout c)) (λ constant. constant) c index.0 refl (λ place rest constant le fits here. read_here place (layout c) rest constant le fits here) h.fits

-- the kind alone, by the tag
abbrev pub kind_read_at : List ℕ → Option ℕ → Option ConstantKind
kind_read_at bytes place = option_and_then (λ at. kind_read at bytes) place

kind_here : (place : ℕ) (bytes rest : List ℕ) (constant : Constant) → drop place bytes ≡ constant_bytes constant ++ rest → kind_read place bytes ≡ Some (kind_of constant)
unfolding constant_bytes
kind_here place bytes rest constant here =
    let tag : slice_get bytes place ≡ Some (tag_of (kind_of constant)) = first_at place bytes (tag_of (kind_of constant)) (body_bytes constant ++ rest) here in
    ap (option_and_then kind_of_tag) tag ∙ kind_of_its_tag (kind_of constant)

pub kind_found : (bytes : List ℕ) (places : List (Option ℕ)) (c : ClassFile) (index : ConstantIndex) → Holds bytes places c → kind_read_at bytes (place_at places index) ≡ option_map kind_of (constant_at c index)
unfolding place_from
kind_found bytes places c index h =
    ap (λ (b : List ℕ). kind_read_at b (place_at places index)) (sym h.layout) ∙ ap (λ (ps : List (Option ℕ)). kind_read_at (layout c) (place_at ps index)) h.are_places
    ∙ found_in (kind_read_at (layout c)) (option_map kind_of) c index.0 refl (λ place rest constant le fits here. kind_here place (layout c) rest constant here) h.fits

-- there is a place for each index, and one for 0
pub holds_count : (bytes : List ℕ) (places : List (Option ℕ)) (c : ClassFile) → Holds bytes places c → length places ≡ 1 + all_slots c.constants
holds_count bytes places c h = omega (arith, ap length h.are_places, length-places_of c.constants 10)

-- ---- texts at their places

-- a constant begins at the place of its index
pub record BeginsAt (bytes : List ℕ) (constant : Constant) (place : Option ℕ) : Type 0 where
  pub at : ℕ
  pub is_at : place ≡ Some at
  pub rest : List ℕ
  pub stands : drop at bytes ≡ constant_bytes constant ++ rest

begins_later : (w : Bool) (constants : List Constant) (places : List (Option ℕ)) (bytes : List ℕ) (constant : Constant)
    → ((j : ℕ) → constant_from_first constants j ≡ Some constant → BeginsAt bytes constant (place_from places j))
    → (i : ℕ) → cond (ltb (suc i) (cond w 2 1)) None (constant_from_first constants (suc i - cond w 2 1)) ≡ Some constant → BeginsAt bytes constant (place_from (unusable_index w ++ places) i)
unfolding place_from
begins_later true constants places bytes constant h zero e = absurd cc
begins_later true constants places bytes constant h (suc i) e =
    let past : ltb (suc (suc i)) 2 ≡ false = le-ltb _ _ (omega arith) in
    let left : suc (suc i) - 2 ≡ i = omega arith in
    h i (sym (rw (past, left) refl) ∙ e)
begins_later false constants places bytes constant h i e =
    let past : ltb (suc i) 1 ≡ false = le-ltb _ _ (omega arith) in
    let left : suc i - 1 ≡ i = omega arith in
    h i (sym (rw (past, left) refl) ∙ e)

begins_from : (constants : List Constant) (place : ℕ) (bytes rest : List ℕ) (constant : Constant) (i : ℕ) → drop place bytes ≡ pool_bytes constants ++ rest
    → constant_from_first constants i ≡ Some constant → BeginsAt bytes constant (place_from (places_of place constants) i)
unfolding place_from places_of
begins_from [] place bytes rest constant i here e = absurd cc
begins_from (c ∷ cs) place bytes rest constant zero here e =
    let grouped : drop place bytes ≡ constant_bytes c ++ (pool_bytes cs ++ rest) = here ∙ append_assoc (constant_bytes c) (pool_bytes cs) rest in
    record { at = place; is_at = refl; rest = pool_bytes cs ++ rest; stands = grouped ∙ ap (λ (k : Constant). constant_bytes k ++ (pool_bytes cs ++ rest)) (same_Some c constant e) }
begins_from (c ∷ cs) place bytes rest constant (suc i) here e =
    let grouped : drop place bytes ≡ constant_bytes c ++ (pool_bytes cs ++ rest) = here ∙ append_assoc (constant_bytes c) (pool_bytes cs) rest in
    let next_place = place + length (constant_bytes c) in
    let next : drop next_place bytes ≡ pool_bytes cs ++ rest =
    sym (drop-drop (length (constant_bytes c)) place bytes) ∙ ap (drop (length (constant_bytes c))) grouped ∙ drop_at (constant_bytes c) (pool_bytes cs ++ rest) (length (constant_bytes c)) refl in
    let not_first : eqb (suc i) 0 ≡ false = ne_eqb (suc i) 0 (λ h. absurd (omega arith)) in
    begins_later (is_wide (kind_of c)) cs (places_of next_place cs) bytes constant (λ j h. begins_from cs next_place bytes rest constant j next h) i (sym (rw not_first refl) ∙ e)

begins_in : (c : ClassFile) (n : ℕ) (constant : Constant) → FitsClassFile c → constant_at c (record { 0 = n }) ≡ Some constant → BeginsAt (layout c) constant (place_from (None ∷ places_of 10 c.constants) n)
unfolding place_from
begins_in c zero constant fits e = absurd cc
begins_in c (suc n) constant fits e =
    let again = whole_again c [] fits in
    let text : layout c ++ [] ≡ layout c = append-nil (layout c) in
    let behind : drop 10 (layout c) ≡ pool_bytes c.constants ++ (tail_bytes c ++ []) = ap (drop 10) (sym text) ∙ again.behind_ten in
    let not_first : eqb (suc n) 0 ≡ false = ne_eqb (suc n) 0 (λ h. absurd (omega arith)) in
    let left : suc n - 1 ≡ n = omega arith in
    begins_from c.constants 10 (layout c) (tail_bytes c ++ []) constant n behind (sym (rw (not_first, left) refl) ∙ e)

-- the text of a Utf8 constant is the part of the layout at its place
pub lent : (c : ClassFile) (index : ConstantIndex) (text : List ℕ) → FitsClassFile c → constant_at c index ≡ Some (pool.Utf8 text) → IsLent c index text
unfolding place_from constant_bytes
lent c index text fits e =
    let b = begins_in c index.0 (pool.Utf8 text) fits e in
    let front : drop 3 (constant_bytes (pool.Utf8 text) ++ b.rest) ≡ text ++ b.rest = refl in
    record {
      place = b.at;
      begins = b.is_at;
      part = ap (take (length text)) (sym (drop-drop 3 b.at (layout c)) ∙ ap (drop 3) b.stands ∙ front) ∙ take_at text b.rest (length text) refl;
    }

utf8_is : (k : Constant) (text : List ℕ) → utf8_text k ≡ Some text → k ≡ pool.Utf8 text
utf8_is (pool.Utf8 t) text e = ap (λ (xs : List ℕ). pool.Utf8 xs) (same_Some t text e)
utf8_is (pool.Integer x) text e = absurd cc
utf8_is (pool.Float x) text e = absurd cc
utf8_is (pool.Long x) text e = absurd cc
utf8_is (pool.Double x) text e = absurd cc
utf8_is (pool.Class x) text e = absurd cc
utf8_is (pool.String x) text e = absurd cc
utf8_is (pool.Fieldref x y) text e = absurd cc
utf8_is (pool.Methodref x y) text e = absurd cc
utf8_is (pool.InterfaceMethodref x y) text e = absurd cc
utf8_is (pool.NameAndType x y) text e = absurd cc
utf8_is (pool.MethodHandle x y) text e = absurd cc
utf8_is (pool.MethodType x) text e = absurd cc
utf8_is (pool.InvokeDynamic x y) text e = absurd cc

-- the text that a look-up finds
pub text_lies : (c : ClassFile) (index : ConstantIndex) (text : List ℕ) → FitsClassFile c → utf8_at c index ≡ Some text → IsLent c index text
text_lies c index text fits e =
    let found = then_some (constant_at c index) utf8_text text e in
    lent c index text fits (found.1 ∙ ap (λ (k : Constant). Some k) (utf8_is found.0 text found.2))

class_is : (k : Constant) (entry : ConstantIndex) → class_name_index k ≡ Some entry → k ≡ pool.Class entry
class_is (pool.Class n) entry e = ap (λ (x : ConstantIndex). pool.Class x) cc
class_is k entry e = absurd cc

-- a Class constant's text stands in the Utf8 constant that it names
pub class_text_is : (c : ClassFile) (index : ConstantIndex) (text : List ℕ) → class_text_at c index ≡ Some text
    → (entry : ConstantIndex) × (constant_at c index ≡ Some (pool.Class entry)) × (constant_at c entry ≡ Some (pool.Utf8 text))
class_text_is c index text e =
    let class = then_some (constant_at c index) (λ class. option_and_then (λ entry. option_and_then utf8_text (constant_at c entry)) (class_name_index class)) text e in
    let entry = then_some (class_name_index class.0) (λ entry. option_and_then utf8_text (constant_at c entry)) text class.2 in
    let found = then_some (constant_at c entry.0) utf8_text text entry.2 in
    (entry.0, class.1 ∙ ap (λ (k : Constant). Some k) (class_is class.0 entry.0 entry.1), found.1 ∙ ap (λ (k : Constant). Some k) (utf8_is found.0 text found.2))

pub class_text_from : (c : ClassFile) (index entry : ConstantIndex) (text : List ℕ) → constant_at c index ≡ Some (pool.Class entry) → constant_at c entry ≡ Some (pool.Utf8 text)
    → class_text_at c index ≡ Some text
class_text_from c index entry text class is =
    ap (option_and_then (λ class. option_and_then (λ entry. option_and_then utf8_text (constant_at c entry)) (class_name_index class))) class ∙ ap (option_and_then utf8_text) is

-- the text of a Class constant
pub class_text_lies : (c : ClassFile) (index : ConstantIndex) (text : List ℕ) → FitsClassFile c → class_text_at c index ≡ Some text → (entry : ConstantIndex) × (constant_at c index ≡ Some (pool.Class entry)) × IsLent c entry text
class_text_lies c index text fits e = let found = class_text_is c index text e in (found.0, found.1, lent c found.0 text fits found.2)
