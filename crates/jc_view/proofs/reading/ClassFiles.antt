-- A class file that is read is the class file that was spelled, and what was spelled is read again.
use Rattle.std.proofs.Common.{◌≡◌, ℕ, ◌+◌, ◌-◌, ◌^◌, ◌<◌, ◌≤◌, true, false, List, [], ◌∷◌, ◌++◌, length, drop, Option, Some, None, Result, Ok, Err, refl, sym, ap, subst, ◌∙◌, append_assoc, arith, inl, inr, length-append}
use Rattle.std.specs.List.{AllByRecursion}
use Rattle.std.proofs.lemmas.List.{drop_at, append-nil, length-drop, drop-drop}
use Rattle.jc_base.specs.Cursor.{Reading}
use Rattle.jc_base.specs.Endian.{big_bytes, big_number}
use Rattle.jc_view.specs.declared.parse_error.ParseError.{ParseError}
use Rattle.jc_view.specs.ConstantPool.{Constant, kind_of, tag_of, kind_of_tag, body_bytes, constant_bytes, FitsConstant, is_wide}
use Rattle.jc_view.specs.ClassFile.{ClassFile, magic, tail_bytes, layout, FitsClassFile, IsAcceptedVersion, all_slots}
use Rattle.jc_view.specs.Places.{unusable_index, places_of}
use Rattle.jc_view.specs.Reading.{with_front, pool_at, entries_from, after_tail, constants_at, constant_value, class_with, class_value}
use Rattle.jc_view.proofs.reading.BigEndian.{IsBytes, IsBytes-drop, width2, width4, Takes, Takes-then, takes_number, number_again, length-big_bytes}
use Rattle.jc_view.proofs.reading.FirstConstant.{first_byte, kind_of_its_tag, ok_is}
use Rattle.jc_view.proofs.reading.Pools.{pool_bytes, TakesPool, pool_take, entries_front}
use Rattle.jc_view.proofs.reading.Constants.{body_again}
use Rattle.jc_view.proofs.reading.BehindConstants.{tail_takes, FitsTail, tail_again}
use Rattle.jc_view.proofs.reading.Heads.{behind}
use Rattle.jc_view.specs.Refusal.{HasHead}

-- ---- constants at their places

pub constant_again : (constant : Constant) (rest : List ℕ) → FitsConstant constant → constant_value (constant_bytes constant ++ rest) ≡ constant
unfolding constant_bytes
constant_again constant rest fits =
    let body = body_bytes constant ++ rest in
    let tag : kind_of_tag (big_number 1 (tag_of (kind_of constant) ∷ body)) ≡ Some (kind_of constant) = ap kind_of_tag (first_byte (tag_of (kind_of constant)) body) ∙ kind_of_its_tag (kind_of constant) in
    rw tag (body_again constant rest fits).value

constants_behind : (w : _) (b : List ℕ) (places : List (Option ℕ)) → constants_at b (unusable_index w ++ places) ≡ constants_at b places
constants_behind true b places = refl
constants_behind false b places = refl

pub constants_again : (constants : List Constant) (place : ℕ) (b rest : List ℕ) → AllByRecursion FitsConstant constants → drop place b ≡ pool_bytes constants ++ rest
    → constants_at b (places_of place constants) ≡ constants
unfolding places_of
constants_again [] place b rest fits here = refl
constants_again (c ∷ cs) place b rest fits here =
    let grouped : drop place b ≡ constant_bytes c ++ (pool_bytes cs ++ rest) = here ∙ append_assoc (constant_bytes c) (pool_bytes cs) rest in
    let first : constant_value (drop place b) ≡ c = ap constant_value grouped ∙ constant_again c (pool_bytes cs ++ rest) fits.0 in
    let next : drop (place + length (constant_bytes c)) b ≡ pool_bytes cs ++ rest =
    sym (drop-drop (length (constant_bytes c)) place b) ∙ ap (drop (length (constant_bytes c))) grouped ∙ drop_at (constant_bytes c) (pool_bytes cs ++ rest) (length (constant_bytes c)) refl in
    let others = constants_again cs (place + length (constant_bytes c)) b rest fits.1 next in
    ap (λ (x : Constant). x ∷ constants_at b (unusable_index (is_wide (kind_of c)) ++ places_of (place + length (constant_bytes c)) cs)) first
    ∙ ap (λ (xs : List Constant). c ∷ xs) (constants_behind (is_wide (kind_of c)) b (places_of (place + length (constant_bytes c)) cs) ∙ others)

-- ---- the head

abbrev head_of : ℕ → ℕ → ℕ → ℕ → List ℕ
head_of m minor major count = big_bytes 4 m ++ big_bytes 2 minor ++ big_bytes 2 major ++ big_bytes 2 count

-- the first ten bytes
head_front : (b : List ℕ) → IsBytes b → 10 ≤ length b → Takes b (head_of (big_number 4 b) (big_number 2 (drop 4 b)) (big_number 2 (drop 6 b)) (big_number 2 (drop 8 b))) (drop 10 b)
    × (big_number 2 (drop 4 b) < 2 ^ 16) × (big_number 2 (drop 8 b) < 2 ^ 16)
head_front b fits long =
    let m = takes_number 4 width4 b (drop 4 b) fits (behind 0 4 b (omega arith)) in
    let minor = takes_number 2 width2 (drop 4 b) (drop 6 b) m.0.rest_fits (behind 4 2 b (omega arith)) in
    let major = takes_number 2 width2 (drop 6 b) (drop 8 b) minor.0.rest_fits (behind 6 2 b (omega arith)) in
    let count = takes_number 2 width2 (drop 8 b) (drop 10 b) major.0.rest_fits (behind 8 2 b long) in
    let one = big_bytes 4 (big_number 4 b) in
    let two = one ++ big_bytes 2 (big_number 2 (drop 4 b)) in
    let three = two ++ big_bytes 2 (big_number 2 (drop 6 b)) in
    let to_two = Takes-then b one (drop 4 b) (big_bytes 2 (big_number 2 (drop 4 b))) (drop 6 b) m.0 minor.0 in
    let to_three = Takes-then b two (drop 6 b) (big_bytes 2 (big_number 2 (drop 6 b))) (drop 8 b) to_two major.0 in
    (Takes-then b three (drop 8 b) (big_bytes 2 (big_number 2 (drop 8 b))) (drop 10 b) to_three count.0, minor.1, count.1)

record IsHeadAgain (m minor major count : ℕ) (rest : List ℕ) : Type 0 where
  long : 10 ≤ length (head_of m minor major count ++ rest)
  is_magic : big_number 4 (head_of m minor major count ++ rest) ≡ m
  is_minor : big_number 2 (drop 4 (head_of m minor major count ++ rest)) ≡ minor
  is_major : big_number 2 (drop 6 (head_of m minor major count ++ rest)) ≡ major
  is_count : big_number 2 (drop 8 (head_of m minor major count ++ rest)) ≡ count
  behind_all : drop 10 (head_of m minor major count ++ rest) ≡ rest

four_grouped : (a b c d rest : List ℕ) → (((a ++ b) ++ c) ++ d) ++ rest ≡ a ++ (b ++ (c ++ (d ++ rest)))
four_grouped a b c d rest = simp append_assoc

-- two bytes further on
further : (place n : ℕ) (xs ys : List ℕ) → drop place xs ≡ big_bytes 2 n ++ ys → drop (place + 2) xs ≡ ys
further place n xs ys here = sym (drop-drop 2 place xs) ∙ ap (drop 2) here ∙ drop_at (big_bytes 2 n) ys 2 (length-big_bytes 2 n)

head_again : (m minor major count : ℕ) (rest : List ℕ) → m < 2 ^ 32 → minor < 2 ^ 16 → major < 2 ^ 16 → count < 2 ^ 16 → IsHeadAgain m minor major count rest
head_again m minor major count rest lt_m lt_minor lt_major lt_count =
    let third = big_bytes 2 count ++ rest in
    let second = big_bytes 2 major ++ third in
    let first = big_bytes 2 minor ++ second in
    let xs = head_of m minor major count ++ rest in
    let regrouped : xs ≡ big_bytes 4 m ++ first = four_grouped (big_bytes 4 m) (big_bytes 2 minor) (big_bytes 2 major) (big_bytes 2 count) rest in
    let at_4 : drop 4 xs ≡ first = ap (drop 4) regrouped ∙ drop_at (big_bytes 4 m) first 4 (length-big_bytes 4 m) in
    let at_6 : drop 6 xs ≡ second = further 4 minor xs second at_4 in
    let at_8 : drop 8 xs ≡ third = further 6 major xs third at_6 in
    let at_10 : drop 10 xs ≡ rest = further 8 count xs rest at_8 in
    record {
      long = omega (
        arith,
        ap length regrouped,
        length-append (big_bytes 4 m) first,
        length-append (big_bytes 2 minor) second,
        length-append (big_bytes 2 major) third,
        length-append (big_bytes 2 count) rest,
        length-big_bytes 4 m,
        length-big_bytes 2 minor,
        length-big_bytes 2 major,
        length-big_bytes 2 count,
      );
      is_magic = ap (big_number 4) regrouped ∙ number_again 4 m first lt_m;
      is_minor = ap (big_number 2) at_4 ∙ number_again 2 minor second lt_minor;
      is_major = ap (big_number 2) at_6 ∙ number_again 2 major third lt_major;
      is_count = ap (big_number 2) at_8 ∙ number_again 2 count rest lt_count;
      behind_all = at_10;
    }

-- ---- the whole

-- what a front of bytes that was gone over is
pub record IsWhole (b : List ℕ) (places : List (Option ℕ)) (tail : ℕ) (rest : List ℕ) : Type 0 where
  pub fits : FitsClassFile (class_value b places tail)
  pub parts : b ≡ layout (class_value b places tail) ++ rest
  pub are_places : places ≡ None ∷ places_of 10 (class_value b places tail).constants

-- where the constants end
pub record EndsPool (b : List ℕ) (new : Reading) : Type 0 where
  pub end : new.place + length new.rest ≡ length b
  pub rest : new.rest ≡ drop new.place b

record IsClass (b : List ℕ) (places : List (Option ℕ)) (rest : List ℕ) (c : ClassFile) : Type 0 where
  fits : FitsClassFile c
  parts : b ≡ layout c ++ rest
  are_places : places ≡ None ∷ places_of 10 c.constants

by_class : (b : List ℕ) (places : List (Option ℕ)) (tail : ℕ) (rest : List ℕ) → IsClass b places rest (class_value b places tail) → IsWhole b places tail rest
by_class b places tail rest h = record { fits = h.fits; parts = h.parts; are_places = h.are_places }

same_with : (minor major : ℕ) {a x : List Constant} {b y : List ℕ} → a ≡ x → b ≡ y → class_with minor major a b ≡ class_with minor major x y
same_with minor major e f i = class_with minor major (e i) (f i)

module _ (b : List ℕ) (fits : IsBytes b) (head : HasHead b) (places : List (Option ℕ)) (new : Reading) (rest : List ℕ)
    (t : TakesPool (big_number 2 (drop 8 b) - 1) (record { place = 10; rest = drop 10 b }) places new) (behind_tail : after_tail new.rest ≡ Some rest) where
  abbrev the_class : ClassFile
  the_class = class_with (big_number 2 (drop 4 b)) (big_number 2 (drop 6 b)) t.constants new.rest

  is_count : big_number 2 (drop 8 b) ≡ 1 + all_slots t.constants
  is_count = let some = head.count in omega (arith, t.filled)

  the_place : new.place ≡ 10 + length (pool_bytes t.constants)
  the_place = omega (arith, t.end, ap length t.takes.parts, length-append (pool_bytes t.constants) new.rest)

  at_tail : drop new.place b ≡ new.rest
  at_tail = ap (λ (n : ℕ). drop n b) the_place ∙ sym (drop-drop (length (pool_bytes t.constants)) 10 b) ∙ ap (drop (length (pool_bytes t.constants))) t.takes.parts
      ∙ drop_at (pool_bytes t.constants) new.rest (length (pool_bytes t.constants)) refl

  are_constants : constants_at b (None ∷ places) ≡ t.constants
  are_constants = ap (constants_at b) t.are_places ∙ constants_again t.constants 10 b new.rest t.fits t.takes.parts

  is_class : class_value b (None ∷ places) new.place ≡ the_class
  unfolding class_value
  is_class = same_with (big_number 2 (drop 4 b)) (big_number 2 (drop 6 b)) are_constants at_tail

  whole_text : b ≡ layout the_class ++ rest
  unfolding layout
  whole_text =
      let front = (head_front b fits head.long).0 in
      let tail = tail_takes new.rest rest t.takes.rest_fits behind_tail in
      let first = head_of (big_number 4 b) (big_number 2 (drop 4 b)) (big_number 2 (drop 6 b)) (big_number 2 (drop 8 b)) in
      let to_tail = Takes-then b first (drop 10 b) (pool_bytes t.constants) new.rest front t.takes in
      let all = Takes-then b (first ++ pool_bytes t.constants) new.rest (tail_bytes the_class) rest to_tail tail.text in
      let named = ap (λ (n : ℕ). head_of n (big_number 2 (drop 4 b)) (big_number 2 (drop 6 b)) (big_number 2 (drop 8 b)) ++ pool_bytes t.constants ++ tail_bytes the_class ++ rest) head.is_magic in
      let counted = ap (λ (n : ℕ). head_of magic (big_number 2 (drop 4 b)) (big_number 2 (drop 6 b)) n ++ pool_bytes t.constants ++ tail_bytes the_class ++ rest) is_count in
      all.parts ∙ named ∙ counted

  the_class_fits : FitsClassFile the_class
  the_class_fits =
      let front = head_front b fits head.long in
      let tail = tail_takes new.rest rest t.takes.rest_fits behind_tail in
      record {
        minor = front.1;
        version = head.version;
        indexes = subst (λ (n : ℕ). n < 2 ^ 16) is_count front.2;
        constants = t.fits;
        flags = tail.flags;
        this_class = tail.this_class;
        super_class = tail.super_class;
        interfaces = tail.fits_interfaces;
        fields = tail.fits_fields;
        methods = tail.fits_methods;
        attributes = tail.fits_attributes;
      }

  whole_of : IsWhole b (None ∷ places) new.place rest
  whole_of =
      let here : IsClass b (None ∷ places) rest the_class = record { fits = the_class_fits; parts = whole_text; are_places = ap (λ (ps : List (Option ℕ)). None ∷ ps) t.are_places } in
      by_class b (None ∷ places) new.place rest (subst (λ (c : ClassFile). IsClass b (None ∷ places) rest c) (sym is_class) here)

  ends_pool : EndsPool b new
  ends_pool = record { end = let long = head.long in omega (arith, t.end, length-drop 10 b); rest = sym at_tail }

front_ok : (front : List (Option ℕ)) (read : Result (List (Option ℕ) × Reading) ParseError) (found : List (Option ℕ) × Reading) → with_front front read ≡ Ok found
    → (x : List (Option ℕ) × Reading) × (read ≡ Ok x) × ◌≡◌ {A = List (Option ℕ) × Reading} (front ++ x.0, x.1) found
front_ok front (Ok x) found e = (x, refl, ok_is _ found e)
front_ok front (Err d) found e = absurd cc

pub whole_takes : (b : List ℕ) (pool : List (Option ℕ) × Reading) (rest : List ℕ) → IsBytes b → HasHead b
    → pool_at (big_number 2 (drop 8 b)) (record { place = 10; rest = drop 10 b }) ≡ Ok pool → after_tail pool.1.rest ≡ Some rest
    → IsWhole b pool.0 pool.1.place rest × EndsPool b pool.1
whole_takes b pool rest fits head read behind_tail =
    let count = big_number 2 (drop 8 b) - 1 in
    let old : Reading = record { place = 10; rest = drop 10 b } in
    let w = front_ok (None ∷ []) (entries_from count false old) pool read in
    let t = pool_take count old w.0 (IsBytes-drop 10 b fits) w.1 in
    let same : w.0.1 ≡ pool.1 = ap (λ (p : List (Option ℕ) × Reading). p.1) w.2 in
    let left : after_tail w.0.1.rest ≡ Some rest = subst (λ (r : Reading). after_tail r.rest ≡ Some rest) (sym same) behind_tail in
    subst (λ (p : List (Option ℕ) × Reading). IsWhole b p.0 p.1.place rest × EndsPool b p.1) w.2 (whole_of b fits head w.0.0 w.0.1 rest t left, ends_pool b fits head w.0.0 w.0.1 rest t left)

-- ---- what was spelled is read again

pub record IsWholeAgain (c : ClassFile) (rest : List ℕ) : Type 0 where
  pub head : HasHead (layout c ++ rest)
  pub pool : pool_at (big_number 2 (drop 8 (layout c ++ rest))) (record { place = 10; rest = drop 10 (layout c ++ rest) }) ≡ Ok (None ∷ places_of 10 c.constants, record { place = 10 + length (pool_bytes c.constants); rest = tail_bytes c ++ rest })
  pub behind_ten : drop 10 (layout c ++ rest) ≡ pool_bytes c.constants ++ (tail_bytes c ++ rest)
  pub tail : after_tail (tail_bytes c ++ rest) ≡ Some rest
  pub same : class_value (layout c ++ rest) (None ∷ places_of 10 c.constants) (10 + length (pool_bytes c.constants)) ≡ c

three_grouped : (a b c rest : List ℕ) → ((a ++ b) ++ c) ++ rest ≡ a ++ (b ++ (c ++ rest))
three_grouped a b c rest = simp append_assoc

major_fits : (major minor : ℕ) → IsAcceptedVersion major minor → major < 2 ^ 16
major_fits major minor h = elim h [ inl e ↦ omega arith | inr e ↦ omega arith ]

module _ (c : ClassFile) (rest : List ℕ) (fits : FitsClassFile c) where
  abbrev count : ℕ
  count = 1 + all_slots c.constants

  abbrev behind_pool : List ℕ
  behind_pool = tail_bytes c ++ rest

  abbrev behind_head : List ℕ
  behind_head = pool_bytes c.constants ++ behind_pool

  abbrev text : List ℕ
  text = head_of magic c.minor c.major count ++ behind_head

  regrouped : layout c ++ rest ≡ text
  unfolding layout
  regrouped = three_grouped (head_of magic c.minor c.major count) (pool_bytes c.constants) (tail_bytes c) rest

  the_head : IsHeadAgain magic c.minor c.major count behind_head
  the_head = head_again magic c.minor c.major count behind_head (omega arith) fits.minor (major_fits c.major c.minor fits.version) fits.indexes

  good : HasHead text
  good = record {
    long = the_head.long;
    is_magic = the_head.is_magic;
    version = subst (λ (n : ℕ). IsAcceptedVersion n (big_number 2 (drop 4 text))) (sym the_head.is_major) (subst (λ (n : ℕ). IsAcceptedVersion c.major n) (sym the_head.is_minor) fits.version);
    count = λ none. absurd (let some : count ≡ 0 = sym the_head.is_count ∙ none in omega arith);
  }

  the_pool : pool_at (big_number 2 (drop 8 text)) (record { place = 10; rest = drop 10 text }) ≡ Ok (None ∷ places_of 10 c.constants, record { place = 10 + length (pool_bytes c.constants); rest = behind_pool })
  unfolding entries_from
  the_pool =
      let places = places_of 10 c.constants in
      let filled : count - 1 ≡ all_slots c.constants + 0 = omega arith in
      let last : Reading = record { place = 10 + length (pool_bytes c.constants); rest = behind_pool } in
      ap (λ (n : ℕ). pool_at n (record { place = 10; rest = drop 10 text })) the_head.is_count
      ∙ ap (λ (xs : List ℕ). pool_at count (record { place = 10; rest = xs })) the_head.behind_all
      ∙ ap (λ (n : ℕ). with_front (None ∷ []) (entries_from n false (record { place = 10; rest = behind_head }))) filled
      ∙ ap (λ r. with_front (None ∷ []) r) (entries_front c.constants 0 10 behind_pool fits.constants)
      ∙ ap (λ (ps : List (Option ℕ)). Ok (None ∷ ps, last)) (append-nil places)

  fits_tail : FitsTail c
  fits_tail = record { flags = fits.flags; this_class = fits.this_class; super_class = fits.super_class; interfaces = fits.interfaces; fields = fits.fields; methods = fits.methods; attributes = fits.attributes }

  the_same : class_value text (None ∷ places_of 10 c.constants) (10 + length (pool_bytes c.constants)) ≡ c
  unfolding class_value
  the_same =
      let constants : constants_at text (places_of 10 c.constants) ≡ c.constants = constants_again c.constants 10 text behind_pool fits.constants the_head.behind_all in
      let tail : drop (10 + length (pool_bytes c.constants)) text ≡ behind_pool =
      sym (drop-drop (length (pool_bytes c.constants)) 10 text) ∙ ap (drop (length (pool_bytes c.constants))) the_head.behind_all ∙ drop_at (pool_bytes c.constants) behind_pool (length (pool_bytes c.constants)) refl in
      ap (λ (n : ℕ). class_with n (big_number 2 (drop 6 text)) (constants_at text (places_of 10 c.constants)) (drop (10 + length (pool_bytes c.constants)) text)) the_head.is_minor
      ∙ ap (λ (n : ℕ). class_with c.minor n (constants_at text (places_of 10 c.constants)) (drop (10 + length (pool_bytes c.constants)) text)) the_head.is_major
      ∙ same_with c.minor c.major constants tail ∙ (tail_again c rest fits_tail).same

  pub whole_again : IsWholeAgain c rest
  whole_again = record {
    head = subst (λ (b : List ℕ). HasHead b) (sym regrouped) good;
    pool = ap (λ (b : List ℕ). pool_at (big_number 2 (drop 8 b)) (record { place = 10; rest = drop 10 b })) regrouped ∙ the_pool;
    behind_ten = ap (drop 10) regrouped ∙ the_head.behind_all;
    tail = (tail_again c rest fits_tail).left;
    same = ap (λ (b : List ℕ). class_value b (None ∷ places_of 10 c.constants) (10 + length (pool_bytes c.constants))) regrouped ∙ the_same;
  }
