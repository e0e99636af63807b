-- Numbers at the front of bytes, and the bytes behind them.
use Rattle.std.proofs.Common.{◌≡◌, ℕ, ◌+◌, ◌^◌, ◌<◌, ◌≤◌, List, [], ◌∷◌, ◌++◌, length, get_or, take, drop, Option, Some, None, option_and_then, refl, sym, ap, subst, ◌∙◌, append_assoc, arith, inl, inr}
use Rattle.std.proofs.lemmas.Bool.{cases_lt, le-ltb, lt-ltb}
use Rattle.std.proofs.lemmas.List.{take_at, drop_at, take-append-drop, length-append, length-take, length-drop, get_or-drop, get_or-take, get_or_past, drop-drop}
use Rattle.std.proofs.lemmas.Nat.{be_bytes_2, be_bytes_4, be_bytes_8}
use Rattle.std.proofs.lemmas.Option.{same_Some}
use Rattle.jc_base.specs.Endian.{big_bytes, big_number}
use Rattle.jc_base.proofs.Numbers.{big_number-reads_back, big_from-lt, big_from-take, length-bytes_high_first}
use Rattle.jc_view.specs.Reading.{after, after_sized, sized_value}

abbrev pub IsBytes : List ℕ → Type 0
IsBytes bytes = (i : ℕ) → get_or bytes i 0 < 256

pub IsBytes-drop : (n : ℕ) (bytes : List ℕ) → IsBytes bytes → IsBytes (drop n bytes)
IsBytes-drop n bytes h i = rw get_or-drop (h (n + i))

pub IsBytes-take : (n : ℕ) (bytes : List ℕ) → IsBytes bytes → IsBytes (take n bytes)
IsBytes-take n bytes h i =
    elim (cases_lt i n) [
      | inl lt ↦ rw (get_or-take n bytes i 0 lt) (h i)
      | inr le ↦ rw (get_or_past (take n bytes) i 0 (omega (arith, length-take n bytes))) (omega arith)
    ]

-- ---- what is left behind n bytes

-- n bytes are there
pub record HasFront (n : ℕ) (xs rest : List ℕ) : Type 0 where
  pub long : n ≤ length xs
  pub left : drop n xs ≡ rest

pub after_some : (n : ℕ) (xs rest : List ℕ) → after n xs ≡ Some rest → HasFront n xs rest
after_some n xs rest e =
    elim (cases_lt (length xs) n) [
      | inl lt ↦ absurd (let short : after n xs ≡ None = rw (lt-ltb _ _ lt) refl in cc)
      | inr le ↦ let fits : after n xs ≡ Some (drop n xs) = rw (le-ltb _ _ le) refl in record { long = le; left = same_Some _ _ (sym fits ∙ e) }
    ]

pub after_front : (n : ℕ) (xs : List ℕ) → n ≤ length xs → after n xs ≡ Some (drop n xs)
after_front n xs le = rw (le-ltb _ _ le) refl

pub after_text : (text rest : List ℕ) (n : ℕ) → length text ≡ n → after n (text ++ rest) ≡ Some rest
after_text text rest n e =
    let long : n ≤ length (text ++ rest) = omega (arith, length-append text rest) in
    after_front n (text ++ rest) long ∙ ap (λ (r : List ℕ). Some r) (drop_at text rest n e)

-- ---- numbers

-- n bytes and the number that they stand for give each other
pub record IsWidth (n : ℕ) : Type 0 where
  pub back : (bytes : List ℕ) → length bytes ≡ n → IsBytes bytes → big_bytes n (big_number n bytes) ≡ bytes

one_byte : (bytes : List ℕ) → length bytes ≡ 1 → IsBytes bytes → big_bytes 1 (big_number 1 bytes) ≡ bytes
one_byte [] e h = absurd (omega arith)
one_byte (x ∷ []) e h = let lt = h 0 in ap (λ (y : ℕ). y ∷ []) (omega arith)
one_byte (x ∷ y ∷ xs) e h = absurd (omega arith)

pub width1 : IsWidth 1
width1 = record { back = one_byte }

pub width2 : IsWidth 2
width2 = record { back = λ bytes e h. be_bytes_2 bytes (big_number 2 bytes) e h (omega arith) }

pub width4 : IsWidth 4
width4 = record { back = λ bytes e h. be_bytes_4 bytes (big_number 4 bytes) e h (omega arith) }

pub width8 : IsWidth 8
width8 = record { back = λ bytes e h. be_bytes_8 bytes (big_number 8 bytes) e h (omega arith) }

-- the first n bytes are those of their number
pub number_front : (n : ℕ) → IsWidth n → (xs : List ℕ) → IsBytes xs → n ≤ length xs → big_bytes n (big_number n xs) ≡ take n xs
number_front n width xs h le =
    ap (big_bytes n) (sym (big_from-take 0 n n xs (omega arith))) ∙ width.back (take n xs) (omega (arith, length-take n xs)) (IsBytes-take n xs h)

pub number_again : (n x : ℕ) (rest : List ℕ) → x < 256 ^ n → big_number n (big_bytes n x ++ rest) ≡ x
number_again n x rest lt = big_number-reads_back n x rest lt

pub number_fits : (n : ℕ) (xs : List ℕ) → IsBytes xs → big_number n xs < 256 ^ n
number_fits n xs h = big_from-lt 0 n xs h

pub length-big_bytes : (n x : ℕ) → length (big_bytes n x) ≡ n
length-big_bytes n x = length-bytes_high_first n x

-- ---- texts

-- the bytes are a text and a rest
pub record Takes (bytes text rest : List ℕ) : Type 0 where
  pub parts : bytes ≡ text ++ rest
  pub rest_fits : IsBytes rest

pub Takes-then : (a x b y c : List ℕ) → Takes a x b → Takes b y c → Takes a (x ++ y) c
Takes-then a x b y c p q = record { parts = p.parts ∙ ap (λ (t : List ℕ). x ++ t) q.parts ∙ sym (append_assoc x y c); rest_fits = q.rest_fits }

pub takes_front : (n : ℕ) (xs rest : List ℕ) → IsBytes xs → after n xs ≡ Some rest → Takes xs (take n xs) rest × (length (take n xs) ≡ n)
takes_front n xs rest fits e =
    let f = after_some n xs rest e in
    (record { parts = rw (← f.left) (sym (take-append-drop n xs)); rest_fits = rw (← f.left) (IsBytes-drop n xs fits) }, let le = f.long in omega (arith, length-take n xs))

pub takes_number : (n : ℕ) → IsWidth n → (xs rest : List ℕ) → IsBytes xs → after n xs ≡ Some rest → Takes xs (big_bytes n (big_number n xs)) rest × (big_number n xs < 256 ^ n)
takes_number n width xs rest fits e =
    let f = after_some n xs rest e in
    let front = (takes_front n xs rest fits e).0 in
    (rw (number_front n width xs fits f.long) front, number_fits n xs fits)

pub again_number : (n x : ℕ) (rest : List ℕ) → x < 256 ^ n → (after n (big_bytes n x ++ rest) ≡ Some rest) × (big_number n (big_bytes n x ++ rest) ≡ x)
again_number n x rest lt = (after_text (big_bytes n x) rest n (length-big_bytes n x), number_again n x rest lt)

-- behind m and then n bytes
pub after_both : (m n : ℕ) (xs rest : List ℕ) → after (m + n) xs ≡ Some rest → (after m xs ≡ Some (drop m xs)) × (after n (drop m xs) ≡ Some rest)
after_both m n xs rest e =
    let f = after_some (m + n) xs rest e in
    let le = f.long in
    (after_front m xs (omega arith), after_front n (drop m xs) (omega (arith, length-drop m xs)) ∙ ap (λ (r : List ℕ). Some r) (drop-drop n m xs ∙ f.left))

pub takes_two : (m n : ℕ) → IsWidth m → IsWidth n → (xs rest : List ℕ) → IsBytes xs → after (m + n) xs ≡ Some rest
    → Takes xs (big_bytes m (big_number m xs) ++ big_bytes n (big_number n (drop m xs))) rest × (big_number m xs < 256 ^ m) × (big_number n (drop m xs) < 256 ^ n)
takes_two m n first second xs rest fits e =
    let b = after_both m n xs rest e in
    let x = takes_number m first xs (drop m xs) fits b.0 in
    let y = takes_number n second (drop m xs) rest x.0.rest_fits b.1 in
    (Takes-then xs (big_bytes m (big_number m xs)) (drop m xs) (big_bytes n (big_number n (drop m xs))) rest x.0 y.0, x.1, y.1)

pub again_two : (m n x y : ℕ) (rest : List ℕ) → x < 256 ^ m → y < 256 ^ n
    → (after (m + n) ((big_bytes m x ++ big_bytes n y) ++ rest) ≡ Some rest) × (big_number m ((big_bytes m x ++ big_bytes n y) ++ rest) ≡ x) × (big_number n (drop m ((big_bytes m x ++ big_bytes n y) ++ rest)) ≡ y)
again_two m n x y rest lt_x lt_y =
    let regrouped : (big_bytes m x ++ big_bytes n y) ++ rest ≡ big_bytes m x ++ (big_bytes n y ++ rest) = append_assoc (big_bytes m x) (big_bytes n y) rest in (
      after_text (big_bytes m x ++ big_bytes n y) rest (m + n) (omega (arith, length-append (big_bytes m x) (big_bytes n y), length-big_bytes m x, length-big_bytes n y)),
      ap (big_number m) regrouped ∙ number_again m x (big_bytes n y ++ rest) lt_x,
      ap (λ (t : List ℕ). big_number n (drop m t)) regrouped ∙ ap (big_number n) (drop_at (big_bytes m x) (big_bytes n y ++ rest) m (length-big_bytes m x)) ∙ number_again n y rest lt_y,
    )

-- ---- a step that was taken

pub then_some : {A B : Type 0} (o : Option A) (f : A → Option B) (y : B) → option_and_then f o ≡ Some y → (x : A) × (o ≡ Some x) × (f x ≡ Some y)
then_some None f y e = absurd cc
then_some (Some x) f y e = (x, refl, e)

-- ---- a text behind its length

abbrev pub sized_bytes : ℕ → List ℕ → List ℕ
sized_bytes n text = big_bytes n (length text) ++ text

pub takes_sized : (n : ℕ) → IsWidth n → (xs rest : List ℕ) → IsBytes xs → after_sized n xs ≡ Some rest → Takes xs (sized_bytes n (sized_value n xs)) rest × (length (sized_value n xs) < 256 ^ n)
takes_sized n width xs rest fits e =
    let b = then_some (after n xs) (after (big_number n xs)) rest e in
    let here : drop n xs ≡ b.0 = (after_some n xs b.0 b.1).left in
    let size = takes_number n width xs b.0 fits b.1 in
    let text = takes_front (big_number n xs) b.0 rest size.0.rest_fits b.2 in
    let len : length (sized_value n xs) ≡ big_number n xs = rw here text.1 in
    let whole : Takes xs (big_bytes n (big_number n xs) ++ take (big_number n xs) b.0) rest = Takes-then xs (big_bytes n (big_number n xs)) b.0 (take (big_number n xs) b.0) rest size.0 text.0 in (
      subst (λ (k : ℕ). Takes xs (big_bytes n k ++ sized_value n xs) rest) (sym len) (subst (λ (ys : List ℕ). Takes xs (big_bytes n (big_number n xs) ++ take (big_number n xs) ys) rest) (sym here) whole),
      subst (λ (k : ℕ). k < 256 ^ n) (sym len) size.1,
    )

pub again_sized : (n : ℕ) (text rest : List ℕ) → length text < 256 ^ n → (after_sized n (sized_bytes n text ++ rest) ≡ Some rest) × (sized_value n (sized_bytes n text ++ rest) ≡ text)
again_sized n text rest lt =
    let regrouped : sized_bytes n text ++ rest ≡ big_bytes n (length text) ++ (text ++ rest) = append_assoc (big_bytes n (length text)) text rest in
    let size : big_number n (sized_bytes n text ++ rest) ≡ length text = ap (big_number n) regrouped ∙ number_again n (length text) (text ++ rest) lt in
    let behind : drop n (sized_bytes n text ++ rest) ≡ text ++ rest = ap (drop n) regrouped ∙ drop_at (big_bytes n (length text)) (text ++ rest) n (length-big_bytes n (length text)) in
    let head : after n (sized_bytes n text ++ rest) ≡ Some (text ++ rest) = ap (after n) regrouped ∙ after_text (big_bytes n (length text)) (text ++ rest) n (length-big_bytes n (length text)) in
    (rw (head, size) (after_text text rest (length text) refl), rw (size, behind) (take_at text rest (length text) refl))

-- ---- three numbers of two bytes

abbrev pub three_bytes : ℕ → ℕ → ℕ → List ℕ
three_bytes a b c = big_bytes 2 a ++ big_bytes 2 b ++ big_bytes 2 c

pub takes_three : (xs rest : List ℕ) → IsBytes xs → after 6 xs ≡ Some rest
    → Takes xs (three_bytes (big_number 2 xs) (big_number 2 (drop 2 xs)) (big_number 2 (drop 4 xs))) rest × (big_number 2 xs < 2 ^ 16) × (big_number 2 (drop 2 xs) < 2 ^ 16) × (big_number 2 (drop 4 xs) < 2 ^ 16)
takes_three xs rest fits e =
    let b = after_both 4 2 xs rest e in
    let x = takes_two 2 2 width2 width2 xs (drop 4 xs) fits b.0 in
    let y = takes_number 2 width2 (drop 4 xs) rest x.0.rest_fits b.1 in
    (Takes-then xs (big_bytes 2 (big_number 2 xs) ++ big_bytes 2 (big_number 2 (drop 2 xs))) (drop 4 xs) (big_bytes 2 (big_number 2 (drop 4 xs))) rest x.0 y.0, x.1, x.2, y.1)

pub record IsThree (a b c : ℕ) (rest : List ℕ) : Type 0 where
  pub left : after 6 (three_bytes a b c ++ rest) ≡ Some rest
  pub first : big_number 2 (three_bytes a b c ++ rest) ≡ a
  pub second : big_number 2 (drop 2 (three_bytes a b c ++ rest)) ≡ b
  pub third : big_number 2 (drop 4 (three_bytes a b c ++ rest)) ≡ c
  pub behind : drop 6 (three_bytes a b c ++ rest) ≡ rest

pub again_three : (a b c : ℕ) (rest : List ℕ) → a < 2 ^ 16 → b < 2 ^ 16 → c < 2 ^ 16 → IsThree a b c rest
again_three a b c rest lt_a lt_b lt_c =
    let two = big_bytes 2 a ++ big_bytes 2 b in
    let behind = big_bytes 2 c ++ rest in
    let regrouped : three_bytes a b c ++ rest ≡ two ++ behind = append_assoc two (big_bytes 2 c) rest in
    let pair = again_two 2 2 a b behind lt_a lt_b in
    let len : length (three_bytes a b c) ≡ 6 = omega (arith, length-append two (big_bytes 2 c), length-append (big_bytes 2 a) (big_bytes 2 b), length-big_bytes 2 a, length-big_bytes 2 b, length-big_bytes 2 c) in
    let len_two : length two ≡ 4 = omega (arith, length-append (big_bytes 2 a) (big_bytes 2 b), length-big_bytes 2 a, length-big_bytes 2 b) in
    record {
      left = after_text (three_bytes a b c) rest 6 len;
      first = ap (big_number 2) regrouped ∙ pair.1;
      second = ap (λ (t : List ℕ). big_number 2 (drop 2 t)) regrouped ∙ pair.2;
      third = ap (λ (t : List ℕ). big_number 2 (drop 4 t)) regrouped ∙ ap (big_number 2) (drop_at two behind 4 len_two) ∙ number_again 2 c rest lt_c;
      behind = drop_at (three_bytes a b c) rest 6 len;
    }
