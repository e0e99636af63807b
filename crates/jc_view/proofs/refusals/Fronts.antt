-- Bytes that begin with a class file.
use Rattle.std.proofs.Common.{◌≡◌, ◌≢◌, ℕ, ◌+◌, ◌⊎◌, List, [], ◌∷◌, ◌++◌, length, drop, Option, Some, None, Ok, Err, refl, sym, ap, ◌∙◌, arith, inl, inr, length-append, eq-eqb}
use Rattle.std.proofs.lemmas.Bool.{cases_eq, ne_eqb}
use Rattle.std.proofs.lemmas.List.{take-append-drop, length-drop}
use Rattle.jc_base.specs.Cursor.{Reading}
use Rattle.jc_base.specs.Endian.{big_number}
use Rattle.jc_view.specs.declared.parse_error.ParseError.TheVariants as errors
use Rattle.jc_view.specs.ClassFile.{ClassFile, layout, tail_bytes, FitsClassFile}
use Rattle.jc_view.specs.Places.{places_of}
use Rattle.jc_view.specs.Reading.{moved_to, pool_at, after_tail, numbers_value, last_at, PartsRead, parts_at}
use Rattle.jc_view.specs.Refusal.{Applies, HasHead}
use Rattle.jc_view.proofs.reading.Pools.{pool_bytes}
use Rattle.jc_view.proofs.reading.Heads.{start, good_head}
use Rattle.jc_view.proofs.reading.ClassFiles.{IsWholeAgain, whole_again}

abbrev pub old_pool : List ℕ → Reading
old_pool b = record { place = 10; rest = drop 10 b }

abbrev pub count_in : List ℕ → ℕ
count_in b = big_number 2 (drop 8 b)

abbrev pub parts_of : List (Option ℕ) × Reading → PartsRead
parts_of pool = record { places = pool.0; tail = pool.1.place; numbers = numbers_value pool.1.rest }

module _ (b : List ℕ) (pool : List (Option ℕ) × Reading) (rest : List ℕ) (head : HasHead b) (read : pool_at (count_in b) (old_pool b) ≡ Ok pool) (behind : after_tail pool.1.rest ≡ Some rest) where
  at_end : length rest ≡ 0 → parts_at (start b) ≡ Ok (parts_of pool, moved_to pool.1 rest)
  unfolding parts_at last_at
  at_end none = rw (good_head b head, read, behind, eq-eqb _ _ none) refl

  not_at_end : length rest ≢ 0 → parts_at (start b) ≡ Err (errors.Trailing (moved_to pool.1 rest).place)
  unfolding parts_at last_at
  not_at_end some = rw (good_head b head, read, behind, ne_eqb _ _ some) refl

-- ---- bytes that begin with a class file

module _ (c : ClassFile) (rest : List ℕ) (fits : FitsClassFile c) where
  text : List ℕ
  text = layout c ++ rest

  pool_of : List (Option ℕ) × Reading
  pool_of = (None ∷ places_of 10 c.constants, record { place = 10 + length (pool_bytes c.constants); rest = tail_bytes c ++ rest })

  again : IsWholeAgain c rest
  again = whole_again c rest fits

  pool_read : pool_at (count_in text) (old_pool text) ≡ Ok pool_of
  unfolding text pool_of
  pool_read = again.pool

  tail_read : after_tail pool_of.1.rest ≡ Some rest
  unfolding pool_of
  tail_read = again.tail

  good_text : HasHead text
  unfolding text
  good_text = again.head

  end_place : (moved_to pool_of.1 rest).place ≡ length (layout c)
  unfolding pool_of
  end_place =
      let behind = ap length again.behind_ten in
      let long = again.head.long in
      omega (arith, length-drop 10 (layout c ++ rest), behind, long, length-append (layout c) rest, length-append (pool_bytes c.constants) (tail_bytes c ++ rest), length-append (tail_bytes c) rest)

  class_again : length rest ≡ 0 → parts_at (start text) ≡ Ok (parts_of pool_of, moved_to pool_of.1 rest)
  class_again none = at_end text pool_of rest good_text pool_read tail_read none

  more_follow : length rest ≢ 0 → parts_at (start text) ≡ Err (errors.Trailing (length (layout c)))
  more_follow some = not_at_end text pool_of rest good_text pool_read tail_read some ∙ ap (λ (n : ℕ). Err (errors.Trailing n)) end_place

pub follow : (c : ClassFile) (rest : List ℕ) → FitsClassFile c → length rest ≢ 0 → parts_at (start (layout c ++ rest)) ≡ Err (errors.Trailing (length (layout c)))
unfolding text
follow c rest fits some = more_follow c rest fits some

-- bytes that begin with a class file are one, or have more behind it
pub begins : (c : ClassFile) (rest : List ℕ) → FitsClassFile c → ((found : PartsRead × Reading) × (parts_at (start (layout c ++ rest)) ≡ Ok found)) ⊎ (parts_at (start (layout c ++ rest)) ≡ Err (errors.Trailing (length (layout c))))
unfolding text
begins c rest fits =
    elim (cases_eq (length rest) 0) [
      | inl none ↦ inl ((parts_of (pool_of c rest fits), moved_to (pool_of c rest fits).1 rest), class_again c rest fits none)
      | inr some ↦ inr (more_follow c rest fits some)
    ]

-- bytes that are too short begin with no class file
pub no_front : (b : List ℕ) → parts_at (start b) ≡ Err errors.Short → Applies errors.Short b
no_front b e at c here =
    let split : layout c ++ drop at b ≡ b = ap (λ (xs : List ℕ). xs ++ drop at b) here.bytes ∙ take-append-drop at b in
    elim (begins c (drop at b) here.fits) [
      | inl ok ↦ let impossible = sym ok.1 ∙ ap (λ (xs : List ℕ). parts_at (start xs)) split ∙ e in cc
      | inr more ↦ let impossible = sym more ∙ ap (λ (xs : List ℕ). parts_at (start xs)) split ∙ e in cc
    ]

-- a class file's own bytes are gone over to their end
pub read_again : (c : ClassFile) → FitsClassFile c → (new : Reading) × (parts_at (start (layout c ++ [])) ≡ Ok (record { places = None ∷ places_of 10 c.constants; tail = 10 + length (pool_bytes c.constants); numbers = numbers_value (tail_bytes c ++ []) }, new))
unfolding text pool_of
read_again c fits = (moved_to (pool_of c [] fits).1 [], class_again c [] fits refl)
