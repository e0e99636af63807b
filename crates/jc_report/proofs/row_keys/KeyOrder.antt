-- Keys compare as rows do, and give them back.
use Rattle.std.proofs.Common.{◌≡◌, ◌∙◌, ℕ, ◌+◌, ◌-◌, ◌==◌, false, List, [], ◌∷◌, ◌++◌, drop, map, refl, ap, append_assoc, arith}
use Rattle.std.specs.Prelude.{if◌then◌else◌, slice_index_or}
use Rattle.std.specs.declared.cmp.Ordering.{Ordering}
use Rattle.std.specs.declared.cmp.Ordering.TheVariants.{Less, Equal, Greater}
use Rattle.std.specs.Ordering.{nat_cmp, ordering_then}
use Rattle.std.proofs.lemmas.Bool.{cond-false}
use Rattle.std.proofs.lemmas.Bool.Decides.{nat_tests}
use Rattle.jc_base.specs.Bytes.{bytes_cmp}
use Rattle.jc_report.specs.RowKeys.{raised, row_key}
use Rattle.jc_report.specs.Rows.{Row, kind_number, row_cmp}
use Rattle.jc_report.proofs.rows.RowOrder.{kind_back, kind_of}

-- ---- the row of a key

-- what stands before the first 0, each number one less
abbrev before_zero : List ℕ → List ℕ
before_zero [] = []
before_zero (b ∷ bs) = if b == 0 then [] else (b - 1) ∷ before_zero bs

-- what stands behind it
abbrev after_zero : List ℕ → List ℕ
after_zero [] = []
after_zero (b ∷ bs) = if b == 0 then bs else after_zero bs

-- each number one less
abbrev lowered : List ℕ → List ℕ
lowered bytes = map (λ b. b - 1) bytes

-- the row of a class and of what stands behind it
abbrev row_by : List ℕ → List ℕ → Row
row_by class rest = record { class = class; kind = kind_of (slice_index_or rest 0 0); key = record { name = before_zero (drop 1 rest); descriptor = lowered (after_zero (drop 1 rest)) } }

abbrev pub row_of : List ℕ → Row
row_of key = row_by (before_zero key) (after_zero key)

-- ---- a key gives its row back

one_back : (b : ℕ) → (b + 1) - 1 ≡ b
one_back b = omega arith

above_zero : (b : ℕ) → ((b + 1) == 0) ≡ false
above_zero b = grind (arith, nat_tests)

lowered_back : (x : List ℕ) → lowered (raised x) ≡ x
lowered_back [] = refl
lowered_back (b ∷ x) = (λ i. one_back b i ∷ lowered_back x i)

before_key : (x s : List ℕ) → before_zero (raised x ++ 0 ∷ s) ≡ x
before_key [] s = refl
before_key (b ∷ x) s =
    cond-false ((b + 1) == 0) [] (((b + 1) - 1) ∷ before_zero (raised x ++ 0 ∷ s)) (above_zero b)
    ∙ (λ i. one_back b i ∷ before_key x s i)

after_key : (x s : List ℕ) → after_zero (raised x ++ 0 ∷ s) ≡ s
after_key [] s = refl
after_key (b ∷ x) s = cond-false ((b + 1) == 0) (raised x ++ 0 ∷ s) (after_zero (raised x ++ 0 ∷ s)) (above_zero b) ∙ after_key x s

-- what stands in a key behind the class and its 0
abbrev behind_class : Row → List ℕ
behind_class a = kind_number a.kind ∷ (raised a.key.name ++ 0 ∷ raised a.key.descriptor)

key_is : (a : Row) → row_key a ≡ raised a.class ++ 0 ∷ behind_class a
key_is a = append_assoc (raised a.class) (0 ∷ kind_number a.kind ∷ raised a.key.name) (0 ∷ raised a.key.descriptor)

parts_back : (a : Row) → row_by a.class (behind_class a) ≡ a
parts_back a =
    let kind = kind_back a.kind in
    let name = before_key a.key.name (raised a.key.descriptor) in
    let descriptor = ap lowered (after_key a.key.name (raised a.key.descriptor)) ∙ lowered_back a.key.descriptor in
    λ i. record { class = a.class; kind = kind i; key = record { name = name i; descriptor = descriptor i } }

pub row_back : (a : Row) → row_of (row_key a) ≡ a
row_back a =
    let class = before_key a.class (behind_class a) in
    let rest = after_key a.class (behind_class a) in
    ap row_of (key_is a) ∙ (λ i. row_by (class i) (rest i)) ∙ parts_back a

-- ---- keys compare as rows do

then_then : (o p q : Ordering) → ordering_then o (ordering_then p q) ≡ ordering_then (ordering_then o p) q
then_then Less p q = refl
then_then Equal p q = refl
then_then Greater p q = refl

zero_first : (c : ℕ) → nat_cmp 0 (c + 1) ≡ Less
zero_first c = grind (arith, nat_tests)

zero_last : (b : ℕ) → nat_cmp (b + 1) 0 ≡ Greater
zero_last b = grind (arith, nat_tests)

same_raised : (b c : ℕ) → nat_cmp (b + 1) (c + 1) ≡ nat_cmp b c
same_raised b c = grind (arith, nat_tests)

compare_raised : (x y : List ℕ) → bytes_cmp (raised x) (raised y) ≡ bytes_cmp x y
compare_raised [] [] = refl
compare_raised [] (c ∷ y) = refl
compare_raised (b ∷ x) [] = refl
compare_raised (b ∷ x) (c ∷ y) = (λ i. ordering_then (same_raised b c i) (compare_raised x y i))

-- a 0 ends a raised text, so what stands behind it tells only where the texts are equal
compare_ended : (x y s t : List ℕ) → bytes_cmp (raised x ++ 0 ∷ s) (raised y ++ 0 ∷ t) ≡ ordering_then (bytes_cmp x y) (bytes_cmp s t)
compare_ended [] [] s t = refl
compare_ended [] (c ∷ y) s t = ap (λ o. ordering_then o (bytes_cmp s (raised y ++ 0 ∷ t))) (zero_first c)
compare_ended (b ∷ x) [] s t = ap (λ o. ordering_then o (bytes_cmp (raised x ++ 0 ∷ s) t)) (zero_last b)
compare_ended (b ∷ x) (c ∷ y) s t =
    (λ i. ordering_then (same_raised b c i) (compare_ended x y s t i))
    ∙ then_then (nat_cmp b c) (bytes_cmp x y) (bytes_cmp s t)

pub key_order : (a b : Row) → bytes_cmp (row_key a) (row_key b) ≡ row_cmp a b
key_order a b =
    (λ i. bytes_cmp (key_is a i) (key_is b i))
    ∙ compare_ended a.class b.class (behind_class a) (behind_class b)
    ∙ ap (λ o. ordering_then (bytes_cmp a.class b.class) (ordering_then (nat_cmp (kind_number a.kind) (kind_number b.kind)) o))
    (compare_ended a.key.name b.key.name (raised a.key.descriptor) (raised b.key.descriptor)
    ∙ ap (ordering_then (bytes_cmp a.key.name b.key.name)) (compare_raised a.key.descriptor b.key.descriptor))
