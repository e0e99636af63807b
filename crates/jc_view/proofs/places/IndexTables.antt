-- Tables of indexes and of bootstrap methods.
use Rattle.std.proofs.Common.{◌≡◌, ◌∙◌, ℕ, suc, ◌+◌, ◌-◌, ◌<◌, ◌≤◌, Bool, true, false, ◌&&◌, List, [], Option, Some, drop, unwrap_or, IsSome, refl, ap, sym, arith}
use Rattle.std.specs.List.{list_all}
use Rattle.jc_base.specs.Cursor.{Reading, past}
use Rattle.jc_base.specs.Endian.{big_number}
use Rattle.jc_view.specs.declared.entries.Entries.{Entries}
use Rattle.jc_view.specs.Reading.{after, after_each, each_value, after_indexes}
use Rattle.jc_view.specs.inside.Tables.{IsWhole}
use Rattle.jc_view.proofs.reading.BigEndian.{after_some, then_some}
use Rattle.jc_view.proofs.reading.Tables.{indexes_are}

is_there : {A : Type 0} (o : Option A) (x : A) → o ≡ Some x → IsSome o
is_there o x e = rw e refl

pub indexes_whole : (old : Reading) (t : Entries) (rest : List ℕ) → after_indexes old.rest ≡ Some rest → t.left ≡ big_number 2 old.rest → t.cursor ≡ past 2 old → IsWhole (after 2) t
indexes_whole old t rest e count at =
    let b = then_some (after 2 old.rest) (after_each (after 2) (big_number 2 old.rest)) rest (sym (indexes_are old.rest) ∙ e) in
    let behind : b.0 ≡ drop 2 old.rest = sym (after_some 2 old.rest b.0 b.1).left in
    let here : t.cursor.rest ≡ drop 2 old.rest = ap (λ r. r.rest) at in
    let whole : after_each (after 2) t.left t.cursor.rest ≡ Some rest = rw (count, here, ← behind) b.2 in
    is_there (after_each (after 2) t.left t.cursor.rest) rest whole

-- ---- whether all entries pass, as a loop goes over them

and_assoc : (a b d : Bool) → (a && b) && d ≡ a && (b && d)
and_assoc true b d = refl
and_assoc false b d = refl

pub all_more : {X : Type 0} (one : List ℕ → Option (List ℕ)) (value : List ℕ → X) (test : X → Bool) (count i : ℕ) (xs ys : List ℕ) (so_far here total : Bool) → i < count → one xs ≡ Some ys → here ≡ test (value xs)
    → so_far && list_all test (each_value one value (count - i) xs) ≡ total → (so_far && here) && list_all test (each_value one value (count - (i + 1)) ys) ≡ total
unfolding each_value
all_more one value test count i xs ys so_far here total lt is_next decides e =
    let k : count - i ≡ suc (count - (i + 1)) = omega arith in
    let behind : unwrap_or (one xs) [] ≡ ys = ap (λ (o : Option (List ℕ)). unwrap_or o []) is_next in
    let step : list_all test (each_value one value (count - i) xs) ≡ here && list_all test (each_value one value (count - (i + 1)) ys) =
    ap (λ n. list_all test (each_value one value n xs)) k
    ∙ ap (λ zs. test (value xs) && list_all test (each_value one value (count - (i + 1)) zs)) behind
    ∙ ap (λ b. b && list_all test (each_value one value (count - (i + 1)) ys)) (sym decides) in
    and_assoc so_far here (list_all test (each_value one value (count - (i + 1)) ys)) ∙ ap (λ b. so_far && b) (sym step) ∙ e

and_true : (a : Bool) → a && true ≡ a
and_true true = refl
and_true false = refl

pub all_done : {X : Type 0} (one : List ℕ → Option (List ℕ)) (value : List ℕ → X) (test : X → Bool) (count i : ℕ) (xs : List ℕ) (so_far total : Bool) → count ≤ i
    → so_far && list_all test (each_value one value (count - i) xs) ≡ total → so_far ≡ total
unfolding each_value
all_done one value test count i xs so_far total le e =
    let k : count - i ≡ 0 = omega arith in
    sym (and_true so_far) ∙ ap (λ n. so_far && list_all test (each_value one value n xs)) (sym k) ∙ e
