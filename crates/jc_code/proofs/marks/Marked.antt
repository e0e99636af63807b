-- The offsets that are marked.
use Rattle.std.proofs.Common.{set, subst, nat_lt, ◌⊎◌, inl, inr, append-nil, length-append, ◌≡◌, ℕ, zero, suc, ◌+◌, ◌-◌, ◌<◌, ◌≤◌, Bool, true, false, cond, ◌||◌, eqb, List, [], ◌∷◌, ◌++◌, length, replicate, refl, sym, ap, ◌∙◌, arith, slice_index_or, append_assoc}
use Rattle.std.specs.List.{list_any}
use Rattle.std.proofs.lemmas.Bool.{ne_eqb, eq-eqb, ltb-true, lt-ltb, cases_lt, false≢true}
use Rattle.std.proofs.lemmas.List.{length-replicate, get_or_default}
use Rattle.std.proofs.Math.ListN.{get_or-eq_default}
use Rattle.jc_view.proofs.places.RisingLists.{RisesBy, rises_bounds}
use Rattle.jc_code.specs.declared.insn.Insn.{Insn}
use Rattle.jc_code.specs.CodeFaults.{numbers_of}
use Rattle.jc_code.specs.Insns.{IsCode}
use Rattle.jc_code.specs.inside.Marks.{marked}
use Rattle.jc_code.proofs.orders.InsnPlaces.{items_end, items_rise}

abbrev is : ℕ → ℕ → Bool
is place start = eqb start place

-- no number before the first is there
below : (marks : List Bool) (n place : ℕ) → place < n → list_any (is place) (numbers_of (λ mark. mark) n marks) ≡ false
below [] n place h = refl
below (true ∷ marks) n place h = ap (λ b. b || list_any (is place) (numbers_of (λ mark. mark) (n + 1) marks)) (ne_eqb n place (λ e. omega (arith, e, h))) ∙ below marks (n + 1) place (omega (arith, h))
below (false ∷ marks) n place h = below marks (n + 1) place (omega (arith, h))

-- a place is among them where its mark is set
from : (marks : List Bool) (n k place : ℕ) → place ≡ n + k → list_any (is place) (numbers_of (λ mark. mark) n marks) ≡ slice_index_or marks k false
from [] n k place e = refl
from (true ∷ marks) n zero place e = ap (λ b. b || list_any (is place) (numbers_of (λ mark. mark) (n + 1) marks)) (eq-eqb n place (omega (arith, e)))
from (false ∷ marks) n zero place e = below marks (n + 1) place (omega (arith, e))
from (true ∷ marks) n (suc k) place e =
    ap (λ b. b || list_any (is place) (numbers_of (λ mark. mark) (n + 1) marks)) (ne_eqb n place (λ same. omega (arith, e, same)))
    ∙ from marks (n + 1) k place (omega (arith, e))
from (false ∷ marks) n (suc k) place e = from marks (n + 1) k place (omega (arith, e))

pub mark_at : (marks : List Bool) (place : ℕ) → list_any (is place) (marked marks) ≡ slice_index_or marks place false
mark_at marks place = from marks 0 place place (omega arith)

-- ---- marks that are added

no_marks : (n k : ℕ) → numbers_of (λ mark. mark) n (replicate k false) ≡ []
no_marks n zero = refl
no_marks n (suc k) = no_marks (n + 1) k

added : (marks more : List Bool) (n : ℕ) → numbers_of (λ mark. mark) n (marks ++ more) ≡ numbers_of (λ mark. mark) n marks ++ numbers_of (λ mark. mark) (n + length marks) more
added [] more n = ap (λ m. numbers_of (λ mark. mark) m more) (omega arith)
added (mark ∷ marks) more n =
    ap (λ ns. cond mark (n ∷ []) [] ++ ns) (added marks more (n + 1) ∙ ap (λ m. numbers_of (λ b. b) (n + 1) marks ++ numbers_of (λ b. b) m more) (omega arith))
    ∙ sym (append_assoc (cond mark (n ∷ []) []) (numbers_of (λ b. b) (n + 1) marks) (numbers_of (λ b. b) (n + length (mark ∷ marks)) more))

-- unmarked offsets, and one that is marked
pub mark_more : (marks : List Bool) (k : ℕ) → marked ((marks ++ replicate k false) ++ true ∷ []) ≡ marked marks ++ (length marks + k) ∷ []
mark_more marks k =
    added (marks ++ replicate k false) (true ∷ []) 0
    ∙ ap (λ ns. ns ++ (0 + length (marks ++ replicate k false)) ∷ []) (added marks (replicate k false) 0 ∙ ap (λ ns. marked marks ++ ns) (no_marks (0 + length marks) k) ∙ append-nil (marked marks))
    ∙ ap (λ m. marked marks ++ m ∷ []) (let both = length-append marks (replicate k false) in let k_many = length-replicate k false in omega (arith, both, k_many))

pub mark_within : (marks : List Bool) (place : ℕ) (d : Bool) → true ≡ nat_lt place (length marks) → list_any (is place) (marked marks) ≡ slice_index_or marks place d
mark_within marks place d h = mark_at marks place ∙ get_or_default marks place false d (ltb-true place (length marks) (sym h))

is_past : (m n : ℕ) → false ≡ nat_lt m n → (m < n) ⊎ (n ≤ m) → n ≤ m
is_past m n h (inl less) = absurd (false≢true (h ∙ lt-ltb m n less))
is_past m n h (inr more) = more

pub mark_past : (marks : List Bool) (place : ℕ) → false ≡ nat_lt place (length marks) → list_any (is place) (marked marks) ≡ false
mark_past marks place h = mark_at marks place ∙ get_or-eq_default marks false (is_past place (length marks) h (cases_lt place (length marks)))

-- a mark that is set behind a front, among offsets that are not marked
set_behind : (front : List Bool) (d r k place : ℕ) → k ≡ d + (r + 1) → place ≡ length front + d → set (front ++ replicate k false) place true ≡ ((front ++ replicate d false) ++ true ∷ []) ++ replicate r false
set_behind [] zero r zero place e f = absurd (omega (arith, e))
set_behind [] zero r (suc k) zero e f = ap (λ m. true ∷ replicate m false) (omega (arith, e))
set_behind [] zero r (suc k) (suc place) e f = absurd (omega (arith, f))
set_behind [] (suc d) r zero place e f = absurd (omega (arith, e))
set_behind [] (suc d) r (suc k) zero e f = absurd (omega (arith, f))
set_behind [] (suc d) r (suc k) (suc place) e f = ap (λ marks. false ∷ marks) (set_behind [] d r k place (omega (arith, e)) (omega (arith, f)))
set_behind (mark ∷ front) d r k zero e f = absurd (omega (arith, f))
set_behind (mark ∷ front) d r k (suc place) e f = ap (λ marks. mark ∷ marks) (set_behind front d r k place e (omega (arith, f)))

-- what is marked is in a front, and no place that is left lies before its end
pub record IsMarked (marks : List Bool) (size end : ℕ) (left : List (ℕ × Insn)) : Type 0 where
  pub front : List Bool
  pub behind : ℕ
  pub joined : marks ≡ front ++ replicate behind false
  pub long : length front + behind ≡ size
  pub rises : RisesBy (λ item. item.0) (length front) end left

only_front : (front : List Bool) (k : ℕ) → marked (front ++ replicate k false) ≡ marked front
only_front front k = added front (replicate k false) 0 ∙ ap (λ ns. marked front ++ ns) (no_marks (0 + length front) k) ∙ append-nil (marked front)

pub marks_long : {marks : List Bool} {size end : ℕ} {left : List (ℕ × Insn)} → IsMarked marks size end left → length marks ≡ size
marks_long is =
    ap length is.joined ∙ length-append is.front (replicate is.behind false) ∙ ap (λ n. length is.front + n) (length-replicate is.behind false) ∙ is.long

-- at first nothing is marked
pub marked_none : {marks : List Bool} (size : ℕ) → marks ≡ replicate size false → marked marks ≡ []
marked_none size e = ap marked e ∙ no_marks 0 size

pub none_marked : {marks : List Bool} {end : ℕ} (code : List ℕ) (items : List (ℕ × Insn)) → IsCode code items end → marks ≡ replicate (length code) false → IsMarked marks (length code) end items
none_marked {marks} {end} code items stand e = record {
  front = [];
  behind = length code;
  joined = e;
  long = omega arith;
  rises = items_rise code 0 end items stand;
}

-- the place that is left first lies in the code
pub place_within :
    {marks : List Bool} {end : ℕ} (code : List ℕ) (items left : List (ℕ × Insn)) (place : ℕ) (insn : Insn) (rest : List (ℕ × Insn))
    → IsCode code items end → left ≡ (place, insn) ∷ rest → IsMarked marks (length code) end left → place < length code
place_within {marks} {end} code items left place insn rest stand e is =
    let rises = subst (λ items. RisesBy (λ item. item.0) (length is.front) end items) e is.rises in
    let last = rises_bounds (λ item. item.0) (place + 1) end rest rises.1 in
    let within = items_end code 0 end items (omega arith) stand in
    omega (arith, last, within)

pub record HasMarked (old new : List Bool) (size end place : ℕ) (left : List (ℕ × Insn)) : Type 0 where
  pub marked_more : marked new ≡ marked old ++ place ∷ []
  pub marks : IsMarked new size end left

-- and is marked
pub has_marked :
    {old new : List Bool} {end : ℕ} (code : List ℕ) (items left : List (ℕ × Insn)) (place : ℕ) (insn : Insn) (rest : List (ℕ × Insn))
    → IsCode code items end → left ≡ (place, insn) ∷ rest → IsMarked old (length code) end left → new ≡ set old place true → HasMarked old new (length code) end place rest
has_marked {old} {new} {end} code items left place insn rest stand first marks e =
    let front = marks.front in
    let rises = subst (λ items. RisesBy (λ item. item.0) (length front) end items) first marks.rises in
    let from = rises.0 in
    let all = marks.long in
    let within = place_within code items left place insn rest stand first marks in
    let d : ℕ = place - length front in
    let r : ℕ = length code - (place + 1) in
    let here : length front + d ≡ place = omega (arith, from) in
    let longer = (front ++ replicate d false) ++ true ∷ [] in
    let long : length longer ≡ place + 1 =
    length-append (front ++ replicate d false) (true ∷ []) ∙ ap (λ n. n + 1) (length-append front (replicate d false) ∙ ap (λ n. length front + n) (length-replicate d false) ∙ here) in
    let joined : new ≡ longer ++ replicate r false =
    e ∙ ap (λ marks. set marks place true) marks.joined ∙ set_behind front d r marks.behind place (omega (arith, all, from, within)) (sym here) in
    record {
      marked_more =
          ap marked joined
          ∙ only_front longer r
          ∙ mark_more front d
          ∙ ap (λ n. marked front ++ n ∷ []) here
          ∙ ap (λ ns. ns ++ place ∷ []) (sym (ap marked marks.joined ∙ only_front front marks.behind));
      marks = record {
        front = longer;
        behind = r;
        joined = joined;
        long = omega (arith, long, within);
        rises = subst (λ n. RisesBy (λ item. item.0) n end rest) (sym long) rises.1;
      };
    }
