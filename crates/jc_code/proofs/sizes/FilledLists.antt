-- Lists that are filled as an index rises, with a value that stands for none.
use Rattle.std.proofs.Common.{◌≡◌, ◌∙◌, inl, inr, ℕ, zero, suc, ◌+◌, ◌-◌, ◌≤◌, List, [], ◌∷◌, ◌++◌, length, replicate, take, refl, ap, sym, arith, slice_index_or, length-append}
use Rattle.std.proofs.lemmas.Bool.{cases_lt}
use Rattle.std.proofs.lemmas.List.{length-replicate, take_all}
use Rattle.std.proofs.Math.ListN.{get_or-append, get_or-eq_default}
use Rattle.std.proofs.Math.Seq.{get_or-append_seam}
use Rattle.jc_code.specs.inside.TextSizes.{Fills}

module _ {X : Type 0} (none : X) where
  none_there : (k i : ℕ) → slice_index_or (replicate k none) i none ≡ none
  none_there zero i = refl
  none_there (suc k) zero = refl
  none_there (suc k) (suc i) = none_there k i

  -- none behind the last is as none there
  pub padded : (xs : List X) (k i : ℕ) → slice_index_or (xs ++ replicate k none) i none ≡ slice_index_or xs i none
  padded [] k i = none_there k i
  padded (x ∷ xs) k zero = refl
  padded (x ∷ xs) k (suc i) = padded xs k i

  pub empty_fills : (value : ℕ → X) (xs : List X) → xs ≡ [] → Fills none value 0 xs
  empty_fills value xs e = record {
    at = λ i lt. absurd (omega (arith, lt));
    short = let long : length xs ≡ 0 = ap length e in omega (arith, long);
  }

  module _ (value : ℕ → X) (n : ℕ) (xs : List X) (fills : Fills none value n xs) where
    pub none_more : value n ≡ none → Fills none value (n + 1) xs
    none_more e = record {
      at = λ i lt. elim (cases_lt i n) [
        | inl before ↦ fills.at i before
        | inr here ↦
            let same : i ≡ n = omega (arith, lt, here) in
            get_or-eq_default xs none (omega (arith, fills.short, here)) ∙ sym e ∙ ap value (sym same)
      ];
      short = omega (arith, fills.short);
    }

    module _ (ys zs : List X) (x : X) (count : ℕ) (counts : count ≡ length xs) (e : ys ≡ take n xs ++ replicate (n - count) none) (f : zs ≡ ys ++ x ∷ []) where
      up_to : ys ≡ xs ++ replicate (n - count) none
      up_to = e ∙ ap (λ front. front ++ replicate (n - count) none) (take_all n xs fills.short)

      up_to_long : length ys ≡ n
      up_to_long =
          let both : length ys ≡ length xs + length (replicate (n - count) none) = ap length up_to ∙ length-append xs (replicate (n - count) none) in
          let behind = length-replicate (n - count) none in
          omega (arith, both, behind, counts, fills.short)

      pub one_more : value n ≡ x → Fills none value (n + 1) zs
      one_more is = record {
        at = λ i lt. ap (λ l. slice_index_or l i none) f ∙ elim (cases_lt i n) [
          | inl before ↦
              get_or-append ys (x ∷ []) none i (omega (arith, before, up_to_long))
              ∙ ap (λ l. slice_index_or l i none) up_to ∙ padded xs (n - count) i ∙ fills.at i before
          | inr here ↦
              let last : i ≡ length ys = omega (arith, lt, here, up_to_long) in
              let same : n ≡ i = omega (arith, lt, here) in
              ap (λ j. slice_index_or (ys ++ x ∷ []) j none) last ∙ get_or-append_seam ys x [] none ∙ sym is ∙ ap value same
        ];
        short = let long : length zs ≡ length ys + 1 = ap length f ∙ length-append ys (x ∷ []) in omega (arith, long, up_to_long);
      }

    -- where there is no value from n on
    pub all_filled : ((i : ℕ) → n ≤ i → value i ≡ none) → (i : ℕ) → slice_index_or xs i none ≡ value i
    all_filled behind i = elim (cases_lt i n) [
      | inl before ↦ fills.at i before
      | inr later ↦ get_or-eq_default xs none (omega (arith, fills.short, later)) ∙ sym (behind i later)
    ]
