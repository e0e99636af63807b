-- What is known of texts, at the start and as one more answer is noted.
use Rattle.std.proofs.Common.{◌≡◌, ◌∙◌, ◌⊎◌, inl, inr, ℕ, ◌<◌, List, Some, ap, sym, subst, replicate}
use Rattle.std.specs.Prelude.{slice_get, slice_set}
use Rattle.std.proofs.lemmas.List.{get_or-replicate, length-replicate}
use Rattle.std.proofs.lemmas.Option.{get_or_from_slice_get, slice_get_within}
use Rattle.jc_view.specs.declared.constant_pool.ConstantIndex.{ConstantIndex}
use Rattle.jc_view.specs.ClassFile.{ClassFile}
use Rattle.jc_file.proofs.keys.NumberedTexts.{set_cases}
use Rattle.jc_file.specs.declared.texts.Known.{Known}
use Rattle.jc_file.specs.inside.Texts.{AllKnown, IsKnown}

module _ (c : ClassFile) (known : List Known) (index : ConstantIndex) (new : Known) (all : AllKnown c known) (is : IsKnown c index new) where
  by_case : (i : ℕ) (k : Known) → (slice_get known i ≡ Some k) ⊎ ((i ≡ index.0) × (k ≡ new)) → IsKnown c (record { 0 = i }) k
  by_case i k (inl before) = all i k before
  by_case i k (inr set) =
      subst (λ n. IsKnown c (record { 0 = n }) k) (sym set.0) (subst (IsKnown c index) (sym set.1) is)

  pub noted : AllKnown c (slice_set known index.0 new)
  noted i k here = by_case i k (set_cases known index.0 new i k here)

-- at the start
pub nothing_known : (c : ClassFile) (known : List Known) (n : ℕ) (nothing : Known) → ((index : ConstantIndex) → IsKnown c index nothing) → known ≡ replicate n nothing → AllKnown c known
nothing_known c known n nothing is e i k here =
    let there = ap (λ ks. slice_get ks i) (sym e) ∙ here in
    let within : i < n = subst (λ m. i < m) (length-replicate n nothing) (slice_get_within (replicate n nothing) i k there) in
    let same : k ≡ nothing = sym (get_or_from_slice_get (replicate n nothing) i k nothing there) ∙ get_or-replicate n i nothing nothing within in
    subst (IsKnown c (record { 0 = i })) (sym same) (is (record { 0 = i }))
