-- What a list of keys has once a key is put in.
use Rattle.std.proofs.Common.{◌≡◌, ◌∙◌, Bool, true, false, ◌||◌, ◌&&◌, List, [], ◌∷◌, ◌++◌, refl, ap, sym, if◌then◌else◌, true≢false}
use Rattle.std.specs.List.{list_any}
use Rattle.std.specs.Cmp.{IsEquivalence}
use Rattle.jc_base.proofs.Common.{or_true}
use Rattle.indexmap.specs.IndexSet.{insert_key}
use Rattle.jc_base.proofs.maps.FiniteMaps.{same_bytes_equiv}
use Rattle.jc_base.specs.Bytes.{same_bytes}
use Rattle.jc_file.specs.Faults.{same_key}
use Rattle.jc_file.proofs.keys.RepeatedKeys.{any-append, or_false}

-- where a key is equal to one of them, a key that is equal to it is too
any_equal : {K : Type 0} (same : K → K → Bool) → IsEquivalence same → (q k : K) (ks : List K) → same q k ≡ true → list_any (same q) ks ≡ list_any (same k) ks
any_equal same laws q k [] alike = refl
any_equal same laws q k (x ∷ ks) alike = ap (λ b. b || list_any (same q) ks) (laws.congr q k x alike) ∙ ap (λ b. same k x || b) (any_equal same laws q k ks alike)

pub any_inserted : {K : Type 0} (same : K → K → Bool) → IsEquivalence same → (ks : List K) (k q : K) → list_any (same q) (insert_key same ks k) ≡ (list_any (same q) ks || same q k)
any_inserted same laws ks k q = by (list_any (same k) ks) refl
  where
    there : list_any (same k) ks ≡ true → (b : Bool) → same q k ≡ b → list_any (same q) ks ≡ (list_any (same q) ks || same q k)
    there is_in true alike = any_equal same laws q k ks alike ∙ is_in ∙ sym (or_true (list_any (same q) ks)) ∙ ap (λ b. list_any (same q) ks || b) (sym alike)
    there is_in false other = sym (or_false (list_any (same q) ks)) ∙ ap (λ b. list_any (same q) ks || b) (sym other)

    by : (b : Bool) → list_any (same k) ks ≡ b → list_any (same q) (insert_key same ks k) ≡ (list_any (same q) ks || same q k)
    by true is_in = ap (λ b. list_any (same q) (if b then ks else ks ++ k ∷ [])) is_in ∙ there is_in (same q k) refl
    by false is_new =
        ap (λ b. list_any (same q) (if b then ks else ks ++ k ∷ [])) is_new
        ∙ any-append (same q) ks (k ∷ [])
        ∙ ap (λ b. list_any (same q) ks || b) (or_false (same q k))

and_parts : (a b : Bool) → (a && b) ≡ true → (a ≡ true) × (b ≡ true)
and_parts true b h = (refl, h)
and_parts false b h = absurd (true≢false (sym h))

pub same_key_equiv : IsEquivalence same_key
same_key_equiv = record {
  refl = λ a. rw (same_bytes_equiv.refl a.0) (same_bytes_equiv.refl a.1);
  symm = λ a b. ap (λ x. x && same_bytes a.1 b.1) (same_bytes_equiv.symm a.0 b.0) ∙ ap (λ y. same_bytes b.0 a.0 && y) (same_bytes_equiv.symm a.1 b.1);
  congr = λ a b d alike.
      let both = and_parts (same_bytes a.0 b.0) (same_bytes a.1 b.1) alike in
      ap (λ x. x && same_bytes a.1 d.1) (same_bytes_equiv.congr a.0 b.0 d.0 both.0) ∙ ap (λ y. same_bytes b.0 d.0 && y) (same_bytes_equiv.congr a.1 b.1 d.1 both.1);
}
