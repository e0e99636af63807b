-- The order of ABSTRACT methods, and their list without duplicates.
use Rattle.std.proofs.Common.{◌≡◌, ◌∙◌, ℕ, Bool, true, ◌&&◌, List, refl, sym, ap, nat_eq}
use Rattle.std.specs.Cmp.{IsEquivalence, IsTotalOrder, unsigned_ties}
use Rattle.std.specs.Cmp.Lexicographic.{pointwise, texts_ties}
use Rattle.std.proofs.lemmas.Cmp.{eq_by_cmp_equiv, nat_cmp_total, on_total, then_total}
use Rattle.std.proofs.lemmas.List.Kept.{Any-dedup, Contains-from_dedup, IsStrictlySortedBy-dedup}
use Rattle.std.proofs.lemmas.List.Sorted.{Contains-permutation, IsPermutation-sym}
use Rattle.std.specs.FinMap.{nat_cmp-IsAntisymmetric, slice_cmp-IsAntisymmetric}
use Rattle.std.specs.List.{dedup}
use Rattle.std.specs.List.Sorted.{IsPermutation, IsSorted, IsStrictlySortedBy}
use Rattle.std.specs.Cmp.{Equal-is}
use Rattle.std.specs.Ordering.{eq_by_cmp, is_eq, ordering_then}
use Rattle.std.specs.declared.cmp.Ordering.{Ordering}
use Rattle.std.specs.declared.cmp.Ordering.TheVariants.{Less, Equal, Greater}
use Rattle.jc_base.proofs.maps.FiniteMaps.{bytes_cmp_total}
use Rattle.jc_classes.specs.Names.{Name, name_cmp}
use Rattle.jc_numbered.specs.inside.Indexed.{Indexed}
use Rattle.jc_resolve.specs.declared.abstract_methods.AbstractMethod.{AbstractMethod}
use Rattle.jc_resolve.specs.inside.AbstractMethods.{AreAbstract, entry_cmp, key_in}

abbrev pub entry_eq : AbstractMethod → AbstractMethod → Bool
entry_eq a b =
    pointwise nat_eq a.name.now b.name.now && (pointwise nat_eq a.descriptor.now b.descriptor.now
    && (pointwise nat_eq a.class.now b.class.now && (nat_eq a.node b.node && nat_eq a.flags b.flags)))

is_eq_then : (o p : Ordering) → is_eq (ordering_then o p) ≡ (is_eq o && is_eq p)
is_eq_then Less p = refl
is_eq_then Equal p = refl
is_eq_then Greater p = refl

join : {a b : Bool} (o p : Ordering) → a ≡ is_eq o → b ≡ is_eq p → (a && b) ≡ is_eq (ordering_then o p)
join {a} {b} o p e f = ap (λ z. z && b) e ∙ ap (λ z. is_eq o && z) f ∙ sym (is_eq_then o p)

entry_ties : (a b : AbstractMethod) → entry_eq a b ≡ eq_by_cmp entry_cmp a b
entry_ties a b =
    join _ _ (texts_ties a.name.now b.name.now) (join _ _ (texts_ties a.descriptor.now b.descriptor.now)
    (join _ _ (texts_ties a.class.now b.class.now) (join _ _ (unsigned_ties a.node b.node) (unsigned_ties a.flags b.flags))))

entry_total : IsTotalOrder entry_cmp
entry_total =
    then_total (on_total (λ (e : AbstractMethod). e.name.now) bytes_cmp_total)
    (then_total (on_total (λ (e : AbstractMethod). e.descriptor.now) bytes_cmp_total)
    (then_total (on_total (λ (e : AbstractMethod). e.class.now) bytes_cmp_total)
    (then_total (on_total (λ (e : AbstractMethod). e.node) nat_cmp_total) (on_total (λ (e : AbstractMethod). e.flags) nat_cmp_total))))

entry_equiv : IsEquivalence entry_eq
entry_equiv =
    let by = eq_by_cmp_equiv entry_total in
    record {
      refl = λ a. entry_ties a a ∙ by.refl a;
      symm = λ a b. entry_ties a b ∙ by.symm a b ∙ sym (entry_ties b a);
      congr = λ a b c e. entry_ties a c ∙ by.congr a b c (sym (entry_ties a b) ∙ e) ∙ sym (entry_ties b c);
    }

then_equal : (o p : Ordering) → ordering_then o p ≡ Equal → (o ≡ Equal) × (p ≡ Equal)
then_equal Less p e = absurd cc
then_equal Equal p e = (refl, e)
then_equal Greater p e = absurd cc

same_bytes : (a b : Name) → name_cmp a b ≡ Equal → a ≡ b
same_bytes a b e = slice_cmp-IsAntisymmetric nat_cmp-IsAntisymmetric a b e

-- equal entries have one node and one key
tied : (a b : AbstractMethod) → entry_eq a b ≡ true → (a.node ≡ b.node) × (key_in a ≡ key_in b)
tied a b e =
    let p = then_equal _ _ ((Equal-is (entry_cmp a b)).0 (sym (entry_ties a b) ∙ e)) in
    let q = then_equal _ _ p.1 in
    let r = then_equal _ _ q.1 in
    let s = then_equal _ _ r.1 in
    let name = same_bytes a.name.now b.name.now p.0 in
    let descriptor = same_bytes a.descriptor.now b.descriptor.now q.0 in
    (nat_cmp-IsAntisymmetric a.node b.node s.0, ap (λ n. record { name = n; descriptor = a.descriptor.now }) name ∙ ap (λ d. record { name = b.name.now; descriptor = d }) descriptor)

-- ---- a sort, and then each entry once

pub entries_rise : (sorted : List AbstractMethod) → IsSorted entry_cmp sorted → IsStrictlySortedBy entry_cmp (dedup entry_eq sorted)
entries_rise sorted s = IsStrictlySortedBy-dedup entry_total entry_ties sorted s

pub entries_are : (count : ℕ) (x : Indexed) (old sorted : List AbstractMethod) → IsPermutation old sorted → AreAbstract count x old → AreAbstract count x (dedup entry_eq sorted)
entries_are count x old sorted moved are = record {
  sound = λ e h. are.sound e (Contains-permutation sorted old e (IsPermutation-sym old sorted moved) (Contains-from_dedup entry_eq sorted e h));
  complete = λ v k y l d a.
      let h = are.complete v k y l d a in
      let kept = Any-dedup entry_equiv sorted h.0 (Contains-permutation old sorted h.0 moved h.1) in
      let p = tied h.0 kept.1 kept.4 in
      (kept.1, (kept.0, kept.2, kept.3), sym p.0 ∙ h.2, sym p.1 ∙ h.3);
}
