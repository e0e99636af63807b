-- A key is looked for among members in their order.
use Rattle.std.proofs.Common.{◌≡◌, ℕ, ◌+◌, ◌<◌, ◌≤◌, true, false, List, length, map, slice_index, slice_index_or, refl, sym, ap, subst, ◌∙◌, arith, ⊎_elim}
use Rattle.std.proofs.lemmas.Bool.{cases_Bool, cases_lt, false≢true}
use Rattle.std.proofs.lemmas.Cmp.{nat_cmp_total, on_total, then_total}
use Rattle.std.proofs.lemmas.List.{get_or-map}
use Rattle.std.proofs.lemmas.List.Elements.{Contains-get_or}
use Rattle.std.proofs.lemmas.Map.Keys.{Less-from_sorted}
use Rattle.std.specs.Cmp.{IsTotalOrder}
use Rattle.std.specs.declared.cmp.Ordering.{Ordering}
use Rattle.std.specs.declared.cmp.Ordering.TheVariants.{Less, Equal, Greater}
use Rattle.std.specs.Ordering.{is_gt, is_lt, ordering_then}
use Rattle.jc_base.proofs.maps.FiniteMaps.{bytes_cmp_total}
use Rattle.jc_classes.specs.Facts.{Key, Member}
use Rattle.jc_classes.specs.MemberOrder.{IsOrder, key_at, key_cmp, place_cmp}
use Rattle.jc_classes.specs.Worlds.{key_of}
use Rattle.jc_classes.specs.declared.facts.MemberEntry.{MemberEntry}
use Rattle.jc_classes.specs.inside.FactsShown.{member_shown}
use Rattle.jc_classes.specs.inside.Ordered.{IsNarrowed, key_there}

pub key_cmp_total : IsTotalOrder key_cmp
key_cmp_total = then_total (on_total (λ (k : Key). k.name) bytes_cmp_total) (on_total (λ (k : Key). k.descriptor) bytes_cmp_total)

pub place_cmp_total : (members : List Member) → IsTotalOrder (place_cmp members)
place_cmp_total members = then_total (on_total (key_at members) key_cmp_total) nat_cmp_total

pub first_no_greater : (o p : Ordering) → ordering_then o p ≡ Less → is_gt o ≡ false
first_no_greater Less p e = refl
first_no_greater Equal p e = refl
first_no_greater Greater p e = absurd cc

-- what is no greater than a lesser one is less
pub less_front : {K : Type 0} {R : K → K → Ordering} → IsTotalOrder R → (a b k : K) → is_gt (R a b) ≡ false → R b k ≡ Less → R a k ≡ Less
less_front {R = R} total a b k g e = by (R a b) refl g
  where
    by : (o : Ordering) → R a b ≡ o → is_gt o ≡ false → R a k ≡ Less
    by Less o h = total.trans a b k o e
    by Equal o h = total.congr a b k o ∙ e
    by Greater o h = absurd (false≢true (sym h))

pub less_of : (o : Ordering) → is_lt o ≡ true → o ≡ Less
less_of Less e = refl
less_of Equal e = absurd (false≢true e)
less_of Greater e = absurd (false≢true e)

-- ---- places

module _ (members : List Member) (order : List ℕ) (h : IsOrder members order) where
  pub number_within : (place : ℕ) → place < length order → slice_index order place < length members
  number_within place l = h.sound (slice_index order place) (Contains-get_or order place 0 l)

  pub key_no_greater : (i j : ℕ) → i < j → j < length order → is_gt (key_cmp (key_there members order i) (key_there members order j)) ≡ false
  key_no_greater i j l m = first_no_greater _ _ (Less-from_sorted (place_cmp members) order i j 0 h.rises l m)

  -- what stands before a member that is before a key is before it too
  less_before : (key : Key) (i j : ℕ) → i ≤ j → j < length order → key_cmp (key_there members order j) key ≡ Less → key_cmp (key_there members order i) key ≡ Less
  less_before key i j l m e = ⊎_elim
      (λ less. less_front key_cmp_total (key_there members order i) (key_there members order j) key (key_no_greater i j less m) e)
      (λ more. let same : j ≡ i = omega arith in subst (λ n. key_cmp (key_there members order n) key ≡ Less) same e)
      (cases_lt i j)

  module _ (key : Key) (low high middle : ℕ) (n : IsNarrowed members order key low high) (l : middle < high) where
    pub narrowed_up : key_cmp (key_there members order middle) key ≡ Less → IsNarrowed members order key (middle + 1) high
    narrowed_up e =
        let fits = n.fits in
        record {
          ordered = omega arith;
          fits = n.fits;
          below = λ place q. less_before key place middle (omega arith) (omega arith) e;
          above = n.above;
        }

    pub narrowed_down : low ≤ middle → is_lt (key_cmp (key_there members order middle) key) ≡ false → IsNarrowed members order key low middle
    narrowed_down m e =
        let fits = n.fits in
        record {
          ordered = m;
          fits = omega arith;
          below = n.below;
          above = λ place q r. ⊎_elim
              (λ t. absurd (false≢true (sym e ∙ ap is_lt (less_before key middle place q r (less_of _ t)))))
              (λ f. f)
              (cases_Bool (is_lt (key_cmp (key_there members order place) key)));
        }

-- the key of a member that is shown
pub key_shown_at : (texts : List (List ℕ)) (entries : List MemberEntry) (number : ℕ) (d : MemberEntry) → number < length entries → key_at (map (member_shown texts) entries) number ≡ key_of (member_shown texts (slice_index_or entries number d))
key_shown_at texts entries number d l = ap key_of (get_or-map (member_shown texts) entries number d _ l)
