-- Ranks of texts are in the order of the texts.
use Rattle.std.proofs.Common.{◌≡◌, ℕ, ◌+◌, ◌<◌, ◌≤◌, true, false, List, [], ◌∷◌, length, Bor, slice_index, slice_index_or, refl, sym, ap, subst, ◌∙◌, arith, ⊎_elim}
use Rattle.std.proofs.lemmas.Bool.{cases_lt, false≢true}
use Rattle.std.proofs.lemmas.Bool.Decides.{nat_tests}
use Rattle.std.proofs.lemmas.Cmp.{nat_cmp_total, tied_itself}
use Rattle.std.proofs.lemmas.List.{get_or-map, get_or_default, length-map}
use Rattle.std.proofs.lemmas.List.Elements.{Contains-get_or}
use Rattle.std.proofs.lemmas.List.Sorted.{Contains-permutation, IsPermutation-map, length_permutation, ranks_by, sorted_far}
use Rattle.std.specs.Cmp.{IsTotalOrder}
use Rattle.std.specs.List.{Contains}
use Rattle.std.specs.List.Sorted.{IsPartitionedBy, IsPartitionPoint, IsPermutation, IsSorted}
use Rattle.std.specs.declared.cmp.Ordering.{Ordering}
use Rattle.std.specs.declared.cmp.Ordering.TheVariants.{Less, Equal, Greater}
use Rattle.std.specs.Ordering.{is_gt, is_lt, nat_cmp, ordering_reverse}
use Rattle.jc_base.proofs.maps.FiniteMaps.{bytes_cmp-IsAntisymmetric, bytes_cmp_total}
use Rattle.jc_classes.specs.Names.{Name, name_cmp, name_less}
use Rattle.jc_classes.specs.inside.FactsShown.{text_at}
use Rattle.jc_classes.specs.inside.Ranks.{AreRanks, AreSorted, IsRank, texts_lent}
use Rattle.jc_classes.proofs.members.Searching.{less_front, less_of}

less_turned : (o : Ordering) → is_lt o ≡ false → is_gt (ordering_reverse o) ≡ false
less_turned Less e = absurd (false≢true (sym e))
less_turned Equal e = refl
less_turned Greater e = refl

-- what is not less stands behind
pub no_less : {K : Type 0} {R : K → K → Ordering} → IsTotalOrder R → (a b : K) → is_lt (R b a) ≡ false → is_gt (R a b) ≡ false
no_less {R = R} total a b e = ap is_gt (total.antisymm a b) ∙ less_turned (R b a) e

-- ---- sorted texts

parted_at : (xs : List (Bor (List ℕ))) (P : Name → Type 0) (place : ℕ) → place < length xs → ((d : Bor (List ℕ)) → P (slice_index_or xs place d).now) → P (text_at (texts_lent xs) place)
parted_at [] P place l h = absurd (omega (arith, l))
parted_at (x ∷ xs) P place l h = subst P (sym (get_or-map (λ (t : Bor (List ℕ)). t.now) (x ∷ xs) place x [] l)) (h x)

module _ (sorted : List (Bor (List ℕ))) (up : IsSorted name_cmp (texts_lent sorted)) (text : Name) where
  pub texts_parted : IsPartitionedBy (λ (y : Bor (List ℕ)). name_less y.now text) sorted
  texts_parted i j d l m e =
      let now = λ (t : Bor (List ℕ)). t.now in
      let size = length-map sorted now in
      let at_i : text_at (texts_lent sorted) i ≡ (slice_index_or sorted i d).now = get_or-map now sorted i d [] (omega arith) in
      let at_j : text_at (texts_lent sorted) j ≡ (slice_index_or sorted j d).now = get_or-map now sorted j d [] m in
      let far = sorted_far (λ a b. is_lt (name_cmp a b)) (ranks_by bytes_cmp_total (λ (n : Name). n)) (texts_lent sorted) up i j [] l (omega (arith, size, m)) in
      let behind = no_less bytes_cmp_total (text_at (texts_lent sorted) i) (text_at (texts_lent sorted) j) far in
      let less : name_cmp (text_at (texts_lent sorted) j) text ≡ Less = less_of _ (ap (λ t. name_less t text) at_j ∙ e) in
      ap (λ t. name_less t text) (sym at_i) ∙ ap is_lt (less_front bytes_cmp_total _ _ text behind less)

  pub rank_of : (rank : ℕ) → rank ≤ length sorted → IsPartitionPoint (λ (y : Bor (List ℕ)). name_less y.now text ≡ true) (λ (y : Bor (List ℕ)). name_less y.now text ≡ false) sorted rank → IsRank (texts_lent sorted) text rank
  rank_of rank l p =
      let now = λ (t : Bor (List ℕ)). t.now in
      let size = length-map sorted now in
      record {
        fits = omega (arith, size, l);
        below = λ place q. parted_at sorted (λ t. name_less t text ≡ true) place (omega (arith, l, q)) (λ d. p.0 place d (omega arith) q);
        above = λ place q m. parted_at sorted (λ t. name_less t text ≡ false) place (omega (arith, size, m)) (λ d. p.1 place d q (omega (arith, size, m)));
      }

sorted_lent : (xs : List (Bor (List ℕ))) → IsSorted (λ (a b : Bor (List ℕ)). name_cmp a.now b.now) xs → IsSorted name_cmp (texts_lent xs)
sorted_lent [] h = λ k d l m. absurd (omega (arith, m))
sorted_lent (x ∷ xs) h = λ k d l m.
    let now = λ (t : Bor (List ℕ)). t.now in
    let size = length-map (x ∷ xs) now in
    let within : k + 1 < length (x ∷ xs) = omega (arith, size, m) in
    let first = get_or-map now (x ∷ xs) k x d (omega (arith, within)) in
    let second = get_or-map now (x ∷ xs) (k + 1) x d within in
    ap (λ t. is_lt (name_cmp t (slice_index_or (texts_lent (x ∷ xs)) k d))) second ∙ ap (λ t. is_lt (name_cmp (slice_index_or (x ∷ xs) (k + 1) x).now t)) first ∙ h k x l within

pub texts_sorted : (texts : List Name) (old new : List (Bor (List ℕ))) → texts_lent old ≡ texts → IsPermutation old new → IsSorted (λ (a b : Bor (List ℕ)). name_cmp a.now b.now) new → AreSorted texts (texts_lent new)
texts_sorted texts old new e moved up =
    let now = λ (t : Bor (List ℕ)). t.now in
    let lent : IsPermutation texts (texts_lent new) = subst (λ ts. IsPermutation ts (texts_lent new)) e (IsPermutation-map now old new moved) in
    record {
      rises = sorted_lent new up;
      size = length_permutation texts (texts_lent new) lent;
      complete = λ number l. Contains-permutation texts (texts_lent new) (text_at texts number) lent (Contains-get_or texts number [] l);
    }

-- ---- ranks

cmp_less : (a b : ℕ) → a < b → nat_cmp a b ≡ Less
cmp_less a b l = grind (arith, nat_tests)

cmp_greater : (a b : ℕ) → b < a → nat_cmp a b ≡ Greater
cmp_greater a b l = grind (arith, nat_tests)

turned : (a b : Name) → name_cmp a b ≡ Greater → name_cmp b a ≡ Less
turned a b e = bytes_cmp_total.antisymm b a ∙ ap ordering_reverse e

module _ (sorted : List Name) where
  -- where a text stands is not before its rank
  rank_before : (x : Name) (rank place : ℕ) → IsRank sorted x rank → text_at sorted place ≡ x → rank ≤ place
  rank_before x rank place r e = ⊎_elim
      (λ l. absurd (false≢true (sym (ap is_lt (tied_itself bytes_cmp_total x)) ∙ ap (λ t. is_lt (name_cmp t x)) (sym e) ∙ r.below place l)))
      (λ l. l)
      (cases_lt place rank)

  pub rank_within : (x : Name) (rank : ℕ) → Contains sorted x → IsRank sorted x rank → rank < length sorted
  rank_within x rank h r = let l = rank_before x rank h.0 r (get_or_default sorted h.0 [] x h.1 ∙ h.2) in omega (arith, l, h.1)

  ranks_less : (x y : Name) (a b : ℕ) → Contains sorted x → IsRank sorted x a → IsRank sorted y b → name_cmp x y ≡ Less → a < b
  ranks_less x y a b h p q e =
      let there : text_at sorted h.0 ≡ x = get_or_default sorted h.0 [] x h.1 ∙ h.2 in
      let first = rank_before x a h.0 p there in
      ⊎_elim
      (λ l. omega (arith, first, l))
      (λ l. absurd (false≢true (sym (q.above h.0 l h.1) ∙ ap (λ t. is_lt (name_cmp t y)) there ∙ ap is_lt e)))
      (cases_lt h.0 b)

  -- two ranks of one text
  no_earlier : (x : Name) (a b : ℕ) → IsRank sorted x a → IsRank sorted x b → b ≤ a
  no_earlier x a b p q = let fits = q.fits in ⊎_elim
      (λ l. absurd (false≢true (sym (p.above a (omega arith) (omega (arith, l, fits))) ∙ q.below a l)))
      (λ l. l)
      (cases_lt a b)

  pub ranks_order : (x y : Name) (a b : ℕ) → Contains sorted x → Contains sorted y → IsRank sorted x a → IsRank sorted y b → nat_cmp a b ≡ name_cmp x y
  ranks_order x y a b h k p q = by (name_cmp x y) refl
    where
      by : (o : Ordering) → name_cmp x y ≡ o → nat_cmp a b ≡ o
      by Less e = cmp_less a b (ranks_less x y a b h p q e)
      by Equal e =
          let one : y ≡ x = sym (bytes_cmp-IsAntisymmetric x y e) in
          let r : IsRank sorted x b = subst (λ t. IsRank sorted t b) one q in
          let same : b ≡ a = omega (arith, no_earlier x a b p r, no_earlier x b a r p) in
          ap (nat_cmp a) same ∙ tied_itself nat_cmp_total a
      by Greater e = cmp_greater a b (ranks_less y x b a k q p (turned x y e))

pub texts_ranked : (texts sorted : List Name) (ranks : List ℕ) → AreSorted texts sorted → length ranks ≡ length texts → ((at : ℕ) → at < length texts → IsRank sorted (text_at texts at) (slice_index ranks at)) → AreRanks texts ranks
texts_ranked texts sorted ranks s size r = record {
  size = size;
  within = λ number l. let w = rank_within sorted (text_at texts number) (slice_index ranks number) (s.complete number l) (r number l) in omega (arith, w, s.size);
  order = λ a b l m. ranks_order sorted (text_at texts a) (text_at texts b) (slice_index ranks a) (slice_index ranks b) (s.complete a l) (s.complete b m) (r a l) (r b m);
}
