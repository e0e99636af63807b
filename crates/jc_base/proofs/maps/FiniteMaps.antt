-- Byte strings in their order, and finite maps keyed by them.
use Rattle.std.proofs.Common.{◌≡◌, ℕ, Bool, true, false, cond, T, List, [], ◌∷◌, length, Option, Some, None, refl, sym, ap, ◌∙◌, ⊎_elim, arith}
use Rattle.std.specs.declared.cmp.Ordering.TheVariants.{Less}
use Rattle.std.specs.Bool.{Decides}
use Rattle.std.specs.List.{AllByRecursion, Contains}
use Rattle.std.specs.List.Sorted.{IsStrictlySortedBy}
use Rattle.std.specs.Map.{lookup, keys_of}
use Rattle.std.specs.Ordering.{eq_by_cmp}
use Rattle.std.specs.Cmp.{IsTotalOrder, IsEquivalence, eq_by_cmp_equiv}
use Rattle.std.specs.Cmp.Lexicographic.{nat_list_cmp_total, nat_list_eq_equiv, texts_ties, bytes_decides}
use Rattle.std.specs.FinMap as fin
use Rattle.std.specs.FinMap.{FinMap}
use Rattle.std.specs.FinMap.Entries.{below_all}
use Rattle.std.proofs.lemmas.Bool.{cases_Bool, cond-true, cond-false}
use Rattle.std.proofs.lemmas.Map.Keys.{IsDistinct-from_sorted}
use Rattle.std.proofs.lemmas.Map.Views.{lookup-from_Contains, Contains-from_lookup}
use Rattle.jc_base.specs.Bytes.{bytes_cmp, same_bytes}
use Rattle.jc_base.proofs.Common.{first_holds, second_holds, less_is}

-- ---- byte strings

pub bytes_cmp_total : IsTotalOrder bytes_cmp
bytes_cmp_total = nat_list_cmp_total

-- only a string itself ties with it
pub bytes_cmp-IsAntisymmetric : fin.IsAntisymmetric bytes_cmp
bytes_cmp-IsAntisymmetric = fin.slice_cmp-IsAntisymmetric fin.nat_cmp-IsAntisymmetric

pub same_bytes_equiv : IsEquivalence same_bytes
same_bytes_equiv = nat_list_eq_equiv

-- the test decides equality
pub same_bytes_decides : (a b : List ℕ) → Decides (same_bytes a b) (a ≡ b)
same_bytes_decides = bytes_decides

-- the test and the order agree
pub eq_by_cmp-bytes_cmp : (a b : List ℕ) → eq_by_cmp bytes_cmp a b ≡ same_bytes a b
eq_by_cmp-bytes_cmp a b = sym (texts_ties a b)

-- ---- lists of entries

cond_again : {X : Type 0} (b : Bool) (x y z : X) → cond b x (cond b y z) ≡ cond b x z
cond_again true x y z = refl
cond_again false x y z = refl

no_entries : {V : Type 0} (es : List (List ℕ × V)) → length es ≡ 0 → es ≡ []
no_entries [] e = refl
no_entries (x ∷ es) e = absurd (omega arith)

module _ {V : Type 0} where
  below_all-AllByRecursion : (k : List ℕ) (es : List (List ℕ × V)) → T (below_all bytes_cmp k es) → AllByRecursion (λ q. bytes_cmp k q ≡ Less) (keys_of es)
  below_all-AllByRecursion k [] h = tt
  below_all-AllByRecursion k (e ∷ es) h = (less_is _ (first_holds _ _ h), below_all-AllByRecursion k es (second_holds _ _ h))

  -- the keys of a list in order rise
  pub IsStrictlySortedBy-is_sorted : (es : List (List ℕ × V)) → T (fin.is_sorted bytes_cmp es) → IsStrictlySortedBy bytes_cmp (keys_of es)
  unfolding IsStrictlySortedBy
  IsStrictlySortedBy-is_sorted [] h = tt
  IsStrictlySortedBy-is_sorted (e ∷ es) h = (below_all-AllByRecursion e.0 es (first_holds _ _ h), IsStrictlySortedBy-is_sorted es (second_holds _ _ h))

  find_lookup : (es : List (List ℕ × V)) (q : List ℕ) → fin.find bytes_cmp q es ≡ lookup (eq_by_cmp bytes_cmp q) es
  find_lookup [] q = refl
  find_lookup (e ∷ es) q = ap (cond (eq_by_cmp bytes_cmp q e.0) (Some e.1)) (find_lookup es q)

  -- ---- finite maps

  -- maps that answer alike are the same
  pub same_map : (m n : FinMap bytes_cmp V) → ((q : List ℕ) → fin.get m q ≡ fin.get n q) → m ≡ n
  same_map = fin.same_map bytes_cmp_total bytes_cmp-IsAntisymmetric

  pub get-insert : (m : FinMap bytes_cmp V) (k : List ℕ) (v : V) (q : List ℕ) → fin.get (fin.insert m k v) q ≡ cond (same_bytes q k) (Some v) (fin.get m q)
  get-insert m k v q = fin.get-insert bytes_cmp_total m k v q ∙ ap (λ b. cond b (Some v) (fin.get m q)) (eq_by_cmp-bytes_cmp q k)

  pub get-remove : (m : FinMap bytes_cmp V) (k q : List ℕ) → fin.get (fin.remove m k) q ≡ cond (same_bytes q k) None (fin.get m q)
  get-remove m k q = fin.get-remove bytes_cmp_total m k q ∙ ap (λ b. cond b None (fin.get m q)) (eq_by_cmp-bytes_cmp q k)

  pub get-insert_same : (m : FinMap bytes_cmp V) (k : List ℕ) (v : V) → fin.get (fin.insert m k v) k ≡ Some v
  get-insert_same m k v = get-insert m k v k ∙ ap (λ b. cond b (Some v) (fin.get m k)) (same_bytes_equiv.refl k)

  pub get-remove_same : (m : FinMap bytes_cmp V) (k : List ℕ) → fin.get (fin.remove m k) k ≡ None
  get-remove_same m k = get-remove m k k ∙ ap (λ b. cond b None (fin.get m k)) (same_bytes_equiv.refl k)

  -- a map that answers w at k as m does, and elsewhere as m does
  at_key : (m : FinMap bytes_cmp V) (k q : List ℕ) (w : Option V) → fin.get m k ≡ w → cond (same_bytes q k) w (fin.get m q) ≡ fin.get m q
  at_key m k q w e =
      ⊎_elim
      (λ y. cond-true (same_bytes q k) w (fin.get m q) y ∙ sym e ∙ ap (fin.get m) (sym ((same_bytes_decides q k).0 y)))
      (λ n. cond-false (same_bytes q k) w (fin.get m q) n)
      (cases_Bool (same_bytes q k))

  -- to put in what stands there already changes nothing
  pub insert_found : (m : FinMap bytes_cmp V) (k : List ℕ) (v : V) → fin.get m k ≡ Some v → fin.insert m k v ≡ m
  insert_found m k v e = same_map _ _ (λ q. get-insert m k v q ∙ at_key m k q (Some v) e)

  -- nor does taking out what is not there
  pub remove_absent : (m : FinMap bytes_cmp V) (k : List ℕ) → fin.get m k ≡ None → fin.remove m k ≡ m
  remove_absent m k e = same_map _ _ (λ q. get-remove m k q ∙ at_key m k q None e)

  -- the later of two values stays
  pub insert-insert : (m : FinMap bytes_cmp V) (k : List ℕ) (v w : V) → fin.insert (fin.insert m k v) k w ≡ fin.insert m k w
  insert-insert m k v w = same_map _ _ (λ q. get-insert _ k w q ∙ ap (cond (same_bytes q k) (Some w)) (get-insert m k v q) ∙ cond_again (same_bytes q k) _ _ _ ∙ sym (get-insert m k w q))

  pub remove-insert : (m : FinMap bytes_cmp V) (k : List ℕ) (v : V) → fin.remove (fin.insert m k v) k ≡ fin.remove m k
  remove-insert m k v = same_map _ _ (λ q. get-remove _ k q ∙ ap (cond (same_bytes q k) None) (get-insert m k v q) ∙ cond_again (same_bytes q k) _ _ _ ∙ sym (get-remove m k q))

  pub insert-remove : (m : FinMap bytes_cmp V) (k : List ℕ) (v : V) → fin.insert (fin.remove m k) k v ≡ fin.insert m k v
  insert-remove m k v = same_map _ _ (λ q. get-insert _ k v q ∙ ap (cond (same_bytes q k) (Some v)) (get-remove m k q) ∙ cond_again (same_bytes q k) _ _ _ ∙ sym (get-insert m k v q))

  -- taking out a key that was absent before it came gives the map back
  pub remove-insert_absent : (m : FinMap bytes_cmp V) (k : List ℕ) (v : V) → fin.get m k ≡ None → fin.remove (fin.insert m k v) k ≡ m
  remove-insert_absent m k v e = remove-insert m k v ∙ remove_absent m k e

  -- putting back what was taken out gives the map back
  pub insert-remove_found : (m : FinMap bytes_cmp V) (k : List ℕ) (v : V) → fin.get m k ≡ Some v → fin.insert (fin.remove m k) k v ≡ m
  insert-remove_found m k v e = insert-remove m k v ∙ insert_found m k v e

  -- ---- the entries

  -- the map made of entries in order has these entries
  pub entries-from_entries : (es : List (List ℕ × V)) → T (fin.is_sorted bytes_cmp es) → fin.entries (fin.from_entries {R = bytes_cmp} es) ≡ es
  entries-from_entries es h =
      ap fin.entries (same_map (fin.from_entries es) (fin.from_sorted es) (λ q. fin.get-from_entries bytes_cmp_total es q ∙ sym (fin.get-from_sorted bytes_cmp es q h)))
      ∙ fin.entries-from_sorted bytes_cmp es h

  -- the map made of a map's entries is that map
  pub from_entries-entries : (m : FinMap bytes_cmp V) → fin.from_entries (fin.entries m) ≡ m
  from_entries-entries m = same_map _ _ (λ q. fin.get-from_entries bytes_cmp_total (fin.entries m) q ∙ sym (fin.get-entries m q))

  pub entries-empty : fin.entries (fin.empty {X = V} {R = bytes_cmp}) ≡ []
  entries-empty = no_entries _ (sym (fin.len-entries (fin.empty {X = V} {R = bytes_cmp})) ∙ fin.len-empty bytes_cmp V)

  pub entries-insert : (m : FinMap bytes_cmp V) (k : List ℕ) (v : V) → fin.entries (fin.insert m k v) ≡ fin.put bytes_cmp k v (fin.entries m)
  entries-insert = fin.entries-insert bytes_cmp_total

  -- the keys of a map rise
  pub keys_rise : (m : FinMap bytes_cmp V) → IsStrictlySortedBy bytes_cmp (fin.keys m)
  keys_rise m = IsStrictlySortedBy-is_sorted (fin.entries m) (fin.entries_sorted m)

  -- an entry is what the map has at its key
  pub get_from_entry : (m : FinMap bytes_cmp V) (k : List ℕ) (v : V) → Contains (fin.entries m) (k, v) → fin.get m k ≡ Some v
  get_from_entry m k v h = fin.get-entries m k ∙ find_lookup (fin.entries m) k ∙ lookup-from_Contains (eq_by_cmp_equiv bytes_cmp_total) k v (fin.entries m) (IsDistinct-from_sorted bytes_cmp (fin.keys m) (keys_rise m)) h

  pub entry_from_get : (m : FinMap bytes_cmp V) (k : List ℕ) (v : V) → fin.get m k ≡ Some v → Contains (fin.entries m) (k, v)
  entry_from_get m k v h = Contains-from_lookup (λ x y t. (same_bytes_decides x y).0 (sym (eq_by_cmp-bytes_cmp x y) ∙ t)) k v (fin.entries m) (sym (find_lookup (fin.entries m) k) ∙ sym (fin.get-entries m k) ∙ h)

-- for `grind`, as `using(jc_base::proofs::maps::FiniteMaps::byte_maps)`: what a changed map has, and a change taken back
pub ruleset byte_maps = (get-insert, get-remove, insert-insert, remove-insert, remove_absent)
