-- The entries of a `BTreeMap` whose keys compare as the numbers that spell them, as those of a finite map.
use Rattle.std.proofs.Common.{◌≡◌, ℕ, Bool, true, false, cond, ◌&&◌, suc, T, List, [], ◌∷◌, map, length, Option, Some, None, refl, sym, ap, subst, ◌∙◌, ⊎_elim}
use Rattle.std.specs.declared.cmp.Ordering.{Ordering}
use Rattle.std.specs.declared.cmp.Ordering.TheVariants.{Less}
use Rattle.std.specs.Option.{IsSome}
use Rattle.std.specs.List.{AllByRecursion}
use Rattle.std.specs.List.Sorted.{IsStrictlySortedBy}
use Rattle.std.specs.Ordering.{is_lt, eq_by_cmp}
use Rattle.std.specs.Cmp.{eq_by_cmp_equiv, Equal-is}
use Rattle.std.specs.Map.{lookup, keys_of, IsKeyTest, AreApart, KeepsOthers}
use Rattle.std.specs.BTreeMap.{BTreeMap, UpdatesBy, WritesThrough, get_by, is_at}
use Rattle.std.specs.FinMap as fin
use Rattle.std.specs.FinMap.{FinMap}
use Rattle.std.specs.FinMap.Entries.{below_all}
use Rattle.std.proofs.lemmas.Bool.{cases_Bool, cond-true, cond-false}
use Rattle.jc_base.specs.Bytes.{bytes_cmp}
use Rattle.jc_base.proofs.Common.{both_hold}
use Rattle.jc_base.proofs.maps.FiniteMaps.{bytes_cmp_total, bytes_cmp-IsAntisymmetric, same_map, entries-from_entries}

exact : (a b : List ℕ) → eq_by_cmp bytes_cmp a b ≡ true → a ≡ b
exact a b h = bytes_cmp-IsAntisymmetric a b ((Equal-is (bytes_cmp a b)).0 h)

apart : (k q x : List ℕ) → eq_by_cmp bytes_cmp q k ≡ false → eq_by_cmp bytes_cmp k x ≡ true → eq_by_cmp bytes_cmp q x ≡ false
apart k q x n y =
    let laws = eq_by_cmp_equiv bytes_cmp_total in
    laws.symm q x ∙ sym (laws.congr k x q y) ∙ laws.symm k q ∙ n

module _ {K : Type 0} (spell : K → List ℕ) where
  -- how keys compare
  abbrev pub key_cmp : K → K → Ordering
  key_cmp x y = bytes_cmp (spell x) (spell y)

  -- how the bytes bs compare to a key
  abbrev pub query : List ℕ → K → Ordering
  query bs x = bytes_cmp bs (spell x)

  abbrev pub spelled_keys : List K → List (List ℕ)
  spelled_keys ks = map spell ks

module _ {K V : Type 0} (spell : K → List ℕ) where
  -- the entries, with each key as it is spelled
  abbrev pub spelled_entries : List (K × V) → List (List ℕ × V)
  spelled_entries es = map (λ e. (spell e.0, e.1)) es

  -- the finite map of the entries
  abbrev pub finite : List (K × V) → FinMap bytes_cmp V
  finite es = fin.from_entries (spelled_entries es)

  find-spelled_entries : (es : List (K × V)) (q : List ℕ) → fin.find bytes_cmp q (spelled_entries es) ≡ lookup (is_at (query spell q)) es
  find-spelled_entries [] q = refl
  find-spelled_entries (e ∷ es) q = ap (cond (eq_by_cmp bytes_cmp q (spell e.0)) (Some e.1)) (find-spelled_entries es q)

  -- the finite map has at a string what the entries have
  pub get-finite : (es : List (K × V)) (q : List ℕ) → fin.get (finite es) q ≡ lookup (is_at (query spell q)) es
  get-finite es q = fin.get-from_entries bytes_cmp_total (spelled_entries es) q ∙ find-spelled_entries es q

  below_key : (k : K) (es : List (K × V)) → AllByRecursion (λ x. (key_cmp spell) k x ≡ Less) (keys_of es) → T (below_all bytes_cmp (spell k) (spelled_entries es))
  below_key k [] h = tt
  below_key k (e ∷ es) h = subst (λ r. T (is_lt r && below_all bytes_cmp (spell k) (spelled_entries es))) (sym h.0) (below_key k es h.1)

  is_sorted-spelled_entries : (es : List (K × V)) → IsStrictlySortedBy (key_cmp spell) (keys_of es) → T (fin.is_sorted bytes_cmp (spelled_entries es))
  unfolding IsStrictlySortedBy
  is_sorted-spelled_entries [] h = tt
  is_sorted-spelled_entries (e ∷ es) h = both_hold _ _ (below_key e.0 es h.0) (is_sorted-spelled_entries es h.1)

  -- entries whose keys rise are the finite map's
  pub entries-finite : (es : List (K × V)) → IsStrictlySortedBy (key_cmp spell) (keys_of es) → fin.entries (finite es) ≡ spelled_entries es
  entries-finite es h = entries-from_entries (spelled_entries es) (is_sorted-spelled_entries es h)

  spelled_keys-keys_of : (es : List (K × V)) → spelled_keys spell (keys_of es) ≡ map (λ e. e.0) (spelled_entries es)
  spelled_keys-keys_of [] = refl
  spelled_keys-keys_of (e ∷ es) = ap (λ ks. spell e.0 ∷ ks) (spelled_keys-keys_of es)

  pub keys-finite : (es : List (K × V)) → IsStrictlySortedBy (key_cmp spell) (keys_of es) → fin.keys (finite es) ≡ spelled_keys spell (keys_of es)
  keys-finite es h = ap (map (λ e. e.0)) (entries-finite es h) ∙ sym (spelled_keys-keys_of es)

  length-spelled_entries : (es : List (K × V)) → length (spelled_entries es) ≡ length es
  length-spelled_entries [] = refl
  length-spelled_entries (e ∷ es) = ap suc (length-spelled_entries es)

  pub len-finite : (es : List (K × V)) → IsStrictlySortedBy (key_cmp spell) (keys_of es) → length es ≡ fin.len (finite es)
  len-finite es h = sym (fin.len-entries (finite es) ∙ ap length (entries-finite es h) ∙ length-spelled_entries es)

  other_entries : (eq : K → K → Bool) (test : K → Bool) (old new : List (K × V)) → KeepsOthers eq test old new → (other : K → Bool) → IsKeyTest eq other → AreApart test other → lookup other new ≡ lookup other old
  unfolding KeepsOthers
  other_entries eq test old new h = h

  -- a change at the bytes k, for any bytes q
  updated : (k : List ℕ) (m n : BTreeMap K V) (w : Option V) → UpdatesBy (key_cmp spell) (query spell k) m n w → (q : List ℕ) → lookup (is_at (query spell q)) n.entries ≡ cond (eq_by_cmp bytes_cmp q k) w (lookup (is_at (query spell q)) m.entries)
  updated k m n w h q =
      let laws = eq_by_cmp_equiv bytes_cmp_total in
      let old = lookup (is_at (query spell q)) m.entries in
      ⊎_elim
      (λ y. subst (λ l. lookup (is_at (query spell l)) n.entries ≡ w) (sym (exact q k y)) h.1 ∙ sym (cond-true (eq_by_cmp bytes_cmp q k) w old y))
      (λ no. other_entries _ _ _ _ h.3 (is_at (query spell q)) (λ x y. laws.congr q (spell x) (spell y)) (λ x. apart k q (spell x) no) ∙ sym (cond-false (eq_by_cmp bytes_cmp q k) w old no))
      (cases_Bool (eq_by_cmp bytes_cmp q k))

  pub insert-finite : (k : List ℕ) (m n : BTreeMap K V) (v : V) → UpdatesBy (key_cmp spell) (query spell k) m n (Some v) → finite n.entries ≡ fin.insert (finite m.entries) k v
  insert-finite k m n v h = same_map _ _ (λ q. get-finite n.entries q ∙ updated k m n (Some v) h q ∙ sym (fin.get-insert bytes_cmp_total (finite m.entries) k v q ∙ ap (cond (eq_by_cmp bytes_cmp q k) (Some v)) (get-finite m.entries q)))

  pub remove-finite : (k : List ℕ) (m n : BTreeMap K V) → UpdatesBy (key_cmp spell) (query spell k) m n None → finite n.entries ≡ fin.remove (finite m.entries) k
  remove-finite k m n h = same_map _ _ (λ q. get-finite n.entries q ∙ updated k m n None h q ∙ sym (fin.get-remove bytes_cmp_total (finite m.entries) k q ∙ ap (cond (eq_by_cmp bytes_cmp q k) None) (get-finite m.entries q)))

  -- what was written through a loan of the value at k
  pub written-finite : (k : List ℕ) (m n : BTreeMap K V) (w : V) → IsSome (get_by (query spell k) m) → WritesThrough (key_cmp spell) (query spell k) m w n → finite n.entries ≡ fin.insert (finite m.entries) k w
  written-finite k m n w there h = insert-finite k m n w (h.3 there)
