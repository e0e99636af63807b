-- A name is looked for in names that rise.
use Rattle.std.proofs.Common.{◌≡◌, ℕ, zero, suc, ◌+◌, ◌<◌, ◌≤◌, false, List, [], ◌∷◌, length, refl, sym, ap, subst, ◌∙◌, arith, add-one, get_or}
use Rattle.std.specs.declared.cmp.Ordering.{Ordering}
use Rattle.std.specs.declared.cmp.Ordering.TheVariants.{Less, Equal, Greater}
use Rattle.std.specs.Ordering.{is_lt, ordering_index, ordering_reverse}
use Rattle.std.specs.List.Sorted.{IsStrictlySortedBy, IsNonDecreasingBy}
use Rattle.std.proofs.lemmas.List.{get_or-map}
use Rattle.std.specs.declared.vec.Vec.{Vec}
use Rattle.std.specs.declared.alloc.Global.{Global}
use Rattle.std.proofs.lemmas.List.Sorted.{searchable_from_sorted}
use Rattle.jc_base.proofs.maps.FiniteMaps.{bytes_cmp_total, bytes_cmp-IsAntisymmetric}
use Rattle.jc_classes.specs.Names.{Name, name_cmp, names_of}
use Rattle.jc_classes.specs.Numbers.{name_at}
use Rattle.jc_index.specs.inside.Places.{StandsAt, IsNarrowed}

adjacent : (ns : List Name) → IsStrictlySortedBy name_cmp ns → (k : ℕ) (d : Name) → suc k < length ns → name_cmp (get_or ns k d) (get_or ns (suc k) d) ≡ Less
unfolding IsStrictlySortedBy
adjacent [] h k d l = absurd (omega arith)
adjacent (x ∷ []) h k d l = absurd (omega arith)
adjacent (x ∷ y ∷ ns) h zero d l = h.0.0
adjacent (x ∷ y ∷ ns) h (suc k) d l = adjacent (y ∷ ns) h.1 k d (omega arith)

not_less : (a b : Name) → name_cmp a b ≡ Less → is_lt (name_cmp b a) ≡ false
not_less a b e = ap is_lt (bytes_cmp_total.antisymm b a ∙ ap ordering_reverse e)

pub falls_never : (ns : List Name) (name : Name) → IsStrictlySortedBy name_cmp ns → IsNonDecreasingBy (λ y. ordering_index (name_cmp y name)) ns
falls_never ns name h = searchable_from_sorted bytes_cmp_total (λ n. n) ns name (λ k d z l. subst (λ i. is_lt (name_cmp (get_or ns i d) (get_or ns k d)) ≡ false) (sym (add-one k)) (not_less (get_or ns k d) (get_or ns (suc k) d) (adjacent ns h k d (omega arith))))

less_index : (o p : Ordering) → ordering_index o ≤ ordering_index p → p ≡ Less → o ≡ Less
less_index Less p h e = refl
less_index Equal p h e = let f = ap ordering_index e in absurd (omega arith)
less_index Greater p h e = let f = ap ordering_index e in absurd (omega arith)

greater_index : (o p : Ordering) → ordering_index p ≤ ordering_index o → p ≡ Greater → o ≡ Greater
greater_index Greater p h e = refl
greater_index Equal p h e = let f = ap ordering_index e in absurd (omega arith)
greater_index Less p h e = let f = ap ordering_index e in absurd (omega arith)

-- before the search
pub narrowed_all : (ns : List Name) (name : Name) → IsNarrowed ns name 0 (length ns)
narrowed_all ns name = record { ordered = omega arith; fits = omega arith; below = λ k q. absurd (omega arith); above = λ k q l. absurd (omega arith) }

pub narrowed_up : (ns : List Name) (name : Name) (low high middle : ℕ) → IsStrictlySortedBy name_cmp ns → IsNarrowed ns name low high → middle < high → name_cmp (name_at ns middle) name ≡ Less → IsNarrowed ns name (middle + 1) high
narrowed_up ns name low high middle h n l e =
    let fits = n.fits in
    record {
      ordered = omega arith;
      fits = n.fits;
      below = λ k q. less_index _ _ (falls_never ns name h k middle [] (omega arith) (omega arith)) e;
      above = n.above;
    }

pub narrowed_down : (ns : List Name) (name : Name) (low high middle : ℕ) → IsStrictlySortedBy name_cmp ns → IsNarrowed ns name low high → low ≤ middle → middle < high → name_cmp (name_at ns middle) name ≡ Greater → IsNarrowed ns name low middle
narrowed_down ns name low high middle h n m l e =
    let fits = n.fits in
    record {
      ordered = m;
      fits = omega arith;
      below = n.below;
      above = λ k q m. greater_index _ _ (falls_never ns name h middle k [] q m) e;
    }

pub found_here : (ns : List Name) (name : Name) (i : ℕ) → i < length ns → name_cmp (name_at ns i) name ≡ Equal → StandsAt ns name i
found_here ns name i l e = (l, bytes_cmp-IsAntisymmetric _ _ e)

-- how a held name compares to the one that is looked for
pub held_at : (xs : List (Vec ℕ Global)) (i : ℕ) (x : Vec ℕ Global) (held name : Name) (o : Ordering) → i < length xs → x ≡ get_or xs i x → held ≡ x.items → o ≡ name_cmp held name → name_cmp (name_at (names_of xs) i) name ≡ o
held_at xs i x held name o l e f g =
    let here : name_at (names_of xs) i ≡ held = get_or-map (λ (v : Vec ℕ Global). v.items) xs i x [] l ∙ ap (λ (v : Vec ℕ Global). v.items) (sym e) ∙ sym f in
    ap (λ z. name_cmp z name) here ∙ sym g
