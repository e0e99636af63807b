-- Names that classes reach, one after another.
use Rattle.std.proofs.Common.{◌≡◌, ◌∙◌, ◌<◌, ◌≤◌, ◌+◌, ◌⊎◌, ⊎_elim, inl, inr, ℕ, zero, suc, List, [], ◌∷◌, ◌++◌, Option, Some, map, option_map, length, length-append, arith, ap, sym, subst}
use Rattle.std.proofs.lemmas.List.{get_or_append_left, get_or_push}
use Rattle.std.specs.List.{All, Contains}
use Rattle.jc_classes.specs.Facts.{Reference}
use Rattle.jc_classes.specs.Names.{Name, object}
use Rattle.jc_classes.specs.Numbers.{Grows, name_at}
use Rattle.jc_classes.specs.Parts.{Reach, class_of, names_in}
use Rattle.jc_classes.specs.Worlds.{Stands, World, references_of, supertypes_of}
use Rattle.jc_link.specs.Graphs.{IsReached}
use Rattle.jc_link.specs.inside.Gathering.{Nodes, stand_at}
use Rattle.jc_link.specs.inside.GraphAsked.{AreReferredIn}
use Rattle.jc_link.specs.inside.GraphShown.{AllReached, AreKept, AreReferred, class_at, nodes_at}
use Rattle.jc_link.proofs.reaches.Gathered.{nodes_same}

under : (i n : ℕ) → (i < n) ⊎ (n ≤ i)
under i n = grind arith

-- what a class reaches was added
pub reached_more : (m : World) (classes a b added : List Name) (d : Name) → Contains classes d → AllReached m classes a → Grows a b added
    → ((n : Name) → Contains added n → Reach m d n) → AllReached m classes b
reached_more m classes a b added d there all grows reach = λ i l. ⊎_elim
    (λ (p : i < length a). subst (IsReached m classes) (sym (grows.same i p)) (all i p))
    (λ (p : length a ≤ i). (d, there, reach (name_at b i) (grows.only i p l)))
    (under i (length a))

-- the supertypes of a name that is reached
pub reached_up : (m : World) (classes a b : List Name) (at : ℕ) (o : Stands) → at < length a → o ≡ m (name_at a at) → AllReached m classes a
    → Grows a b (supertypes_of o) → AllReached m classes b
reached_up m classes a b at o l is all grows =
    let by = all at l in
    reached_more m classes a b (supertypes_of o) by.0 by.1 all grows
    (λ n h. Reach.upward by.2 (subst (λ s. Contains (supertypes_of s) n) is h))

-- what the references of a class name
pub reached_by : (m : World) (classes a b : List Name) (d : Name) (o : Stands) → Contains classes d → o ≡ m d → AllReached m classes a
    → Grows a b (names_in (references_of o)) → AllReached m classes b
reached_by m classes a b d o there is all grows =
    reached_more m classes a b (names_in (references_of o)) d there all grows
    (λ n h. Reach.reference (subst (λ s. Contains (names_in (references_of s)) n) is h))

-- names of classes, and `java/lang/Object` behind them
pub reached_first : (m : World) (classes a b : List Name) (d : Name) → Contains classes d → ((i : ℕ) → i < length a → Contains classes (name_at a i))
    → Grows a b (object ∷ []) → AllReached m classes b
reached_first m classes a b d there only grows =
    reached_more m classes a b (object ∷ []) d there (λ i p. (name_at a i, only i p, Reach.itself)) grows (λ n h. subst (Reach m d) (one n h) Reach.always)
  where
    one : (n : Name) → Contains (object ∷ []) n → object ≡ n
    one n (zero, l, e) = e
    one n (suc k, l, e) = absurd (omega (arith, l))

-- ---- the numbers of the classes that references name

pub referred_none : (m : World) (ns : List Name) (classes : List ℕ) → AreReferredIn m ns classes []
referred_none m ns classes = record { few = omega arith; named = λ i l. absurd (omega (arith, l)); within = λ i v l c. absurd (omega (arith, l)) }

-- behind more names
pub referred_kept : (m : World) (a b : List Name) (classes : List ℕ) (references : List (List (Option ℕ))) → All (λ v. v < length a) classes
    → AreReferredIn m a classes references → AreKept a b → AreReferredIn m b classes references
referred_kept m a b classes references classes_in g kept =
    let longer = kept.longer in
    record {
      few = g.few;
      named = λ i l.
          nodes_same a b (nodes_at references i) kept.same (λ v c. g.within i v l c)
          ∙ g.named i l
          ∙ ap (λ n. map (λ (r : Reference). class_of r.named) (references_of (m n))) (sym (kept.same (class_at classes i) (classes_in i 0 (omega (arith, l, g.few)))));
      within = λ i v l c. let w = g.within i v l c in omega (arith, w, longer);
    }

-- those of one more class
pub referred_one : (m : World) (a b : List Name) (classes : List ℕ) (references : List (List (Option ℕ))) (o : Stands) (nodes : List (Option ℕ))
    → All (λ v. v < length a) classes → AreReferredIn m a classes references → length references < length classes
    → o ≡ m (name_at a (class_at classes (length references))) → Nodes a [] b nodes (references_of o) → AreReferredIn m b classes (references ++ nodes ∷ [])
referred_one m a b classes references o nodes classes_in g less is more =
    let kept : AreKept a b = record { longer = more.grows.longer; same = more.grows.same } in
    let before = referred_kept m a b classes references classes_in g kept in
    let size = length-append references (nodes ∷ []) in
    let class = class_at classes (length references) in
    record {
      few = omega (arith, size, less);
      named = λ i l. ⊎_elim
          (λ (p : i < length references).
          ap (map (option_map (name_at b))) (get_or_append_left references (nodes ∷ []) [] i p) ∙ before.named i p)
          (λ (p : length references ≡ i).
          ap (map (option_map (name_at b))) (get_or_push references nodes [] i p)
          ∙ more.named
          ∙ ap (λ s. map (λ (r : Reference). class_of r.named) (references_of s))
          (is ∙ ap m (sym (more.grows.same class (classes_in (length references) 0 less)) ∙ ap (λ k. name_at b (class_at classes k)) p)))
          (place_cases (length references) i (omega (arith, l, size)));
      within = λ i v l c. ⊎_elim
          (λ (p : i < length references). before.within i v p (subst (λ (xs : List (Option ℕ)). Contains xs (Some v)) (get_or_append_left references (nodes ∷ []) [] i p) c))
          (λ (p : length references ≡ i). more.within v (subst (λ (xs : List (Option ℕ)). Contains xs (Some v)) (get_or_push references nodes [] i p) c))
          (place_cases (length references) i (omega (arith, l, size)));
    }
  where
    place_cases : (n i : ℕ) → i < n + 1 → (i < n) ⊎ (n ≡ i)
    place_cases n i l = ⊎_elim inl (λ (e : n ≤ i). inr (omega (arith, e, l))) (under i n)

-- by what stands at each name
pub referred_there : (m : World) (ns : List Name) (st : List Stands) (classes : List ℕ) (references : List (List (Option ℕ)))
    → ((i : ℕ) → i < length ns → stand_at st i ≡ m (name_at ns i)) → All (λ v. v < length ns) classes → length references ≡ length classes
    → AreReferredIn m ns classes references → AreReferred ns st classes references
referred_there m ns st classes references stands classes_in size g = record {
  classes_in = classes_in;
  size = size;
  named = λ i l. g.named i l ∙ ap (λ s. map (λ (r : Reference). class_of r.named) (references_of s)) (sym (stands (class_at classes i) (classes_in i 0 (omega (arith, l, size)))));
  within = g.within;
}
