-- Errors of inheritance, from numbers to names.
use Rattle.std.proofs.Common.{◌≡◌, ◌∙◌, ℕ, ◌<◌, Bool, List, [], ◌∷◌, ◌++◌, None, Some, length, map, refl, sym, ap, subst, ⊎_elim, arith}
use Rattle.std.specs.Bool.{Decides}
use Rattle.std.specs.Prelude.{slice_get, unwrap_or}
use Rattle.std.proofs.lemmas.Option.{unwrap_or-slice_get}
use Rattle.std.specs.Borrow.{Bor}
use Rattle.std.specs.List.{All}
use Rattle.std.proofs.lemmas.List.Elements.{All-head, All-tail}
use Rattle.jc_classes.proofs.worlds.One.{load_one}
use Rattle.std.specs.List.Sorted.{IsStrictlySortedBy}
use Rattle.jc_file.specs.AccessFlags.{final, has}
use Rattle.jc_classes.specs.Facts.{Facts, Key, Member}
use Rattle.jc_classes.specs.Inheritance.{AreErrors, AreErrorsOf, AreInherited, AreOverridden, Inherited, InheritanceErrors}
use Rattle.jc_classes.specs.Inheritance.AreOverridden.{none, passes, some}
use Rattle.jc_classes.specs.Lent.{stands_of}
use Rattle.jc_classes.specs.MemberOrder.{IsOrder, key_at}
use Rattle.jc_classes.specs.Names.{Name}
use Rattle.jc_classes.specs.Overriding.{ExtendsFinal, IsFinalAbove, OverridesFinal}
use Rattle.jc_classes.specs.Worlds.{World, flags_of, key_of, methods_of}
use Rattle.jc_classes.specs.declared.standing.Standing.{Standing}
use Rattle.jc_classes.specs.declared.standing.Standing.TheVariants as standing
use Rattle.jc_numbered.specs.inside.Indexed.{Indexed, IsGraph, IsIndexed, indexed_name, standing_of, superclass_at}
use Rattle.jc_numbered.specs.declared.loads.Load.{Load}
use Rattle.jc_numbered.specs.inside.Loading.{load_at}
use Rattle.jc_resolve.specs.inside.Resolved.{AreLoads, loading_of}
use Rattle.jc_numbered.proofs.lookups.Chain.{super_is, super_node}
use Rattle.jc_resolve.specs.inside.Inheritance.{AddsOverridden, TellErrors, TellsErrorsOf, TellsOverridden}

some_is : {X : Type 0} {a b : X} → Some a ≡ Some b → a ≡ b
some_is e = cc

-- ---- FINAL superclasses

module _ (count : ℕ) (x : Indexed) (graph : IsGraph count x) (m : World) (index : IsIndexed m x) (c : ℕ) (class : c < count) where
  pub final_decided : (s : ℕ) (b : Bool) → superclass_at x c ≡ Some s → b ≡ has (flags_of (standing_of x s)) final
      → Decides b (ExtendsFinal m (indexed_name x c))
  final_decided s b e is =
      let super = super_is count x graph m index c s class e in
      let node = super_node count x graph c s e in
      let flags : has (flags_of (m (indexed_name x s))) final ≡ b
      = ap (λ r. has (flags_of r) final) (index.standing s (let names = graph.names in omega arith)) ∙ sym is in (
        λ h. (indexed_name x s, super, flags ∙ h),
        λ h. sym flags ∙ ap (λ n. has (flags_of (m n)) final) (some_is (sym super ∙ h.1)) ∙ h.2,
      )

-- ---- overridden methods

-- a number beyond the methods has an empty key
pub key_past : (ms : List Member) (number : ℕ) → slice_get ms number ≡ None → record { name = []; descriptor = [] } ≡ key_at ms number
key_past ms number e =
    let none : Member = record { name = []; descriptor = []; flags = 0 } in
    ap key_of (ap (λ o. unwrap_or o none) (sym e) ∙ unwrap_or-slice_get ms number none)

one_more : {m : World} {c : Name} {ks : List Key} {fs : List Inherited} (k : Key) (a : Name) → AreOverridden m c ks fs → OverridesFinal m k c a
    → AreOverridden m c (ks ++ k ∷ []) (fs ++ record { home = a; key = k } ∷ [])
one_more k a none o = some o none
one_more k a (some p more) o = some p (one_more k a more o)
one_more k a (passes p more) o = passes p (one_more k a more o)

one_passed : {m : World} {c : Name} {ks : List Key} {fs : List Inherited} (k : Key) → AreOverridden m c ks fs
    → ((a : Name) → IsFinalAbove m k c a → ⊥) → AreOverridden m c (ks ++ k ∷ []) fs
one_passed k none o = passes o none
one_passed k (some p more) o = some p (one_passed k more o)
one_passed k (passes p more) o = passes p (one_passed k more o)

pub overridden_on : (x : Indexed) (c : ℕ) (m : World) → IsIndexed m x → (ks next : List Key) (k : Key) (old new : List Inherited)
    → AddsOverridden x c k old new → next ≡ ks ++ k ∷ [] → AreOverridden m (indexed_name x c) ks old → AreOverridden m (indexed_name x c) next new
overridden_on x c m index ks next k old new adds e are =
    subst (λ z. AreOverridden m (indexed_name x c) z new) (sym e) (⊎_elim
    (λ p. subst (λ z. AreOverridden m (indexed_name x c) (ks ++ k ∷ []) z) (sym p.2) (one_more k p.0 are (p.1 m index)))
    (λ p. subst (λ z. AreOverridden m (indexed_name x c) (ks ++ k ∷ []) z) (sym p.1) (one_passed k are (p.0 m index)))
    adds)

pub no_methods : (s : Standing) → ((f : Bor Facts) → s ≡ standing.Class f → ⊥) → methods_of (stands_of s) ≡ []
no_methods (standing.Class f) e = absurd (e f refl)
no_methods standing.Outside e = refl
no_methods standing.Absent e = refl

-- a class without a record has no methods
pub none_overridden : (x : Indexed) (c : ℕ) (found : List Inherited) → methods_of (standing_of x c) ≡ [] → found ≡ [] → TellsOverridden x c found
unfolding IsStrictlySortedBy
none_overridden x c found e f = record {
  order = [];
  is_order = subst (λ ms. IsOrder ms []) (sym e) no_order;
  are = λ m index. subst (AreOverridden m (indexed_name x c) []) (sym f) none;
}
  where
    no_order : IsOrder [] []
    no_order = record {
      rises = tt;
      sound = λ number h. absurd (let k = h.1 in omega arith);
      complete = λ number l. absurd (omega arith);
    }

pub are_errors : (x : Indexed) (c : ℕ) (m : World) → IsIndexed m x → c < length x.names → (e : InheritanceErrors)
    → Decides e.extends_final (ExtendsFinal m (indexed_name x c)) → TellsOverridden x c e.overridden → AreErrors m (indexed_name x c) e
are_errors x c m index l e extends tells = record {
  extends_final = extends;
  order = tells.order;
  is_order = subst (λ r. IsOrder (methods_of r) tells.order) (sym (index.standing c l)) tells.is_order;
  overridden = subst (λ r. AreOverridden m (indexed_name x c) (map (key_at (methods_of r)) tells.order) e.overridden) (sym (index.standing c l)) (tells.are m index);
}

-- ---- many classes

-- the errors of one more node
pub one_told : (x : Indexed) (loads : List Load) (vs : List ℕ) (es : List InheritanceErrors) (v : ℕ) (e : InheritanceErrors) → TellErrors x loads vs es
    → TellsErrorsOf x (load_at loads v) v e → TellErrors x loads (vs ++ v ∷ []) (es ++ e ∷ [])
one_told x loads [] [] v e are is = (is, tt)
one_told x loads (w ∷ vs) (f ∷ es) v e are is = (are.0, one_told x loads vs es v e are.1 is)
one_told x loads [] (f ∷ es) v e are is = absurd are
one_told x loads (w ∷ vs) [] v e are is = absurd are

-- by how the class loads
errors_by_load : (x : Indexed) (m : World) → IsIndexed m x → (load : Load) (c : ℕ) (e : InheritanceErrors) → TellsErrorsOf x load c e
    → AreErrorsOf m (indexed_name x c) (loading_of x load) e
errors_by_load x m index Load.Loaded c e t = t.loaded refl m index
errors_by_load x m index Load.Outside c e t = t.others (λ h. absurd cc)
errors_by_load x m index (Load.Fails error node) c e t = t.others (λ h. absurd cc)

pub are_inherited : (count : ℕ) (x : Indexed) (loads : List Load) (m : World) → IsIndexed m x → AreLoads count x loads
    → (vs : List ℕ) (es : List InheritanceErrors) → All (λ v. v < count) vs → TellErrors x loads vs es → AreInherited m (map (indexed_name x) vs) es
are_inherited count x loads m index told [] [] within are = tt
are_inherited count x loads m index told (v ∷ vs) (e ∷ es) within are = (
  (λ how load.
      let same = load_one (told m index v (All-head (λ z. z < count) v vs within)) load in
      subst (λ z. AreErrorsOf m (indexed_name x v) z e) same (errors_by_load x m index (load_at loads v) v e are.0)),
  are_inherited count x loads m index told vs es (All-tail (λ z. z < count) v vs within) are.1,
)
are_inherited count x loads m index told [] (e ∷ es) within are = absurd are
are_inherited count x loads m index told (v ∷ vs) [] within are = absurd are
