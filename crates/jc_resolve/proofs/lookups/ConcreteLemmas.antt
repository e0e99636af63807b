-- Concrete classes.
use Rattle.std.proofs.Common.{◌≡◌, ◌∙◌, ℕ, ◌<◌, Bool, true, false, not, ◌&&◌, is_some, List, None, Option, Some, refl, sym, ap, subst, arith}
use Rattle.std.proofs.lemmas.Bool.{false≢true}
use Rattle.std.specs.Bool.{Decides}
use Rattle.jc_file.specs.AccessFlags.{abstract, has, interface}
use Rattle.jc_classes.specs.Loading.{Load as Loads, Loading as loading}
use Rattle.jc_classes.specs.Names.{Name}
use Rattle.jc_classes.specs.Resolution.{IsOutsideAbove}
use Rattle.jc_classes.specs.Worlds.{World, flags_of}
use Rattle.jc_classes.proofs.worlds.One.{load_one}
use Rattle.jc_numbered.specs.declared.loads.Load.{Load}
use Rattle.jc_numbered.specs.declared.loads.Load.TheVariants as state
use Rattle.jc_numbered.specs.inside.Indexed.{Indexed, IsGraph, IsIndexed, indexed_name, standing_of}
use Rattle.jc_numbered.specs.inside.Loading.{load_at}
use Rattle.jc_numbered.specs.inside.Outside.{TellsOutside}
use Rattle.jc_classes.specs.Selection.{IsConcrete}
use Rattle.jc_resolve.specs.inside.Resolved.{AreLoads, has_loaded, loading_of}
use Rattle.jc_resolve.specs.inside.Unimplemented.{is_loaded_class}

both : (a b : Bool) → (a && b) ≡ true → (a ≡ true) × (b ≡ true)
both true b e = (refl, e)
both false b e = absurd (false≢true e)

not_yes : (b : Bool) → not b ≡ true → b ≡ false
not_yes true e = absurd (false≢true e)
not_yes false e = refl

loaded_is : (x : Indexed) (l : Load) → loading_of x l ≡ loading.Loaded → has_loaded l ≡ true
loaded_is x state.Loaded e = refl
loaded_is x state.Outside e = absurd cc
loaded_is x (state.Fails f v) e = absurd cc

has_is : (x : Indexed) (l : Load) → has_loaded l ≡ true → loading_of x l ≡ loading.Loaded
has_is x state.Loaded e = refl
has_is x state.Outside e = absurd (false≢true e)
has_is x (state.Fails f v) e = absurd (false≢true e)

pub loaded_state : (l : Load) → has_loaded l ≡ true → l ≡ state.Loaded
loaded_state state.Loaded e = refl
loaded_state state.Outside e = absurd (false≢true e)
loaded_state (state.Fails f v) e = absurd (false≢true e)

pub class_loaded : (x : Indexed) (loads : List Load) (v : ℕ) → is_loaded_class x loads v ≡ true → has_loaded (load_at loads v) ≡ true
class_loaded x loads v e = (both (has_loaded (load_at loads v)) _ e).0

module _ (count : ℕ) (x : Indexed) (graph : IsGraph count x) (loads : List Load) (told : AreLoads count x loads) (v : ℕ) (l : v < count) (m : World) (index : IsIndexed m x) where
  here : m (indexed_name x v) ≡ standing_of x v
  here = index.standing v (let q = graph.names in omega arith)

  concrete_loaded : IsConcrete m (indexed_name x v) → is_loaded_class x loads v ≡ true
  concrete_loaded c =
      let a = loaded_is x (load_at loads v) (load_one (told m index v l) c.loads) in
      let b : has (flags_of (standing_of x v)) interface ≡ false = ap (λ s. has (flags_of s) interface) (sym here) ∙ c.is_class in
      let d : has (flags_of (standing_of x v)) abstract ≡ false = ap (λ s. has (flags_of s) abstract) (sym here) ∙ c.not_abstract in
      ap (λ z. z && (not (has (flags_of (standing_of x v)) interface) && not (has (flags_of (standing_of x v)) abstract))) a
      ∙ ap (λ z. not z && not (has (flags_of (standing_of x v)) abstract)) b ∙ ap not d

  loaded_concrete : is_loaded_class x loads v ≡ true → ((n : Name) → IsOutsideAbove m (indexed_name x v) n → ⊥) → IsConcrete m (indexed_name x v)
  loaded_concrete e known =
      let p = both (has_loaded (load_at loads v)) _ e in
      let q = both _ _ p.1 in
      record {
        loads = subst (Loads m (indexed_name x v)) (has_is x (load_at loads v) p.0) (told m index v l);
        is_class = ap (λ s. has (flags_of s) interface) here ∙ not_yes _ q.0;
        not_abstract = ap (λ s. has (flags_of s) abstract) here ∙ not_yes _ q.1;
        known = known;
      }

  pub not_concrete : (b : Bool) → b ≡ is_loaded_class x loads v → b ≡ false → Decides false (IsConcrete m (indexed_name x v))
  not_concrete b e n = (λ h. absurd (false≢true h), λ c. absurd (false≢true (sym n ∙ e ∙ concrete_loaded c)))

  pub concrete_decided : (b : Bool) → b ≡ is_loaded_class x loads v → b ≡ true → (r : Option ℕ) (none : Bool) → is_some r ≡ not none
      → TellsOutside m x (indexed_name x v) r → Decides none (IsConcrete m (indexed_name x v))
  concrete_decided b e n None true s t = (λ h. loaded_concrete (sym e ∙ n) t, λ c. refl)
  concrete_decided b e n None false s t = absurd (false≢true s)
  concrete_decided b e n (Some w) true s t = absurd (false≢true (sym s))
  concrete_decided b e n (Some w) false s t = (λ h. absurd (false≢true h), λ c. absurd (c.known (indexed_name x w) t.0))
