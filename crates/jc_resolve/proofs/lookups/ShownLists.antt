-- The lists of classes as data.
use Rattle.std.proofs.Common.{◌≡◌, ◌∙◌, ℕ, ◌<◌, zero, suc, List, [], ◌∷◌, None, Option, Some, length, map, refl, sym, ap, arith}
use Rattle.std.specs.List.{Contains}
use Rattle.std.specs.Option.{option_map_or}
use Rattle.std.specs.Prelude.{option_map, slice_get, slice_index_or}
use Rattle.std.specs.declared.alloc.Global.{Global}
use Rattle.std.specs.declared.vec.Vec.{Vec}
use Rattle.jc_classes.specs.Inheritance.{Inherited}
use Rattle.jc_resolve.proofs.lookups.AbstractLemmas.{get_in}
use Rattle.jc_graph.specs.Graph.{successors_of}
use Rattle.jc_resolve.specs.Methods.{AreWithin, inherited_of, method_at, methods_in, numbers_at}
use Rattle.jc_resolve.specs.declared.abstract_methods.AbstractMethod.{AbstractMethod}

-- the methods of the class at a place
pub shown_at : (methods : List AbstractMethod) (lists : List (Vec ℕ Global)) (list_of : List ℕ) (place : ℕ)
    → slice_index_or (map (methods_in methods lists) list_of) place [] ≡ map (method_at methods) (numbers_at lists list_of place)
shown_at methods lists [] place = refl
shown_at methods lists (n ∷ ns) zero = refl
shown_at methods lists (n ∷ ns) (suc place) = shown_at methods lists ns place

pub get_map : (methods : List AbstractMethod) (is : List ℕ) (at : ℕ) → slice_get (map (method_at methods) is) at ≡ option_map (method_at methods) (slice_get is at)
get_map methods [] at = refl
get_map methods (i ∷ is) zero = refl
get_map methods (i ∷ is) (suc at) = get_map methods is at

-- a number within the methods has a method
pub method_within : (methods : List AbstractMethod) (i : ℕ) → i < length methods → option_map inherited_of (slice_get methods i) ≡ Some (method_at methods i)
method_within [] i l = absurd (omega (arith, l))
method_within (e ∷ methods) zero l = refl
method_within (e ∷ methods) (suc i) l = method_within methods i (omega (arith, l))

-- the numbers at a place are within
pub place_within : (methods : List AbstractMethod) (lists : List (Vec ℕ Global)) (list_of : List ℕ) → AreWithin methods lists list_of → (place i : ℕ)
    → Contains (numbers_at lists list_of place) i → i < length methods
place_within methods lists list_of w place i h = by (slice_get list_of place) refl h
  where
    by : (o : Option ℕ) → slice_get list_of place ≡ o → Contains (option_map_or (successors_of lists) o []) i → i < length methods
    by None e k = absurd (let q = k.1 in omega arith)
    by (Some n) e k = w n i (get_in list_of place n e) k

-- the method at a place of the list of a class
pub method_shown : (methods : List AbstractMethod) (lists : List (Vec ℕ Global)) (list_of : List ℕ) (shown : List (List Inherited)) → map (methods_in methods lists) list_of ≡ shown
    → (place at : ℕ) (numbers : List ℕ) → numbers ≡ numbers_at lists list_of place
    → slice_get (slice_index_or shown place []) at ≡ option_map (method_at methods) (slice_get numbers at)
method_shown methods lists list_of shown view place at numbers e =
    ap (λ z. slice_get (slice_index_or z place []) at) (sym view) ∙ ap (λ z. slice_get z at) (shown_at methods lists list_of place)
    ∙ ap (λ z. slice_get (map (method_at methods) z) at) (sym e) ∙ get_map methods numbers at
