-- Where look-up begins.
use Rattle.std.proofs.Common.{◌≡◌, ℕ, ◌<◌, Bool, List, Some, None, refl, sym, ap, subst, ◌∙◌}
use Rattle.jc_classes.specs.Names.{Name, object as java_lang_object}
use Rattle.jc_classes.specs.Worlds.{World, flags_of}
use Rattle.jc_classes.specs.Facts.Named.{Class, Array}
use Rattle.jc_classes.specs.Loading.{Load, can_see}
use Rattle.jc_classes.specs.Resolution.{Start, Starts, ResolvesClass as rclass, class_answer, start_of, object_start}
use Rattle.jc_classes.specs.Resolution.Starts.{starts}
use Rattle.jc_numbered.specs.inside.Indexed.{Indexed, indexed_name, standing_of, IsGraph, IsIndexed}
use Rattle.jc_resolve.specs.inside.Resolved.{loading_of, TellsLoads}
use Rattle.jc_numbered.specs.inside.Loading.{load_at}
use Rattle.jc_numbered.specs.declared.loads.Load.{Load as LoadState}
use Rattle.jc_numbered.proofs.lookups.Bridge.{named}

module _ (m : World) (count : ℕ) (x : Indexed) (graph : IsGraph count x) (index : IsIndexed m x) (loads : List LoadState) (tells : TellsLoads m x count loads)
    (object : ℕ) (within : object < count) (is_object : indexed_name x object ≡ java_lang_object) (d : Name) where
  object_loads : (lo : LoadState) → lo ≡ load_at loads object → Load m java_lang_object (loading_of x lo)
  object_loads lo e = subst (λ z. Load m java_lang_object (loading_of x z)) (sym e) (subst (λ n. Load m n (loading_of x (load_at loads object))) is_object (tells object within))

  node_loads : (v : ℕ) → v < count → (l : LoadState) → l ≡ load_at loads v → Load m (indexed_name x v) (loading_of x l)
  node_loads v k l e = subst (λ z. Load m (indexed_name x v) (loading_of x z)) (sym e) (tells v k)

  sees_is : (v : ℕ) → v < count → (sees : Bool) → sees ≡ can_see d (indexed_name x v) (standing_of x v) → sees ≡ can_see d (indexed_name x v) (m (indexed_name x v))
  sees_is v k sees e = e ∙ ap (can_see d (indexed_name x v)) (sym (index.standing v (named m count x graph index k)))

  pub class_starts : (v : ℕ) → v < count → (l : LoadState) → l ≡ load_at loads v → (sees : Bool) → sees ≡ can_see d (indexed_name x v) (standing_of x v) → (s : Start)
      → ((flags : ℕ) → s ≡ start_of (Class (indexed_name x v)) (class_answer (indexed_name x v) (indexed_name x v) (loading_of x l) sees flags) (loading_of x (load_at loads object))) → Starts m d (Class (indexed_name x v)) s
  class_starts v k l e sees f s h = starts (rclass.class (node_loads v k l e) (ap (λ b. class_answer (indexed_name x v) (indexed_name x v) (loading_of x l) b (flags_of (m (indexed_name x v)))) (sees_is v k sees f))) (object_loads _ refl) (h (flags_of (m (indexed_name x v))))

  pub element_starts : (text : Name) (v : ℕ) → v < count → (l : LoadState) → l ≡ load_at loads v → (lo : LoadState) → lo ≡ load_at loads object → (sees : Bool) → sees ≡ can_see d (indexed_name x v) (standing_of x v) → (s : Start)
      → s ≡ start_of (Array text (Some (indexed_name x v))) (class_answer text (indexed_name x v) (loading_of x l) sees 0) (loading_of x lo) → Starts m d (Array text (Some (indexed_name x v))) s
  element_starts text v k l e lo o sees f s h = starts (rclass.array (node_loads v k l e) (ap (λ b. class_answer text (indexed_name x v) (loading_of x l) b 0) (sees_is v k sees f))) (object_loads lo o) h

  pub primitive_starts : (text : Name) (lo : LoadState) → lo ≡ load_at loads object → (s : Start) → s ≡ object_start (loading_of x lo) → Starts m d (Array text None) s
  primitive_starts text lo o s h = starts rclass.primitives (object_loads lo o) h
