-- Answers to references.
use Rattle.std.proofs.Common.{◌≡◌, ℕ, Bool, ◌<◌, List, Option, Some, None, sym, ap, subst, ◌∙◌}
use Rattle.jc_classes.specs.Names.{Name}
use Rattle.jc_classes.specs.Loading.{can_see}
use Rattle.jc_classes.specs.Worlds.{World, flags_of, text_of}
use Rattle.jc_classes.specs.Facts.Named.{Array}
use Rattle.jc_classes.specs.Facts.{Reference}
use Rattle.jc_classes.specs.Loading.{Loading as loading}
use Rattle.jc_classes.specs.Resolution.{Answer as answer}
use Rattle.jc_classes.specs.declared.linkage_error.LinkageError.{LinkageError}
use Rattle.jc_numbered.specs.declared.loads.Load.TheVariants as state
use Rattle.jc_classes.specs.Resolution.{Answer, ResolvesClass, class_answer}
use Rattle.jc_classes.specs.Resolution.{ResolvesClass as rclass}
use Rattle.jc_classes.specs.Resolution.Answer.{ToClass}
use Rattle.jc_numbered.specs.declared.loads.Load.{Load}
use Rattle.jc_resolve.specs.declared.resolve.NamedNode.{NamedNode}
use Rattle.jc_resolve.specs.declared.resolve.NamedNode.TheVariants as by
use Rattle.jc_numbered.specs.inside.Indexed.{Indexed, indexed_name, standing_of, IsGraph, IsIndexed}
use Rattle.jc_numbered.specs.inside.Loading.{load_at, sees}
use Rattle.jc_resolve.specs.inside.Resolved.{loading_of, named_of, TellsLoads}
use Rattle.jc_numbered.proofs.lookups.Bridge.{named}
use Rattle.jc_resolve.proofs.loading.Loadings.{sees_same}

module _ (m : World) (count : ℕ) (x : Indexed) (graph : IsGraph count x) (index : IsIndexed m x) (loads : List Load) (told : TellsLoads m x count loads) where
  pub class_made : (d node : ℕ) (text : Name) (r : NamedNode) (a : Answer) → d < count → node < count → r ≡ by.Class node → text_of (named_of x r text) ≡ text
      → a ≡ class_answer text (indexed_name x node) (loading_of x (load_at loads node)) (sees x d node) (flags_of (standing_of x node)) → ResolvesClass m (indexed_name x d) (named_of x r text) a
  class_made d node text r a k l is same e =
      let n = indexed_name x node in
      let load = loading_of x (load_at loads node) in
      let t : n ≡ text = subst (λ z. text_of (named_of x z text) ≡ text) is same in
      subst (λ z. ResolvesClass m (indexed_name x d) (named_of x z text) a) (sym is)
      (rclass.class (told node l) (e ∙ ap (λ z. class_answer z n load (sees x d node) (flags_of (standing_of x node))) (sym t) ∙ ap (λ b. class_answer n n load b (flags_of (standing_of x node))) (sees_same m count x graph index d node l) ∙ ap (λ r. class_answer n n load (can_see (indexed_name x d) n (m n)) (flags_of r)) (sym (index.standing node (named m count x graph index l)))))

  pub array_made : (d node : ℕ) (text : Name) (r : NamedNode) (o : Option ℕ) (a : Answer) → d < count → node < count → r ≡ by.Array o → o ≡ Some node
      → a ≡ class_answer text (indexed_name x node) (loading_of x (load_at loads node)) (sees x d node) 0 → ResolvesClass m (indexed_name x d) (named_of x r text) a
  array_made d node text r o a k l is some e =
      let n = indexed_name x node in
      subst (λ z. ResolvesClass m (indexed_name x d) (named_of x z text) a) (sym (is ∙ ap by.Array some))
      (rclass.array (told node l) (e ∙ ap (λ b. class_answer text n (loading_of x (load_at loads node)) b 0) (sees_same m count x graph index d node l)))

pub primitive_made : (m : World) (x : Indexed) (d : ℕ) (text : Name) (r : NamedNode) (o : Option ℕ) (a : Answer) → r ≡ by.Array o → o ≡ None → a ≡ ToClass text 0 → ResolvesClass m (indexed_name x d) (named_of x r text) a
primitive_made m x d text r o a is none e =
    subst (λ z. ResolvesClass m (indexed_name x d) (named_of x z text) a) (sym (is ∙ ap by.Array none)) (subst (ResolvesClass m (indexed_name x d) (Array text None)) (sym e) rclass.primitives)

-- ---- the answer of a reference to the class of a node, by how it loads

pub outside_told : (x : Indexed) (v flags : ℕ) (load : Load) (seen : Bool) → state.Outside ≡ load → (r : Reference) → answer.Outside (indexed_name x v) ≡ class_answer (text_of r.named) (indexed_name x v) (loading_of x load) seen flags
outside_told x v flags load seen e r = ap (λ l. class_answer (text_of r.named) (indexed_name x v) (loading_of x l) seen flags) e

pub fails_told : (x : Indexed) (v flags : ℕ) (load : Load) (seen : Bool) (fault : LinkageError) (about : ℕ) → state.Fails fault about ≡ load → (r : Reference) → answer.Error fault (indexed_name x about) ≡ class_answer (text_of r.named) (indexed_name x v) (loading_of x load) seen flags
fails_told x v flags load seen fault about e r = ap (λ l. class_answer (text_of r.named) (indexed_name x v) (loading_of x l) seen flags) e

pub seen_told : (x : Indexed) (v flags : ℕ) (load : Load) (seen b : Bool) → state.Loaded ≡ load → b ≡ seen → (r : Reference) → class_answer (text_of r.named) (indexed_name x v) loading.Loaded b flags ≡ class_answer (text_of r.named) (indexed_name x v) (loading_of x load) seen flags
seen_told x v flags load seen b e f r = ap (λ z. class_answer (text_of r.named) (indexed_name x v) loading.Loaded z flags) f ∙ ap (λ l. class_answer (text_of r.named) (indexed_name x v) (loading_of x l) seen flags) e
