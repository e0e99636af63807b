-- References that ask for the same have the same answer.
use Rattle.std.proofs.Common.{◌≡◌, ◌≢◌, ◌<◌, ℕ, zero, suc, List, [], ◌∷◌, set, length, Some, refl, ap, subst, arith}
use Rattle.std.specs.List.{slice_get}
use Rattle.jc_classes.specs.Facts.{AreAlike, Reference}
use Rattle.jc_classes.specs.Loading.{Loading}
use Rattle.jc_classes.specs.Loading.{Loading as loading}
use Rattle.jc_classes.specs.Names.{Name, polymorphic_descriptor}
use Rattle.jc_classes.specs.Parts.{IsAnswer, ResolvesOf}
use Rattle.jc_classes.specs.Resolution.{Answer, ResolvesClass, ResolvesField, ResolvesInterfaceMethod, ResolvesMethod}
use Rattle.jc_classes.specs.Resolution.{Answer as answer}
use Rattle.jc_classes.specs.Worlds.{World, text_of}
use Rattle.jc_classes.specs.declared.reference.ReferenceKind.{ReferenceKind}
use Rattle.jc_classes.specs.declared.reference.ReferenceKind.TheVariants as kind
use Rattle.jc_numbered.specs.declared.loads.Load.{Load}
use Rattle.jc_numbered.specs.inside.Indexed.{Indexed, indexed_name}
use Rattle.jc_numbered.specs.inside.Loading.{load_at}
use Rattle.jc_resolve.specs.declared.entry.Entry.{Entry}
use Rattle.jc_resolve.specs.declared.entry.Entry.TheVariants as entry
use Rattle.jc_resolve.specs.inside.Answered.{IsAnsweredAt, IsAnsweredBy}
use Rattle.jc_resolve.specs.inside.Entries.{entry_shown}
use Rattle.jc_resolve.specs.inside.Resolved.{loading_of}
use Rattle.jc_resolve.proofs.answering.Entries.{answered_set}

module _ (r s : Reference) (of_kind : r.kind ≡ s.kind) (of_named : r.named ≡ s.named) (of_key : r.key ≡ s.key) where
  same_shown : (name : ℕ → Name) (e : Entry ℕ) → entry_shown name r e ≡ entry_shown name s e
  same_shown name (entry.ToClass flags) = ap (λ t. answer.ToClass (text_of t) flags) of_named
  same_shown name (entry.ToMember flags n) = ap (λ k. answer.ToMember (name n) (record { name = k.name; descriptor = k.descriptor; flags = flags })) of_key
  same_shown name (entry.ToPolymorphic flags n) = ap (λ k. answer.ToMember (name n) (record { name = k.name; descriptor = polymorphic_descriptor; flags = flags })) of_key
  same_shown name (entry.Outside n) = refl
  same_shown name entry.NotLoaded = refl
  same_shown name (entry.Error e n) = refl
  same_shown name (entry.OwnError e) = ap (λ t. answer.Error e (text_of t)) of_named

  same_resolves : (m : World) (d : Name) (k : ReferenceKind) (a : Answer) → ResolvesOf m d k r a → ResolvesOf m d k s a
  same_resolves m d kind.Class a h = subst (λ t. ResolvesClass m d t a) of_named h
  same_resolves m d kind.Field a h = subst (λ k. ResolvesField m d s.named k a) of_key (subst (λ t. ResolvesField m d t r.key a) of_named h)
  same_resolves m d kind.Method a h = subst (λ k. ResolvesMethod m d s.named k a) of_key (subst (λ t. ResolvesMethod m d t r.key a) of_named h)
  same_resolves m d kind.InterfaceMethod a h = subst (λ k. ResolvesInterfaceMethod m d s.named k a) of_key (subst (λ t. ResolvesInterfaceMethod m d t r.key a) of_named h)

  same_answer : (m : World) (d : Name) (l : Loading) (a : Answer) → IsAnswer m d l r a → IsAnswer m d l s a
  same_answer m d loading.Loaded a h = subst (λ k. ResolvesOf m d k s a) of_kind (same_resolves m d r.kind a h)
  same_answer m d loading.Outside a h = h
  same_answer m d (loading.Fails e x) a h = h

  pub same_answered : (x : Indexed) (loads : List Load) (class : ℕ) (e : Entry ℕ) → IsAnsweredBy x loads class r e → IsAnsweredBy x loads class s e
  same_answered x loads class e h = λ m told index.
      let l = loading_of x (load_at loads class) in
      let d = indexed_name x class in
      subst (IsAnswer m d l s) (same_shown (indexed_name x) e) (same_answer m d l (entry_shown (indexed_name x) r e) (h m told index))

some_at : (rs : List Reference) (i : ℕ) → i < length rs → (r : Reference) × (slice_get rs i ≡ Some r)
some_at [] i l = absurd (omega arith)
some_at (r ∷ rs) zero l = (r, refl)
some_at (r ∷ rs) (suc i) l = some_at rs i (omega (arith, l))

-- the answer of one that asks for the same
pub alike_set : (x : Indexed) (loads : List Load) (class : ℕ) (rs : List Reference) (es : List (Entry ℕ)) (before number : ℕ) (e : Entry ℕ)
    → AreAlike rs before number → before < length rs → number < length rs → slice_get es before ≡ Some e → IsAnsweredAt x loads class rs es before
    → (at : ℕ) → (at ≢ number → IsAnsweredAt x loads class rs es at) → IsAnsweredAt x loads class rs (set es number e) at
alike_set x loads class rs es before number e alike b n got known at old =
    let r = some_at rs before b in
    let s = some_at rs number n in
    let a = alike r.0 s.0 r.1 s.1 in
    answered_set x loads class rs es number s.0 e s.1 (same_answered r.0 s.0 a.0 a.1 a.2 x loads class e (known r.0 e r.1 got)) at old
