-- An instruction is judged by the answer to its reference.
use Rattle.std.proofs.Common.{◌≡◌, ◌∙◌, Bool, true, false, ℕ, List, [], Option, Some, None, length, refl, ap, sym, subst, arith}
use Rattle.std.specs.List.{slice_get}
use Rattle.std.specs.Option.{option_map_or}
use Rattle.std.specs.Prelude.{codes, option_and_then, option_map}
use Rattle.jc_code.specs.declared.insn.LinkKind.{LinkKind}
use Rattle.jc_code.specs.declared.insn.LinkKind.TheVariants as kinds
use Rattle.jc_code.specs.declared.method_use.MethodUse.{MethodUse}
use Rattle.jc_classes.specs.Facts.{Facts, Member, Reference}
use Rattle.jc_classes.specs.LinkErrors.{ErrorAt, LinkError, Site, class_error, final_error, line, link_at, link_by, link_error, link_of, member_error, site_of, static_error}
use Rattle.jc_classes.specs.Names.{Name}
use Rattle.jc_classes.specs.Resolution.{Answer}
use Rattle.jc_classes.specs.Resolution.{Answer as answer}
use Rattle.jc_classes.specs.Worlds.{text_of}
use Rattle.jc_classes.specs.declared.linkage_error.LinkageError.{LinkageError}
use Rattle.jc_classes.specs.declared.linkage_error.LinkageError.TheVariants as errors
use Rattle.jc_resolve.specs.declared.answers.Found.TheVariants as found
use Rattle.jc_resolve.specs.declared.linked.ErrorEntry.{ErrorEntry}
use Rattle.jc_resolve.specs.inside.Sites.{class_told, error_of, found_of}
use Rattle.jc_resolve.specs.inside.LinkErrors.{class_at, link_shown}
use Rattle.jc_resolve.specs.inside.Numbers.{number_from}
use Rattle.jc_resolve.proofs.linking.Tables.{IsFirst, is_answered, not_answered}

some_is : {X : Type 0} {x y : X} → Some x ≡ Some y → x ≡ y
some_is e = cc

none_some : {X : Type 0} {x : X} → None ≡ Some x → ⊥
none_some e = cc

-- ---- the error of a fault tells its class

-- by the text that is named
abbrev class_by : Name → Answer → LinkageError → Name
class_by text a errors.NoMethod = text
class_by text a errors.NoClass = class_told a
class_by text a errors.Format = class_told a
class_by text a errors.Circular = class_told a
class_by text a errors.Incompatible = class_told a
class_by text a errors.IllegalAccess = class_told a
class_by text a errors.NoField = class_told a
class_by text a errors.Instantiation = class_told a

class_is : (rs : List Reference) (answers : List Answer) (number : ℕ) (r : Reference) (a : Answer) → slice_get rs number ≡ Some r → slice_get answers number ≡ Some a
    → (e : LinkageError) → class_at rs answers number e ≡ class_by (text_of r.named) a e
class_is rs answers number r a got told e = by e
  where
    of_answer : option_map_or class_told (slice_get answers number) [] ≡ class_told a
    of_answer = ap (λ o. option_map_or class_told o []) told

    by : (e : LinkageError) → class_at rs answers number e ≡ class_by (text_of r.named) a e
    by errors.NoMethod = ap (λ o. option_map_or (λ (r : Reference). text_of r.named) o []) got
    by errors.NoClass = of_answer
    by errors.Format = of_answer
    by errors.Circular = of_answer
    by errors.Incompatible = of_answer
    by errors.IllegalAccess = of_answer
    by errors.NoField = of_answer
    by errors.Instantiation = of_answer

module _ (s : Site) where
  abbrev text : Name
  text = text_of s.named

  abbrev IsFault : Answer → Option ErrorAt → Type 0
  IsFault a f = (e : LinkageError) (c : Name) → f ≡ Some (e, c) → c ≡ class_by text a e

  none_at : (a : Answer) → IsFault a None
  none_at a e c eq = absurd (none_some eq)

  line_at : (a : Answer) (b : Bool) (e : LinkageError) (c : Name) (behind : Option ErrorAt) → c ≡ class_by text a e → IsFault a behind → IsFault a (line b e c behind)
  line_at a true e c behind is h = λ f d eq.
      let p = some_is eq in
      sym (ap (λ (q : ErrorAt). q.1) p) ∙ is ∙ ap (λ (q : ErrorAt). class_by text a q.0) p
  line_at a false e c behind is h = h

  final_at : (initializer : List ℕ) (home : Name) (x : Member) → IsFault (answer.ToMember home x) (final_error s initializer home x)
  final_at initializer home x = line_at (answer.ToMember home x) _ errors.IllegalAccess home None refl (none_at (answer.ToMember home x))

  static_at : (b : Bool) (home : Name) (x : Member) (behind : Option ErrorAt) → IsFault (answer.ToMember home x) behind → IsFault (answer.ToMember home x) (static_error b home behind)
  static_at b home x behind h = line_at (answer.ToMember home x) b errors.Incompatible home behind refl h

  member_at : (kind : LinkKind) (home : Name) (x : Member) → IsFault (answer.ToMember home x) (member_error s kind home x)
  member_at kinds.GetStatic home x = static_at _ home x None (none_at (answer.ToMember home x))
  member_at kinds.PutStatic home x = static_at _ home x _ (final_at (codes "<clinit>") home x)
  member_at kinds.GetField home x = static_at _ home x None (none_at (answer.ToMember home x))
  member_at kinds.PutField home x = static_at _ home x _ (final_at (codes "<init>") home x)
  member_at kinds.InvokeSpecial home x = line_at (answer.ToMember home x) _ errors.NoMethod text _ refl (static_at _ home x None (none_at (answer.ToMember home x)))
  member_at kinds.InvokeVirtual home x = static_at _ home x None (none_at (answer.ToMember home x))
  member_at kinds.InvokeStatic home x = static_at _ home x None (none_at (answer.ToMember home x))
  member_at kinds.InvokeInterface home x = static_at _ home x None (none_at (answer.ToMember home x))
  member_at kinds.New home x = none_at (answer.ToMember home x)

  at_class : (kind : LinkKind) (c : Name) (flags : ℕ) → IsFault (answer.ToClass c flags) (class_error kind c flags)
  at_class kinds.New c flags = line_at (answer.ToClass c flags) _ errors.Instantiation c None refl (none_at (answer.ToClass c flags))
  at_class kinds.GetStatic c flags = none_at (answer.ToClass c flags)
  at_class kinds.PutStatic c flags = none_at (answer.ToClass c flags)
  at_class kinds.GetField c flags = none_at (answer.ToClass c flags)
  at_class kinds.PutField c flags = none_at (answer.ToClass c flags)
  at_class kinds.InvokeSpecial c flags = none_at (answer.ToClass c flags)
  at_class kinds.InvokeVirtual c flags = none_at (answer.ToClass c flags)
  at_class kinds.InvokeStatic c flags = none_at (answer.ToClass c flags)
  at_class kinds.InvokeInterface c flags = none_at (answer.ToClass c flags)

  fault_at : (kind : LinkKind) (a : Answer) → IsFault a (link_error s kind a)
  fault_at kind (answer.ToClass c flags) = at_class kind c flags
  fault_at kind (answer.ToMember home x) = member_at kind home x
  fault_at kind (answer.Outside n) = none_at (answer.Outside n)
  fault_at kind answer.NotLoaded = none_at answer.NotLoaded
  fault_at kind (answer.Error e n) = none_at (answer.Error e n)

  -- ---- by what the answer finds

  pub class_found : (kind : LinkKind) (a : Answer) (flags : ℕ) (error : Option LinkageError) → found_of a ≡ Some (found.Class flags)
      → ((class : Name) → error ≡ error_of (class_error kind class flags)) → error ≡ error_of (link_error s kind a)
  class_found kind (answer.ToClass c other) flags error is h = let same : flags ≡ other = cc in h c ∙ ap (λ n. error_of (class_error kind c n)) same
  class_found kind (answer.ToMember home x) flags error is h = absurd cc
  class_found kind (answer.Outside n) flags error is h = absurd cc
  class_found kind answer.NotLoaded flags error is h = absurd cc
  class_found kind (answer.Error e n) flags error is h = absurd cc

  pub member_found : (kind : LinkKind) (a : Answer) (flags : ℕ) (error : Option LinkageError) → found_of a ≡ Some (found.Member flags)
      → ((home : Name) (x : Member) → a ≡ answer.ToMember home x → flags ≡ x.flags → error ≡ error_of (member_error s kind home x)) → error ≡ error_of (link_error s kind a)
  member_found kind (answer.ToClass c other) flags error is h = absurd cc
  member_found kind (answer.ToMember home x) flags error is h = let same : flags ≡ x.flags = cc in h home x refl same
  member_found kind (answer.Outside n) flags error is h = absurd cc
  member_found kind answer.NotLoaded flags error is h = absurd cc
  member_found kind (answer.Error e n) flags error is h = absurd cc

  pub none_found : (kind : LinkKind) (a : Answer) → found_of a ≡ None → None ≡ error_of (link_error s kind a)
  none_found kind (answer.ToClass c other) is = absurd cc
  none_found kind (answer.ToMember home x) is = absurd cc
  none_found kind (answer.Outside n) is = refl
  none_found kind answer.NotLoaded is = refl
  none_found kind (answer.Error e n) is = refl

-- ---- of the instructions of a class

module _ (d : Name) (f : Facts) (answers : List Answer) (u : MethodUse) where
  -- no reference has the index
  pub no_link : number_from 0 u.index f.references ≡ None → None ≡ link_of d f answers u
  no_link e = sym (ap (option_and_then (link_by d f u)) (not_answered 0 u.index f.references answers e))

  abbrev linked : Option ErrorAt → Option LinkError
  linked o = option_and_then (λ fault. Some (link_at u fault)) o

  abbrev entry : ℕ → LinkageError → ErrorEntry
  entry number e = record { method = u.method; place = u.place; reference = number; error = e }

  -- the error of the reference that has it, with the class at fault
  pub one_link : (number : ℕ) (judged error : Option LinkageError) → length answers ≡ length f.references → number_from 0 u.index f.references ≡ Some number
      → ((r : Reference) (a : Answer) → slice_get f.references number ≡ Some r → slice_get answers number ≡ Some a → judged ≡ error_of (link_error (site_of d f u r) u.kind a))
      → judged ≡ error
      → option_map (link_shown f.references answers) (option_map (entry number) error) ≡ link_of d f answers u
  one_link number judged error size is h e =
      let p : IsFirst u.index f.references answers 0 number = is_answered 0 u.index number f.references answers size is in
      let r = p.reference in
      let a = p.answer in
      let same : p.at ≡ number = omega (arith, p.is) in
      let got : slice_get f.references number ≡ Some r = subst (λ n. slice_get f.references n ≡ Some r) same p.got in
      let told : slice_get answers number ≡ Some a = subst (λ n. slice_get answers n ≡ Some a) same p.told in
      let site = site_of d f u r in
      by r a got told error (link_error site u.kind a) (sym e ∙ h r a got told) (fault_at site u.kind a) ∙ sym (ap (option_and_then (link_by d f u)) p.first)
    where
      by : (r : Reference) (a : Answer) → slice_get f.references number ≡ Some r → slice_get answers number ≡ Some a → (e : Option LinkageError) (fault : Option ErrorAt)
          → e ≡ error_of fault → IsFault (site_of d f u r) a fault
          → option_map (link_shown f.references answers) (option_map (entry number) e) ≡ linked fault
      by r a got told None None same is = refl
      by r a got told None (Some fault) same is = absurd (none_some same)
      by r a got told (Some e) None same is = absurd (none_some (sym same))
      by r a got told (Some e) (Some fault) same is =
          let error : e ≡ fault.0 = some_is same in
          let class : class_at f.references answers number e ≡ fault.1 =
          class_is f.references answers number r a got told e ∙ ap (class_by (text_of r.named) a) error ∙ sym (is fault.0 fault.1 refl) in
          λ i. Some (record { method = u.method; place = u.place; error = error i; class = class i })
