-- A text that is known to be a name or a descriptor is modified UTF-8, and breaks no rule.
use Rattle.std.proofs.Common.{◌≡◌, ◌∙◌, ℕ, Bool, true, false, ◌||◌, List, [], ◌∷◌, Option, Some, None, cond, is_none, is_some, option_map, refl, ap}
use Rattle.std.specs.Option.{option_map_or}
use Rattle.std.specs.Prelude.{⊤, option_and_then}
use Rattle.std.proofs.lemmas.Bool.{false≢true}
use Rattle.jc_base.specs.Descriptors.{FieldType, MethodType}
use Rattle.jc_base.specs.TextTests.{units_of, is_class_text, is_method_name_text, is_unqualified_text}
use Rattle.jc_base.specs.DescriptorTests.{field_type_of, method_type_of}
use Rattle.jc_base.proofs.texts.Names.{class_name_spelled, method_name_spelled}
use Rattle.jc_base.proofs.texts.TestsDecide.{class_decides, method_name_decides, spelled_decides, unqualified_decides}
use Rattle.jc_base.proofs.types.DescriptorsAreTexts.{field_spelled, method_spelled}
use Rattle.jc_base.proofs.types.TestsDecide.{field_decides, method_decides}
use Rattle.jc_view.specs.declared.constant_pool.ConstantIndex.{ConstantIndex}
use Rattle.jc_view.specs.ConstantPool.{Constant, Utf8, utf8_text}
use Rattle.jc_view.specs.ClassFile.{ClassFile, constant_at}
use Rattle.jc_view.specs.Lookups.{passes, utf8_at}
use Rattle.jc_file.specs.declared.fault.FormatRule.{FormatRule}
use Rattle.jc_file.specs.declared.texts.Known.{Known}
use Rattle.jc_file.specs.declared.texts.Descriptor.{Descriptor}
use Rattle.jc_file.specs.inside.RuleSets.{same_rule}
use Rattle.jc_file.specs.inside.RuleTables.{breaks_after, breaks_in, constant_tests}
use Rattle.jc_file.specs.inside.Texts.{IsKnown, as_field, as_method, descriptor_of, is_descriptor, is_field, is_known_text, is_method, is_spelled, is_yes}

-- ---- names and descriptors

class_spelled : (t : List ℕ) → is_class_text t ≡ true → is_spelled t ≡ true
class_spelled t e = (spelled_decides t).1 (class_name_spelled t ((class_decides t).0 e))

unqualified_spelled : (t : List ℕ) → is_unqualified_text t ≡ true → is_spelled t ≡ true
unqualified_spelled t e = (spelled_decides t).1 ((unqualified_decides t).0 e).0

method_name_spelled_text : (t : List ℕ) → is_method_name_text t ≡ true → is_spelled t ≡ true
method_name_spelled_text t e = (spelled_decides t).1 (method_name_spelled t ((method_name_decides t).0 e))

field_spelled_text : (t : List ℕ) (type : FieldType) → field_type_of t ≡ Some type → is_spelled t ≡ true
field_spelled_text t type e = (spelled_decides t).1 (field_spelled t (type, (field_decides t type).0 e))

method_spelled_text : (t : List ℕ) (type : MethodType) → method_type_of t ≡ Some type → is_spelled t ≡ true
method_spelled_text t type e = (spelled_decides t).1 (method_spelled t (type, (method_decides t type).0 e))

-- a field's or a method's descriptor
either_spelled : (t : List ℕ) (f : Option FieldType) (m : Option MethodType) → field_type_of t ≡ f → method_type_of t ≡ m
    → (is_field (as_field f (as_method m)) || is_method (as_field f (as_method m))) ≡ true → is_spelled t ≡ true
either_spelled t None None e g h = absurd (false≢true h)
either_spelled t None (Some type) e g h = method_spelled_text t type g
either_spelled t (Some type) m e g h = field_spelled_text t type e

descriptor_spelled : (t : List ℕ) (d : Descriptor) → descriptor_of t ≡ d → (is_field d || is_method d) ≡ true → is_spelled t ≡ true
descriptor_spelled t d e h =
    either_spelled t (field_type_of t) (method_type_of t) refl refl (ap (λ x. is_field x || is_method x) e ∙ h)

-- ---- by what is known

module _ {A : Type 0} (f : List ℕ → A) (a : A) (spelled : (t : List ℕ) → f t ≡ a → is_spelled t ≡ true) where
  by_answer : (o : Option (List ℕ)) → option_map f o ≡ Some a → passes is_spelled o ≡ true
  by_answer None e = absurd cc
  by_answer (Some t) e = spelled t cc

pub by_class : (o : Option (List ℕ)) → option_map is_class_text o ≡ Some true → passes is_spelled o ≡ true
by_class = by_answer is_class_text true class_spelled

pub by_unqualified : (o : Option (List ℕ)) → option_map is_unqualified_text o ≡ Some true → passes is_spelled o ≡ true
by_unqualified = by_answer is_unqualified_text true unqualified_spelled

pub by_method_name : (o : Option (List ℕ)) → option_map is_method_name_text o ≡ Some true → passes is_spelled o ≡ true
by_method_name = by_answer is_method_name_text true method_name_spelled_text

pub by_descriptor : (o : Option (List ℕ)) (d : Descriptor) → (is_field d || is_method d) ≡ true → option_map descriptor_of o ≡ Some d → passes is_spelled o ≡ true
by_descriptor o d h = by_answer descriptor_of d (λ t e. descriptor_spelled t d e h) o

or_else : {P : Type 0} (a b : Bool) → (a ≡ true → P) → (b ≡ true → P) → (a || b) ≡ true → P
or_else true b f g e = f refl
or_else false b f g e = g e

yes : (o : Option Bool) → is_yes o ≡ true → o ≡ Some true
yes None e = absurd (false≢true e)
yes (Some b) e = ap Some e

there : (o : Option Descriptor) → is_descriptor o ≡ true → (d : Descriptor) × (o ≡ Some d) × ((is_field d || is_method d) ≡ true)
there None e = absurd (false≢true e)
there (Some d) e = (d, refl, e)

pub known_spelled : (c : ClassFile) (index : ConstantIndex) (k : Known) → IsKnown c index k → is_known_text k ≡ true → passes is_spelled (utf8_at c index) ≡ true
known_spelled c index k is e =
    let o = utf8_at c index in
    or_else _ _
    (or_else _ _
    (or_else _ _ (λ a. by_class o (is.is_class true (yes k.is_class a))) (λ a. by_unqualified o (is.is_unqualified true (yes k.is_unqualified a))))
    (λ a. by_method_name o (is.is_method_name true (yes k.is_method_name a))))
    (λ a. let d = there k.descriptor a in by_descriptor o d.0 d.2 (is.descriptor d.0 d.1)) e

-- ---- such a text breaks no rule

same_cond : (b : Bool) → cond b false false ≡ false
same_cond true = refl
same_cond false = refl

none_not : {X : Type 0} (o : Option X) → is_some o ≡ true → is_none o ≡ false
none_not None e = absurd (false≢true e)
none_not (Some x) e = refl

NoneBroken : List (FormatRule × Bool) → Type 0
NoneBroken [] = ⊤
NoneBroken (test ∷ tests) = (test.1 ≡ false) × NoneBroken tests

none_broken : (tests : List (FormatRule × Bool)) (rule : FormatRule) → NoneBroken tests → breaks_after false tests rule ≡ false
unfolding NoneBroken
none_broken [] rule all = refl
none_broken (test ∷ tests) rule all =
    ap (λ b. breaks_after (cond (same_rule test.0 rule) b false) tests rule) all.0
    ∙ ap (λ b. breaks_after b tests rule) (same_cond (same_rule test.0 rule))
    ∙ none_broken tests rule all.1

text_breaks_none : (c : ClassFile) (k : Constant) (rule : FormatRule) → passes is_spelled (utf8_text k) ≡ true → breaks_in (constant_tests c k) rule ≡ false
unfolding NoneBroken
text_breaks_none c (Utf8 t) rule e =
    none_broken (constant_tests c (Utf8 t)) rule (refl, (none_not (units_of t) e, (refl, (refl, (refl, (refl, (refl, (refl, (refl, (refl, (refl, tt)))))))))))
text_breaks_none c k rule e = absurd (false≢true e)

-- at an index
at_breaks_none : (c : ClassFile) (o : Option Constant) (rule : FormatRule) → passes is_spelled (option_and_then utf8_text o) ≡ true
    → option_map_or (λ constant. breaks_in (constant_tests c constant) rule) o false ≡ false
at_breaks_none c None rule e = refl
at_breaks_none c (Some k) rule e = text_breaks_none c k rule e

pub known_breaks_none : (c : ClassFile) (index : ConstantIndex) (rule : FormatRule) → passes is_spelled (utf8_at c index) ≡ true
    → option_map_or (λ constant. breaks_in (constant_tests c constant) rule) (constant_at c index) false ≡ false
known_breaks_none c index rule e = at_breaks_none c (constant_at c index) rule e
