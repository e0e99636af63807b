-- Names are added behind others, as loops do.
use Rattle.std.proofs.Common.{◌≡◌, ◌∙◌, ℕ, ◌+◌, ◌-◌, ◌≤◌, Bool, true, false, cond, List, [], ◌∷◌, ◌++◌, length, filter, refl, ap, sym}
use Rattle.std.specs.List.{flat_map, range_with_len}
use Rattle.std.proofs.lemmas.List.{append-nil, append_assoc}
use Rattle.jc_view.specs.declared.attribute_kind.AttributeKind.TheVariants as kinds
use Rattle.jc_view.specs.declared.attribute_kind.Holder.TheVariants as holders
use Rattle.jc_view.specs.declared.constant_pool.ConstantIndex.{ConstantIndex}
use Rattle.jc_view.specs.ClassFile.{Attribute, ClassFile, attribute_bytes}
use Rattle.jc_view.specs.Places.{attributes_from, attributes_in, attributes_place}
use Rattle.jc_view.specs.Attributes.{bootstrap_attributes, is_recognised}
use Rattle.jc_classes.specs.UsedConstants.{by_constants, classes_that, is_among, is_resolved, named, named_by_handle, named_by_methods, named_by_table, used_constants}
use Rattle.jc_classes.specs.inside.Using.{Marks, are_marks, named_by_attribute, owners}
use Rattle.jc_classes.proofs.using.Marking.{marks_added}
use Rattle.jc_classes.proofs.texts.ConstantTexts.{found_more}

-- with those of what is left they are all; so they are one step on
pub next_added : {X A : Type 0} (f : X → List A) (names new all : List A) (left rest : List X) (x : X) → left ≡ x ∷ rest → new ≡ names ++ f x
    → names ++ flat_map f left ≡ all → new ++ flat_map f rest ≡ all
next_added f names new all left rest x is added so_far =
    ap (λ v. v ++ flat_map f rest) added
    ∙ append_assoc names (f x) (flat_map f rest)
    ∙ ap (λ l. names ++ flat_map f l) (sym is)
    ∙ so_far

-- and at the end
pub all_added : {X A : Type 0} (f : X → List A) (names all : List A) (left : List X) → left ≡ [] → names ++ flat_map f left ≡ all → names ≡ all
all_added f names all left is so_far = sym (append-nil names) ∙ ap (λ l. names ++ flat_map f l) (sym is) ∙ so_far

-- what is found at one more index
pub next_in_range : {A : Type 0} (f : ℕ → List A) (old names new : List A) (index : ℕ) → 1 ≤ index → new ≡ names ++ f index
    → names ≡ old ++ flat_map f (range_with_len 1 (index - 1)) → new ≡ old ++ flat_map f (range_with_len 1 (index + 1 - 1))
next_in_range f old names new index some added so_far =
    added ∙ ap (λ v. v ++ f index) so_far ∙ append_assoc old (flat_map f (range_with_len 1 (index - 1))) (f index) ∙ ap (λ v. old ++ v) (sym (found_more f index some))

-- ---- the attributes that tell bootstrap methods

kept_first : {X A : Type 0} (f : X → List A) (b : Bool) (x : X) (xs : List X) → flat_map f (cond b (x ∷ xs) xs) ≡ cond b (f x) [] ++ flat_map f xs
kept_first f true x xs = refl
kept_first f false x xs = refl

named_from : (c : ClassFile) (place : ℕ) (attributes : List Attribute) → flat_map (named_by_attribute c) (attributes_from holders.Class place attributes)
    ≡ flat_map (λ (a : Attribute). named_by_table a.bytes) (filter (is_recognised c kinds.BootstrapMethods holders.Class) attributes)
unfolding attributes_from
named_from c place [] = refl
named_from c place (a ∷ attributes) =
    ap (λ more. cond (is_recognised c kinds.BootstrapMethods holders.Class a) (named_by_table a.bytes) [] ++ more) (named_from c (place + length (attribute_bytes a)) attributes)
    ∙ sym (kept_first (λ (a : Attribute). named_by_table a.bytes) (is_recognised c kinds.BootstrapMethods holders.Class a) a (filter (is_recognised c kinds.BootstrapMethods holders.Class) attributes))

pub named_in : (c : ClassFile) → flat_map (named_by_attribute c) (attributes_in c) ≡ flat_map (λ (a : Attribute). named_by_table a.bytes) (bootstrap_attributes c)
named_in c = named_from c (attributes_place c + 2) c.attributes

-- ---- the whole

pub named_whole : (c : ClassFile)
    → named_by_methods c ++ by_constants named_by_handle c ++ flat_map (λ (a : Attribute). named_by_table a.bytes) (bootstrap_attributes c) ≡ named c
unfolding named
named_whole c = refl

pub used_whole : (c : ClassFile) → named c ++ owners c (named c) ++ classes_that (is_resolved c) c ≡ used_constants c
unfolding used_constants
used_whole c = refl

-- ---- marks

pub named_marks : (c : ClassFile) (handles names : List ConstantIndex) (old found new : List Bool) → old ≡ are_marks c (named_by_methods c)
    → handles ≡ by_constants named_by_handle c → names ≡ flat_map (λ (a : Attribute). named_by_table a.bytes) (bootstrap_attributes c)
    → Marks (is_among handles) old found → Marks (is_among names) found new → new ≡ are_marks c (named c)
named_marks c handles names old found new e by is first second =
    marks_added c (named_by_methods c ++ handles) names found new (marks_added c (named_by_methods c) handles old found e first) second
    ∙ ap (are_marks c) (ap (λ v. named_by_methods c ++ v ++ names) by ∙ ap (λ v. named_by_methods c ++ by_constants named_by_handle c ++ v) is ∙ named_whole c)

pub used_marks : (c : ClassFile) (classes : List ConstantIndex) (old new : List Bool) → old ≡ are_marks c (named c) → classes ≡ owners c (named c) ++ classes_that (is_resolved c) c
    → Marks (is_among classes) old new → new ≡ are_marks c (used_constants c)
used_marks c classes old new e is step =
    marks_added c (named c) classes old new e step
    ∙ ap (λ v. are_marks c (named c ++ v)) is
    ∙ ap (are_marks c) (sym (append_assoc (named c) (owners c (named c)) (classes_that (is_resolved c) c)) ∙ used_whole c)
