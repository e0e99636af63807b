-- The places of a rule among all things of a class file are those of the things that it is about.
use Rattle.std.proofs.Common.{◌≡◌, ◌∙◌, ℕ, Bool, true, false, cond, List, [], ◌∷◌, ◌++◌, filter, length, map, Option, Some, None, refl, ap, append-nil}
use Rattle.std.specs.Prelude.{slice_get}
use Rattle.std.specs.List.{flat_map, range_with_len}
use Rattle.std.specs.Option.{option_map_or}
use Rattle.jc_view.specs.AttributeReading.{all_attributes}
use Rattle.jc_view.specs.ClassFile.{ClassFile, all_slots, constant_at}
use Rattle.jc_file.specs.declared.fault.Fault.{Fault}
use Rattle.jc_file.specs.declared.fault.FormatRule.{FormatRule}
use Rattle.jc_file.specs.declared.fault.FormatRule.TheVariants as rules
use Rattle.jc_file.specs.declared.fault.TheConstants.FormatRule.{ALL}
use Rattle.jc_view.specs.ClassFile.{Member}
use Rattle.jc_view.specs.ConstantPool.{Constant}
use Rattle.jc_view.specs.Places.{PlacedAttribute}
use Rattle.jc_view.specs.declared.constant_pool.ConstantIndex.{ConstantIndex}
use Rattle.jc_file.specs.Faults.{About, OfAttributes, OfClass, OfConstants, OfFields, OfInterfaces, OfMethods, OfRepeatedFields, OfRepeatedMethods, about, attributes_with, constants_with, fault_at, faults, faults_against, only_if, places, places_of, repeated, those_with}
use Rattle.jc_file.specs.inside.RuleTables.{attribute_tests, breaks_in, class_tests, constant_tests, field_tests, interface_tests, method_tests, attribute_places, class_places, constant_places, field_places, interface_places, method_places, repeated_places}

-- ---- a test that nothing passes

none_pass : {X : Type 0} (test : X → Bool) (xs : List X) → ((x : X) → test x ≡ false) → filter test xs ≡ []
none_pass test [] fails = refl
none_pass test (x ∷ xs) fails = ap (λ b. cond b (x ∷ filter test xs) (filter test xs)) (fails x) ∙ none_pass test xs fails

no_item : {X : Type 0} (o : Option X) → option_map_or (λ x. false) o false ≡ false
no_item None = refl
no_item (Some x) = refl

no_constants : (c : ClassFile) → constants_with c (λ constant. false) ≡ []
no_constants c =
    none_pass (λ k. option_map_or (λ x. false) (constant_at c (record { 0 = k })) false) (range_with_len 1 (all_slots c.constants)) (λ k. no_item (constant_at c (record { 0 = k })))

no_those : {X : Type 0} (xs : List X) → those_with (λ x. false) xs ≡ []
no_those xs = none_pass (λ n. option_map_or (λ x. false) (slice_get xs n) false) (range_with_len 0 (length xs)) (λ n. no_item (slice_get xs n))

no_attributes : (c : ClassFile) → attributes_with c (λ a. false) ≡ []
no_attributes c = ap (map (λ a. a.place)) (none_pass (λ a. false) (all_attributes c) (λ a. refl))

-- ---- the places of all things

abbrev pub all_places : ClassFile → FormatRule → List ℕ
all_places c rule =
    (((((class_places c rule ++ constant_places c rule) ++ interface_places c rule) ++ field_places c rule) ++ method_places c rule) ++ repeated_places c rule)
    ++ attribute_places c rule

one : (xs : List ℕ) → xs ++ [] ≡ xs
one xs = append-nil xs

two : (xs : List ℕ) → (xs ++ []) ++ [] ≡ xs
two xs = append-nil (xs ++ []) ∙ one xs

three : (xs : List ℕ) → ((xs ++ []) ++ []) ++ [] ≡ xs
three xs = append-nil ((xs ++ []) ++ []) ∙ two xs

four : (xs : List ℕ) → (((xs ++ []) ++ []) ++ []) ++ [] ≡ xs
four xs = append-nil (((xs ++ []) ++ []) ++ []) ∙ three xs

five : (xs : List ℕ) → ((((xs ++ []) ++ []) ++ []) ++ []) ++ [] ≡ xs
five xs = append-nil ((((xs ++ []) ++ []) ++ []) ++ []) ∙ four xs

six : (xs : List ℕ) → (((((xs ++ []) ++ []) ++ []) ++ []) ++ []) ++ [] ≡ xs
six xs = append-nil (((((xs ++ []) ++ []) ++ []) ++ []) ++ []) ∙ five xs

-- ---- the tests of each kind of thing, by what the rule is about

abbrev of_class : About → Bool
of_class (OfClass is_broken) = is_broken
of_class what = false

abbrev of_constants : About → Constant → Bool
of_constants (OfConstants breaks) constant = breaks constant
of_constants what constant = false

abbrev of_interfaces : About → ConstantIndex → Bool
of_interfaces (OfInterfaces breaks) index = breaks index
of_interfaces what index = false

abbrev of_fields : About → Member → Bool
of_fields (OfFields breaks) f = breaks f
of_fields what f = false

abbrev of_methods : About → Member → Bool
of_methods (OfMethods breaks) m = breaks m
of_methods what m = false

abbrev of_repeated : ClassFile → About → List ℕ
of_repeated c OfRepeatedFields = repeated c c.fields ++ []
of_repeated c OfRepeatedMethods = repeated c c.methods
of_repeated c what = []

abbrev of_attributes : About → PlacedAttribute → Bool
of_attributes (OfAttributes breaks) a = breaks a
of_attributes what a = false

-- the table of the tests of each kind of thing says the same
module _ (c : ClassFile) where
  class_same : (rule : FormatRule) → breaks_in (class_tests c) rule ≡ of_class (about c rule)
  class_same rules.F1 = refl
  class_same rule = refl

  constant_same : (constant : Constant) (rule : FormatRule) → breaks_in (constant_tests c constant) rule ≡ of_constants (about c rule) constant
  constant_same constant rules.F1 = refl
  constant_same constant rule = refl

  interface_same : (index : ConstantIndex) (rule : FormatRule) → breaks_in (interface_tests c index) rule ≡ of_interfaces (about c rule) index
  interface_same index rules.F1 = refl
  interface_same index rule = refl

  field_same : (f : Member) (rule : FormatRule) → breaks_in (field_tests c f) rule ≡ of_fields (about c rule) f
  field_same f rules.F1 = refl
  field_same f rule = refl

  method_same : (m : Member) (rule : FormatRule) → breaks_in (method_tests c m) rule ≡ of_methods (about c rule) m
  method_same m rules.F1 = refl
  method_same m rule = refl

  repeated_same : (rule : FormatRule) → repeated_places c rule ≡ of_repeated c (about c rule)
  repeated_same rules.F1 = refl
  repeated_same rule = refl

  attribute_same : (a : PlacedAttribute) (rule : FormatRule) → breaks_in (attribute_tests c a) rule ≡ of_attributes (about c rule) a
  attribute_same a rules.F1 = refl
  attribute_same a rule = refl

  -- of all things, those of the kind that the rule is about
  abbrev parts : About → List ℕ
  parts what =
      (((((only_if (of_class what) ++ constants_with c (of_constants what)) ++ those_with (of_interfaces what) c.interfaces) ++ those_with (of_fields what) c.fields)
      ++ those_with (of_methods what) c.methods) ++ of_repeated c what)
      ++ attributes_with c (of_attributes what)

  no_i : those_with (λ x. false) c.interfaces ≡ []
  no_i = no_those c.interfaces

  no_f : those_with (λ x. false) c.fields ≡ []
  no_f = no_those c.fields

  no_m : those_with (λ x. false) c.methods ≡ []
  no_m = no_those c.methods

  of_about : (what : About) → parts what ≡ places_of c what
  of_about (OfClass is_broken) = rw (no_constants c, no_i, no_f, no_m, no_attributes c) (six (only_if is_broken))
  of_about (OfConstants breaks) = rw (no_i, no_f, no_m, no_attributes c) (five (constants_with c breaks))
  of_about (OfInterfaces breaks) = rw (no_constants c, no_f, no_m, no_attributes c) (four (those_with breaks c.interfaces))
  of_about (OfFields breaks) = rw (no_constants c, no_i, no_m, no_attributes c) (three (those_with breaks c.fields))
  of_about (OfMethods breaks) = rw (no_constants c, no_i, no_f, no_attributes c) (two (those_with breaks c.methods))
  of_about OfRepeatedFields = rw (no_constants c, no_i, no_f, no_m, no_attributes c) (two (repeated c c.fields))
  of_about OfRepeatedMethods = rw (no_constants c, no_i, no_f, no_m, no_attributes c) (one (repeated c c.methods))
  of_about (OfAttributes breaks) = rw (no_constants c, no_i, no_f, no_m) refl

  as_parts : (rule : FormatRule) → all_places c rule ≡ parts (about c rule)
  as_parts rule = λ i.
      (((((only_if (class_same rule i) ++ constants_with c (λ constant. constant_same constant rule i)) ++ those_with (λ index. interface_same index rule i) c.interfaces)
      ++ those_with (λ f. field_same f rule i) c.fields) ++ those_with (λ m. method_same m rule i) c.methods) ++ repeated_same rule i)
      ++ attributes_with c (λ a. attribute_same a rule i)

  pub whole : (rule : FormatRule) → all_places c rule ≡ places c rule
  whole rule = as_parts rule ∙ of_about (about c rule)

pub only_cond : (b : Bool) → cond b (0 ∷ []) [] ≡ only_if b
only_cond true = refl
only_cond false = refl

-- ---- the faults

same_faults : (f g : FormatRule → List Fault) (rs : List FormatRule) → ((rule : FormatRule) → f rule ≡ g rule) → flat_map f rs ≡ flat_map g rs
same_faults f g [] same = refl
same_faults f g (r ∷ rs) same = ap (λ v. v ++ flat_map f rs) (same r) ∙ ap (λ v. g r ++ v) (same_faults f g rs same)

pub faults_at : (c : ClassFile) (found : FormatRule → List ℕ) → ((rule : FormatRule) → found rule ≡ places c rule) → flat_map (λ rule. map (fault_at rule) (found rule)) ALL ≡ faults c
unfolding faults
faults_at c found same = same_faults (λ rule. map (fault_at rule) (found rule)) (faults_against c) ALL (λ rule. ap (map (fault_at rule)) (same rule))

-- ---- one table more

pub grown : (old known places is new : List ℕ) → new ≡ old ++ places → old ≡ known → places ≡ is → new ≡ known ++ is
grown old known places is new e f g = e ∙ ap (λ v. v ++ places) f ∙ ap (λ v. known ++ v) g
