-- The format faults of a class file: the places where each rule is broken.
use Rattle.std.specs.Prelude.{ℕ, Bool, true, false, ◌&&◌, List, [], ◌∷◌}
use Rattle.std.specs.Prelude.{length, map, take, filter, Option, Some, None, slice_get}
use Rattle.std.specs.List.{flat_map, list_any, range_with_len}
use Rattle.std.specs.Option.{option_map_or}
use Rattle.jc_base.specs.Bytes.{same_bytes}
use Rattle.jc_file.specs.declared.fault.Fault.{Fault}
use Rattle.jc_file.specs.declared.fault.FormatRule.{FormatRule}
use Rattle.jc_file.specs.declared.fault.FormatRule.TheVariants as rules
use Rattle.jc_file.specs.declared.fault.TheConstants.FormatRule.{ALL}
use Rattle.jc_view.specs.declared.constant_pool.ConstantIndex.{ConstantIndex}
use Rattle.jc_view.specs.ConstantPool.{Constant}
use Rattle.jc_view.specs.ClassFile.{Member, ClassFile, all_slots, constant_at}
use Rattle.jc_view.specs.Lookups.{utf8_at}
use Rattle.jc_view.specs.Places.{PlacedAttribute}
use Rattle.jc_view.specs.AttributeReading.{all_attributes}
use Rattle.jc_file.specs.FormatRules.{breaks_f1, breaks_f2, breaks_f3, breaks_f4, breaks_f5, breaks_f6, breaks_f7}
use Rattle.jc_file.specs.FormatRules.{breaks_f8, breaks_f9, breaks_f10, breaks_f11, breaks_f12, breaks_f13, breaks_f14}
use Rattle.jc_file.specs.FormatRules.{breaks_f15, breaks_f16, breaks_f17, breaks_f19, breaks_f20, breaks_f21, breaks_f23}
use Rattle.jc_file.specs.FormatRules.{breaks_f24, breaks_f25, breaks_f26, breaks_f27, breaks_f28, breaks_f29, breaks_f30}

-- ---- places, in ascending order

-- those of the n numbers from `first` on that pass the test
abbrev pub passing : (ℕ → Bool) → ℕ → ℕ → List ℕ
passing test first n = filter test (range_with_len first n)

-- the indexes of the constants that pass the test
abbrev pub constants_with : ClassFile → (Constant → Bool) → List ℕ
constants_with c test = passing (λ k. option_map_or test (constant_at c (record { 0 = k })) false) 1 (all_slots c.constants)

-- the only place of the class, which is 0, if the condition holds
abbrev pub only_if : Bool → List ℕ
only_if true = 0 ∷ []
only_if false = []

-- the numbers of the elements that pass the test, counted from 0
abbrev pub those_with : {X : Type 0} → (X → Bool) → List X → List ℕ
those_with test xs = passing (λ n. option_map_or test (slice_get xs n) false) 0 (length xs)

-- the places of the attributes that pass the test
abbrev pub attributes_with : ClassFile → (PlacedAttribute → Bool) → List ℕ
attributes_with c test = map (λ a. a.place) (filter test (all_attributes c))

-- ---- members that repeat an earlier one

-- the name and the descriptor of a member, if both of its indexes name a Utf8
abbrev pub key_of : ClassFile → Member → Option (List ℕ × List ℕ)
key_of c m =
    option_map_or
    (λ name. option_map_or (λ descriptor. Some (name, descriptor)) (utf8_at c m.descriptor) None)
    (utf8_at c m.name) None

abbrev pub same_key : List ℕ × List ℕ → List ℕ × List ℕ → Bool
same_key a b = same_bytes a.0 b.0 && same_bytes a.1 b.1

-- one of the members has this name and descriptor
abbrev pub has_key : ClassFile → List Member → List ℕ × List ℕ → Bool
has_key c members key = list_any (λ m. option_map_or (same_key key) (key_of c m) false) members

-- the numbers of the members that have the name and descriptor of an earlier member
abbrev pub repeated : ClassFile → List Member → List ℕ
repeated c members =
    passing
    (λ n. option_map_or (λ m. option_map_or (has_key c (take n members)) (key_of c m) false) (slice_get members n) false)
    0 (length members)

-- ---- the faults

-- the elements that a rule is about, and the test of those that break it
pub data About : Type 0 where
  OfClass : Bool → About
  OfConstants : (Constant → Bool) → About
  OfInterfaces : (ConstantIndex → Bool) → About
  OfFields : (Member → Bool) → About
  OfMethods : (Member → Bool) → About
  OfRepeatedFields : About
  OfRepeatedMethods : About
  OfAttributes : (PlacedAttribute → Bool) → About

-- what each rule is about, with its test
abbrev pub about : ClassFile → FormatRule → About
about c rules.F1 = OfConstants (breaks_f1 c)
about c rules.F2 = OfConstants (breaks_f2 c)
about c rules.F3 = OfConstants (breaks_f3 c)
about c rules.F4 = OfConstants (breaks_f4 c)
about c rules.F5 = OfConstants (breaks_f5 c)
about c rules.F6 = OfConstants (breaks_f6 c)
about c rules.F7 = OfConstants (breaks_f7 c)
about c rules.F8 = OfConstants (breaks_f8 c)
about c rules.F9 = OfConstants (breaks_f9 c)
about c rules.F10 = OfConstants (breaks_f10 c)
about c rules.F11 = OfConstants (breaks_f11 c)
about c rules.F12 = OfClass (breaks_f12 c)
about c rules.F13 = OfClass (breaks_f13 c)
about c rules.F14 = OfInterfaces (breaks_f14 c)
about c rules.F15 = OfFields (breaks_f15 c)
about c rules.F16 = OfFields (breaks_f16 c)
about c rules.F17 = OfFields (breaks_f17 c)
about c rules.F18 = OfRepeatedFields
about c rules.F19 = OfMethods (breaks_f19 c)
about c rules.F20 = OfMethods (breaks_f20 c)
about c rules.F21 = OfMethods (breaks_f21 c)
about c rules.F22 = OfRepeatedMethods
about c rules.F23 = OfMethods (breaks_f23 c)
about c rules.F24 = OfMethods (breaks_f24 c)
about c rules.F25 = OfFields (breaks_f25 c)
about c rules.F26 = OfMethods (breaks_f26 c)
about c rules.F27 = OfClass (breaks_f27 c)
about c rules.F28 = OfAttributes (breaks_f28 c)
about c rules.F29 = OfAttributes (breaks_f29 c)
about c rules.F30 = OfAttributes (breaks_f30 c)

-- the places of the elements that break the rule
abbrev pub places_of : ClassFile → About → List ℕ
places_of c (OfClass is_broken) = only_if is_broken
places_of c (OfConstants breaks) = constants_with c breaks
places_of c (OfInterfaces breaks) = those_with breaks c.interfaces
places_of c (OfFields breaks) = those_with breaks c.fields
places_of c (OfMethods breaks) = those_with breaks c.methods
places_of c OfRepeatedFields = repeated c c.fields
places_of c OfRepeatedMethods = repeated c c.methods
places_of c (OfAttributes breaks) = attributes_with c breaks

-- the places where a rule is broken
abbrev pub places : ClassFile → FormatRule → List ℕ
places c rule = places_of c (about c rule)

-- the fault against a rule at a place
abbrev pub fault_at : FormatRule → ℕ → Fault
fault_at rule place = record { rule = rule; place = place }

-- the faults against a rule
abbrev pub faults_against : ClassFile → FormatRule → List Fault
faults_against c rule = map (fault_at rule) (places c rule)

-- all faults, in the order of the rules, then of the places
unfoldable pub faults : ClassFile → List Fault
faults c = flat_map (faults_against c) ALL
