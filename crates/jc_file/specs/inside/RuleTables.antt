-- The rules for each kind of element, with their tests.
use Rattle.std.specs.Prelude.{◌≡◌, ℕ, ◌+◌, Bool, false, cond, List, [], ◌∷◌, ◌++◌}
use Rattle.jc_view.specs.ConstantPool.{Constant}
use Rattle.jc_view.specs.ClassFile.{ClassFile, Member}
use Rattle.jc_view.specs.declared.constant_pool.ConstantIndex.{ConstantIndex}
use Rattle.jc_view.specs.Places.{PlacedAttribute}
use Rattle.jc_file.specs.declared.fault.FormatRule.{FormatRule}
use Rattle.jc_file.specs.declared.fault.FormatRule.TheVariants as rules
use Rattle.jc_file.specs.FormatRules.{breaks_f1, breaks_f2, breaks_f3, breaks_f4, breaks_f5, breaks_f6, breaks_f7, breaks_f8}
use Rattle.jc_file.specs.FormatRules.{breaks_f9, breaks_f10, breaks_f11, breaks_f12, breaks_f13, breaks_f14, breaks_f15, breaks_f16}
use Rattle.jc_file.specs.FormatRules.{breaks_f17, breaks_f19, breaks_f20, breaks_f21, breaks_f23, breaks_f24, breaks_f25, breaks_f26}
use Rattle.jc_file.specs.FormatRules.{breaks_f27, breaks_f28, breaks_f29, breaks_f30}
use Rattle.jc_file.specs.Faults.{attributes_with, constants_with, only_if, repeated, those_with}
use Rattle.jc_file.specs.declared.rule_set.RuleSet.{RuleSet}
use Rattle.jc_file.specs.inside.RuleSets.{has, same_rule}

-- the result of the last test of the rule, or `found` if no test is of the rule
abbrev pub breaks_after : Bool → List (FormatRule × Bool) → FormatRule → Bool
breaks_after found [] rule = found
breaks_after found (test ∷ tests) rule = breaks_after (cond (same_rule test.0 rule) test.1 found) tests rule

abbrev pub breaks_in : List (FormatRule × Bool) → FormatRule → Bool
breaks_in tests rule = breaks_after false tests rule

-- the set has exactly the rules whose tests hold
abbrev pub AreBroken : List (FormatRule × Bool) → RuleSet → Type 0
AreBroken tests s = (rule : FormatRule) → has s rule ≡ breaks_in tests rule

abbrev pub constant_tests : ClassFile → Constant → List (FormatRule × Bool)
constant_tests c constant =
    (rules.F1, breaks_f1 c constant) ∷ (rules.F2, breaks_f2 c constant) ∷ (rules.F3, breaks_f3 c constant)
    ∷ (rules.F4, breaks_f4 c constant) ∷ (rules.F5, breaks_f5 c constant) ∷ (rules.F6, breaks_f6 c constant)
    ∷ (rules.F7, breaks_f7 c constant) ∷ (rules.F8, breaks_f8 c constant) ∷ (rules.F9, breaks_f9 c constant)
    ∷ (rules.F10, breaks_f10 c constant) ∷ (rules.F11, breaks_f11 c constant) ∷ []

abbrev pub class_tests : ClassFile → List (FormatRule × Bool)
class_tests c = (rules.F12, breaks_f12 c) ∷ (rules.F13, breaks_f13 c) ∷ (rules.F27, breaks_f27 c) ∷ []

abbrev pub interface_tests : ClassFile → ConstantIndex → List (FormatRule × Bool)
interface_tests c index = (rules.F14, breaks_f14 c index) ∷ []

abbrev pub field_tests : ClassFile → Member → List (FormatRule × Bool)
field_tests c f =
    (rules.F15, breaks_f15 c f) ∷ (rules.F16, breaks_f16 c f) ∷ (rules.F17, breaks_f17 c f) ∷ (rules.F25, breaks_f25 c f) ∷ []

abbrev pub method_tests : ClassFile → Member → List (FormatRule × Bool)
method_tests c m =
    (rules.F19, breaks_f19 c m) ∷ (rules.F20, breaks_f20 c m) ∷ (rules.F21, breaks_f21 c m)
    ∷ (rules.F23, breaks_f23 c m) ∷ (rules.F24, breaks_f24 c m) ∷ (rules.F26, breaks_f26 c m) ∷ []

abbrev pub attribute_tests : ClassFile → PlacedAttribute → List (FormatRule × Bool)
attribute_tests c a = (rules.F28, breaks_f28 c a) ∷ (rules.F29, breaks_f29 c a) ∷ (rules.F30, breaks_f30 c a) ∷ []

-- ---- the places where each rule is broken, by the kind of element

abbrev pub class_places : ClassFile → FormatRule → List ℕ
class_places c rule = only_if (breaks_in (class_tests c) rule)

abbrev pub constant_places : ClassFile → FormatRule → List ℕ
constant_places c rule = constants_with c (λ constant. breaks_in (constant_tests c constant) rule)

abbrev pub interface_places : ClassFile → FormatRule → List ℕ
interface_places c rule = those_with (λ index. breaks_in (interface_tests c index) rule) c.interfaces

abbrev pub field_places : ClassFile → FormatRule → List ℕ
field_places c rule = those_with (λ f. breaks_in (field_tests c f) rule) c.fields

abbrev pub method_places : ClassFile → FormatRule → List ℕ
method_places c rule = those_with (λ m. breaks_in (method_tests c m) rule) c.methods

abbrev pub repeated_places : ClassFile → FormatRule → List ℕ
repeated_places c rule = cond (same_rule rules.F18 rule) (repeated c c.fields) [] ++ cond (same_rule rules.F22 rule) (repeated c c.methods) []

abbrev pub attribute_places : ClassFile → FormatRule → List ℕ
attribute_places c rule = attributes_with c (λ a. breaks_in (attribute_tests c a) rule)

-- the numbers of the elements that pass the test, counted from n
abbrev pub numbered : {X : Type 0} → (X → Bool) → ℕ → List X → List ℕ
numbered test n [] = []
numbered test n (x ∷ xs) = cond (test x) (n ∷ []) [] ++ numbered test (n + 1) xs
