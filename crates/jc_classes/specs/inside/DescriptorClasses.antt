-- The search for the Class constants whose classes are in descriptors.
use Rattle.std.specs.Prelude.{◌≡◌, ℕ, ◌||◌, Bool, false, List, Option, Some, None, option_and_then, slice_index_or}
use Rattle.std.specs.FinMap as fin
use Rattle.std.specs.Option.{option_map_or, option_to_list}
use Rattle.jc_base.specs.Bytes.{bytes_cmp}
use Rattle.jc_view.specs.declared.constant_pool.ConstantIndex.{ConstantIndex}
use Rattle.jc_view.specs.ClassFile.{ClassFile, constant_at}
use Rattle.jc_view.specs.Lookups.{name_and_type_index, utf8_at}
use Rattle.jc_classes.specs.NameLists.{has}
use Rattle.jc_classes.specs.NamedTexts.{named_by}
use Rattle.jc_classes.specs.Names.{Name}
use Rattle.jc_classes.specs.Parts.{class_of}
use Rattle.jc_classes.specs.ResolvedDescriptors.{descriptor_in}

-- a set of names
abbrev pub NameSet : Type 0
NameSet = fin.FinMap bytes_cmp (Unit {0})

-- these names were added to the set
pub record Adds (names : List Name) (old new : NameSet) : Type 0 where
  pub each : (n : Name) → fin.contains_key new n ≡ (fin.contains_key old n || has names n)

-- whether the class that a text names passes the test; for an array, its innermost class
abbrev pub names_one : (Name → Bool) → Option (List ℕ) → Bool
names_one test text = option_map_or test (option_and_then (λ t. class_of (named_by t)) text) false

-- each known result of the test is correct
abbrev pub AreKnown : (Name → Bool) → ClassFile → List (Option Bool) → Type 0
AreKnown test c known = (i : ℕ) (names : Bool) → slice_index_or known i None ≡ Some names → names ≡ names_one test (utf8_at c (record { 0 = i }))

-- the descriptor of the member that the constant at the index refers to
abbrev pub member_descriptor : ClassFile → ConstantIndex → Option ConstantIndex
member_descriptor c index = option_and_then (descriptor_in c) (option_and_then name_and_type_index (constant_at c index))

abbrev pub descriptor_of_member : ClassFile → ConstantIndex → List ConstantIndex
descriptor_of_member c index = option_to_list (member_descriptor c index)
