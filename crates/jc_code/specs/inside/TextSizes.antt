-- The sizes that the texts of a class describe, by the indexes of its constants.
use Rattle.std.specs.Prelude.{◌≡◌, ℕ, ◌+◌, ◌<◌, ◌≤◌, List, length, Option, Some, Result, OnOk}
use Rattle.std.specs.Prelude.{None, option_and_then, slice_index_or, sum_by, if◌then◌else◌}
use Rattle.std.specs.Option.{option_map, option_map_or}
use Rattle.jc_base.specs.Descriptors.{slots_of}
use Rattle.jc_base.specs.DescriptorTests.{method_type_of}
use Rattle.jc_view.specs.declared.constant_pool.ConstantIndex.{ConstantIndex}
use Rattle.jc_view.specs.declared.constant_pool.ConstantKind.TheVariants as kinds
use Rattle.jc_view.specs.ClassFile.{ClassFile}
use Rattle.jc_view.specs.Lookups.{member_descriptor_at, is_entry, utf8_at}
use Rattle.jc_code.specs.declared.text_sizes.Sizes.{Sizes}
use Rattle.jc_code.specs.CodeRules.{dimensions_of, slots_at}

abbrev pub at_index : ℕ → ConstantIndex
at_index i = record { 0 = i }

-- the dimensions of the class whose text is at an index
abbrev pub dimensions_in : ClassFile → ℕ → ℕ
dimensions_in c i = option_map_or dimensions_of (utf8_at c (at_index i)) 0

-- the number of slots of a method's parameters, from the text of its descriptor
abbrev pub slots_of_text : List ℕ → Option ℕ
slots_of_text text = option_map (λ type. sum_by slots_of type.params) (method_type_of text)

-- the number of slots, from the text at an index
abbrev pub slots_in : ClassFile → ℕ → Option ℕ
slots_in c i = option_and_then slots_of_text (utf8_at c (at_index i))

-- the number of slots, from the descriptor of a NameAndType
abbrev pub entry_slots : ClassFile → ConstantIndex → Option ℕ
entry_slots c entry = option_and_then slots_of_text (member_descriptor_at c entry)

-- the number of slots, from an InterfaceMethodref
abbrev pub interface_slots : ClassFile → ℕ → Option ℕ
interface_slots c i = if is_entry c kinds.InterfaceMethodref (at_index i) then slots_at c (at_index i) else None

-- the slots that are known are those of the texts
abbrev pub AreKnown : ClassFile → List (Option (Option ℕ)) → Type 0
AreKnown c known = (i : ℕ) (slots : Option ℕ) → slice_index_or known i None ≡ Some slots → slots ≡ slots_in c i

-- a list has the value of each index below n, and no values from n on
pub record Fills {X : Type 0} (none : X) (value : ℕ → X) (n : ℕ) (xs : List X) : Type 0 where
  pub at : (i : ℕ) → i < n → slice_index_or xs i none ≡ value i
  pub short : length xs ≤ n

-- on success, a list with the values below n gets the value of n
abbrev pub FillsNext : {X T E : Type 0} → X → ℕ → X → Result T E → List X → List X → Type 0
FillsNext {X = X} none n here result old new =
    (value : ℕ → X) → Fills none value n old → value n ≡ here → OnOk result (Fills none value (n + 1) new)

-- the sizes at the indexes below n
pub record AreSizesBefore (c : ClassFile) (n : ℕ) (sizes : Sizes) : Type 0 where
  pub dims : Fills 0 (dimensions_in c) n sizes.dims.items
  pub slots : Fills None (interface_slots c) n sizes.slots.items

-- the sizes at all indexes
pub record AreSizes (c : ClassFile) (sizes : Sizes) : Type 0 where
  pub dims : (i : ℕ) → slice_index_or sizes.dims.items i 0 ≡ dimensions_in c i
  pub slots : (i : ℕ) → slice_index_or sizes.slots.items i None ≡ interface_slots c i
