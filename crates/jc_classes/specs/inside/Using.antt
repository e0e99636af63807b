-- The search for the used constants.
use Rattle.std.specs.Prelude.{◌≡◌, ℕ, ◌+◌, ◌<◌, ◌||◌, Bool, false, List, [], cond, length, map, option_and_then, if◌then◌else◌, None, slice_index_or}
use Rattle.std.specs.List.{flat_map, range_with_len}
use Rattle.std.specs.Option.{option_to_list}
use Rattle.jc_view.specs.declared.constant_pool.ConstantIndex.{ConstantIndex}
use Rattle.jc_view.specs.declared.attribute_kind.AttributeKind.TheVariants as kinds
use Rattle.jc_view.specs.Attributes.{is_recognised}
use Rattle.jc_view.specs.Places.{PlacedAttribute}
use Rattle.jc_view.specs.AttributeReading.{after_bootstrap, bootstrap_value}
use Rattle.jc_view.specs.ClassFile.{ClassFile, all_slots, constant_at}
use Rattle.jc_view.specs.Reading.{table_value}
use Rattle.jc_view.specs.Lookups.{class_index}
use Rattle.jc_classes.specs.UsedConstants.{is_among, named_by_table}

-- the constants that an attribute of the class names, if it is a BootstrapMethods attribute
abbrev pub named_by_attribute : ClassFile → PlacedAttribute → List ConstantIndex
named_by_attribute c a = cond (is_recognised c kinds.BootstrapMethods a.holder a.attribute) (named_by_table a.attribute.bytes) []

-- the arguments of all bootstrap methods in the table at the front of the bytes, after its count
abbrev pub arguments_at : List ℕ → List ConstantIndex
arguments_at xs = flat_map (λ m. m.arguments) (table_value after_bootstrap bootstrap_value xs)

-- the classes of those of these constants that are references to members
abbrev pub owners : ClassFile → List ConstantIndex → List ConstantIndex
owners c names =
    flat_map
    (λ index. option_to_list (if is_among names index then option_and_then class_index (constant_at c (record { 0 = index })) else None))
    (range_with_len 1 (all_slots c.constants))

abbrev pub mark_at : List Bool → ℕ → Bool
mark_at marks i = slice_index_or marks i false

-- the indexes that pass the test were marked as well
pub record Marks (test : ℕ → Bool) (old new : List Bool) : Type 0 where
  pub size : length new ≡ length old
  pub marks : (i : ℕ) → i < length old → mark_at new i ≡ (mark_at old i || test i)

-- for each index of a constant, whether it is in `names`
abbrev pub are_marks : ClassFile → List ConstantIndex → List Bool
are_marks c names = map (is_among names) (range_with_len 0 (1 + all_slots c.constants))
