-- The texts of the constants, by index.
use Rattle.std.specs.Prelude.{ℕ, ◌+◌, Bool, true, false, List, [], map, Option, Some, option_and_then}
use Rattle.std.specs.Option.{option_map_or}
use Rattle.std.specs.List.{range_with_len}
use Rattle.jc_view.specs.declared.constant_pool.ConstantIndex.{ConstantIndex}
use Rattle.jc_view.specs.declared.constant_pool.ConstantKind.{ConstantKind}
use Rattle.jc_view.specs.declared.constant_pool.ConstantKind.TheVariants as kinds
use Rattle.jc_view.specs.ClassFile.{ClassFile, all_slots}
use Rattle.jc_view.specs.Lookups.{member_descriptor_at, member_name_at, utf8_at}
use Rattle.jc_classes.specs.Facts.{Key}
use Rattle.jc_classes.specs.inside.FactsShown.{text_at}

-- the text at an index, and an empty text if no Utf8 constant has the index
abbrev pub text_or_empty : ClassFile → ℕ → List ℕ
text_or_empty c index = option_map_or (λ text. text) (utf8_at c (record { 0 = index })) []

unfoldable pub texts_of : ClassFile → List (List ℕ)
texts_of c = map (text_or_empty c) (range_with_len 0 (1 + all_slots c.constants))

-- a name and a descriptor, by index
abbrev pub key_shown : List (List ℕ) → ℕ × ℕ → Key
key_shown texts pair = record { name = text_at texts pair.0; descriptor = text_at texts pair.1 }

-- the name and the descriptor of the NameAndType at an index
abbrev pub key_at : ClassFile → ConstantIndex → Option Key
key_at c entry =
    option_and_then
    (λ name. option_and_then (λ descriptor. Some (record { name = name; descriptor = descriptor })) (member_descriptor_at c entry))
    (member_name_at c entry)

-- whether constants of the kind are references to classes or to members (JVMS 4.4.1, 4.4.2)
abbrev pub is_reference : ConstantKind → Bool
is_reference kinds.Class = true
is_reference kinds.Fieldref = true
is_reference kinds.Methodref = true
is_reference kinds.InterfaceMethodref = true
is_reference _ = false
