-- Slots: methods of one name and descriptor, each of which overrides those of its superclasses in the slot.
use Rattle.std.specs.Prelude.{ℕ, ◌==◌, List, [], ◌∷◌, ◌++◌, cond, Option, Some, None}
use Rattle.std.specs.List.{flat_map}
use Rattle.jc_classes.specs.Facts.{Key}
use Rattle.jc_classes.specs.Names.{Name}

-- the methods with this key that are PUBLIC or PROTECTED, or that are package-private and in this package
pub record Slot : Type 0 where
  pub in_package : Option Name
  pub key : Key

abbrev pub open_slot : Key → Slot
open_slot k = record { in_package = None; key = k }

abbrev pub package_slot : Name → Key → Slot
package_slot p k = record { in_package = Some p; key = k }

-- a text with 0 as 0 and 1, and 0 and 0 at its end
abbrev pub escaped : ℕ → List ℕ
escaped byte = cond (byte == 0) (0 ∷ 1 ∷ []) (byte ∷ [])

abbrev pub ended : List ℕ → List ℕ
ended text = flat_map escaped text ++ 0 ∷ 0 ∷ []

abbrev pub key_name : Key → List ℕ
key_name k = ended k.name ++ k.descriptor

abbrev pub name_in : Option Name → Key → List ℕ
name_in None k = 0 ∷ key_name k
name_in (Some p) k = 1 ∷ ended p ++ key_name k

-- the name of a slot, as bytes. Different slots have different names
abbrev pub slot_name : Slot → List ℕ
slot_name s = name_in s.in_package s.key
