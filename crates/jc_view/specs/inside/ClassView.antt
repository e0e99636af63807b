-- The class file that a view is of, and the invariant of views.
use Rattle.std.specs.Prelude.{◌≡◌}
use Rattle.jc_view.specs.declared.attribute_kind.Holder.TheVariants as holders
use Rattle.jc_view.specs.declared.layout_reader.ClassTables.{ClassTables}
use Rattle.jc_view.specs.declared.view.ClassView.TheInside.{Inside}
use Rattle.jc_view.specs.ClassFile.{ClassFile}
use Rattle.jc_view.specs.Reading.{after, after_member, after_attribute, class_value}
use Rattle.jc_view.specs.ConstantPool.{index_value}
use Rattle.jc_view.specs.Outcome.{AreBytes}
use Rattle.jc_view.specs.Refusal.{IsNamed}
use Rattle.jc_view.specs.inside.ConstantPlaces.{Holds}
use Rattle.jc_view.specs.Places.{fields_in, methods_in, attributes_in}
use Rattle.jc_view.specs.inside.Tables.{entries, IsWhole}
use Rattle.jc_view.specs.inside.Entries.{placed_members, placed_attributes}

abbrev pub class_shown : Inside → ClassFile
class_shown v = class_value v.bytes.now v.offsets.items v.tail

-- the tables are those of this class file
pub record AreTables (c : ClassFile) (t : ClassTables) : Type 0 where
  pub whole_interfaces : IsWhole (after 2) t.interfaces
  pub whole_fields : IsWhole after_member t.fields
  pub whole_methods : IsWhole after_member t.methods
  pub whole_attributes : IsWhole after_attribute t.attributes
  pub interfaces : entries (after 2) index_value t.interfaces ≡ c.interfaces
  pub fields : placed_members holders.Field t.fields ≡ fields_in c
  pub methods : placed_members holders.Method t.methods ≡ methods_in c
  pub attributes : placed_attributes holders.Class t.attributes ≡ attributes_in c

pub record IsViewed (v : Inside) : Type 0 where
  pub are_bytes : AreBytes v.bytes.now
  pub holds : Holds v.bytes.now v.offsets.items (class_shown v)
  pub major : v.version.major ≡ (class_shown v).major
  pub minor : v.version.minor ≡ (class_shown v).minor
  pub flags : v.numbers.flags ≡ (class_shown v).flags
  pub this_class : v.numbers.this_class ≡ (class_shown v).this_class
  pub super_class : v.numbers.super_class ≡ (class_shown v).super_class
  pub tables : AreTables (class_shown v) v.tables
  pub is_name : IsNamed (class_shown v) v.name.now
