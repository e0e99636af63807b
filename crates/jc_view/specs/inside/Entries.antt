-- The entries of tables, as plain data.
use Rattle.std.specs.Prelude.{◌≡◌, ℕ, ◌<◌, ◌^◌, ◌+◌, List, length, take, drop, Option, Some, None}
use Rattle.jc_base.specs.Cursor.{Reading}
use Rattle.jc_base.specs.Endian.{big_number}
use Rattle.jc_view.specs.declared.attribute_kind.Holder.{Holder}
use Rattle.jc_view.specs.declared.attributes.AttributeEntry.{AttributeEntry}
use Rattle.jc_view.specs.declared.members.MemberEntry.{MemberEntry}
use Rattle.jc_view.specs.declared.code.CodeBody.{CodeBody}
use Rattle.jc_view.specs.declared.code.Instructions.{Instructions}
use Rattle.jc_view.specs.declared.entries.Entries.{Entries}
use Rattle.jc_view.specs.ClassFile.{Attribute, Member}
use Rattle.jc_view.specs.Places.{PlacedAttribute, PlacedMember, attributes_from, members_from}
use Rattle.jc_view.specs.Reading.{after, after_attribute, attribute_value, after_member, member_value}
use Rattle.jc_view.specs.Attributes.{Code, code_front}
use Rattle.jc_view.specs.AttributeReading.{code_length, handler_value}
use Rattle.jc_view.specs.Moves.{KeepsEnd}
use Rattle.jc_view.specs.inside.Tables.{entries, IsWhole}

-- ---- attributes

abbrev pub attribute_of : AttributeEntry → Attribute
attribute_of a = record { name = a.name; bytes = a.body.rest }

abbrev pub placed_attribute : Holder → AttributeEntry → PlacedAttribute
placed_attribute holder a = record { holder = holder; place = a.place; attribute = attribute_of a }

-- the attributes that are left in a table
abbrev pub placed_attributes : Holder → Entries → List PlacedAttribute
placed_attributes holder t = attributes_from holder t.cursor.place (entries after_attribute attribute_value t)

-- Some: the attribute at the old place, and the cursor is at its end; None: the bytes end before the attribute does
abbrev pub LendsAttribute : Reading → Option AttributeEntry → Reading → Type 0
LendsAttribute old None new = after_attribute old.rest ≡ None
LendsAttribute old (Some a) new =
    (after_attribute old.rest ≡ Some new.rest) × KeepsEnd old new × (attribute_of a ≡ attribute_value old.rest)
    × (a.place ≡ old.place) × (a.body.place ≡ old.place + 6)

-- ---- members

abbrev pub member_of : MemberEntry → Member
member_of m = record {
  flags = m.flags;
  name = m.name;
  descriptor = m.descriptor;
  attributes = entries after_attribute attribute_value m.attributes;
}

abbrev pub placed_member : Holder → MemberEntry → PlacedMember
placed_member holder m = record { holder = holder; place = m.place; member = member_of m }

-- the attributes of a member are whole, and follow access_flags, name_index, descriptor_index and attributes_count
pub record IsMemberEntry (m : MemberEntry) : Type 0 where
  pub whole : IsWhole after_attribute m.attributes
  pub place : m.attributes.cursor.place ≡ m.place + 8

-- the members that are left in a table
abbrev pub placed_members : Holder → Entries → List PlacedMember
placed_members holder t = members_from holder t.cursor.place (entries after_member member_value t)

-- Some: the member at the old place, and the cursor is at its end; None: the bytes end before the member does
abbrev pub LendsMember : Reading → Option MemberEntry → Reading → Type 0
LendsMember old None new = after_member old.rest ≡ None
LendsMember old (Some m) new =
    (after_member old.rest ≡ Some new.rest) × KeepsEnd old new × (member_of m ≡ member_value old.rest)
    × (m.place ≡ old.place) × IsMemberEntry m

-- ---- code

-- the parts before the exception table: max_stack, max_locals and the instructions
abbrev pub instructions : Instructions → ℕ × ℕ × List ℕ
instructions i = (i.max_stack, i.max_locals, i.bytes.now)

abbrev pub instructions_value : List ℕ → ℕ × ℕ × List ℕ
instructions_value xs = (big_number 2 xs, big_number 2 (drop 2 xs), take (code_length xs) (drop 8 xs))

abbrev pub body_code : CodeBody → Code
body_code b = record {
  max_stack = b.instructions.max_stack;
  max_locals = b.instructions.max_locals;
  code = b.instructions.bytes.now;
  handlers = entries (after 8) handler_value b.handlers;
  attributes = entries after_attribute attribute_value b.attributes;
}

-- the tables of a Code at this place are whole, and its attributes follow the other parts and attributes_count
pub record IsCodeBody (place : ℕ) (b : CodeBody) : Type 0 where
  pub handlers : IsWhole (after 8) b.handlers
  pub attributes : IsWhole after_attribute b.attributes
  pub attributes_place : b.attributes.cursor.place ≡ place + length (code_front (body_code b)) + 2
  pub some : 0 < length b.instructions.bytes.now
  pub few : length b.instructions.bytes.now < 2 ^ 16
