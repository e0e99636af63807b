-- The facts of a class file.
use Rattle.std.specs.Prelude.{ℕ, ◌==◌, not, List, [], ◌∷◌, length, map, Option, Some, None, option_and_then, if◌then◌else◌}
use Rattle.std.specs.Option.{option_map_or, option_to_list}
use Rattle.std.specs.List.{filter, flat_map, range_with_len}
use Rattle.jc_view.specs.declared.constant_pool.ConstantIndex.{ConstantIndex}
use Rattle.jc_view.specs.ConstantPool as pool
use Rattle.jc_view.specs.ClassFile as file
use Rattle.jc_view.specs.ClassFile.{ClassFile, all_slots, class_text_at, constant_at}
use Rattle.jc_view.specs.Lookups.{member_descriptor_at, member_name_at, utf8_at}
use Rattle.jc_file.specs.Faults.{faults}
use Rattle.jc_code.specs.MethodFaults.{code_faults}
use Rattle.jc_code.specs.MethodUses.{uses}
use Rattle.jc_classes.specs.declared.reference.ReferenceKind.{ReferenceKind}
use Rattle.jc_classes.specs.declared.reference.ReferenceKind.TheVariants as kinds
use Rattle.jc_classes.specs.Facts.{Facts, Member, Reference}
use Rattle.jc_classes.specs.NamedTexts.{named_by}
use Rattle.jc_classes.specs.Names.{Name, same_name}
use Rattle.jc_classes.specs.Users.{user_of}
use Rattle.jc_classes.specs.declared.used.User.{User}

infixl 10 ◌>>=◌
abbrev ◌>>=◌ : {A B : Type 0} → Option A → (A → Option B) → Option B
o >>= f = option_and_then f o

-- ---- references (JVMS 4.4.1, 4.4.2)

abbrev pub class_reference : ClassFile → ℕ → ConstantIndex → Option Reference
class_reference c index name = do
  text ← utf8_at c name
  Some (record { index = index; kind = kinds.Class; named = named_by text; key = record { name = []; descriptor = [] } })

abbrev pub member_reference : ClassFile → ℕ → ReferenceKind → ConstantIndex → ConstantIndex → Option Reference
member_reference c index kind class entry = do
  text ← class_text_at c class
  name ← member_name_at c entry
  descriptor ← member_descriptor_at c entry
  Some (record { index = index; kind = kind; named = named_by text; key = record { name = name; descriptor = descriptor } })

-- the reference that a constant represents
abbrev pub reference_of : ClassFile → ℕ → pool.Constant → Option Reference
reference_of c index (pool.Class name) = class_reference c index name
reference_of c index (pool.Fieldref class entry) = member_reference c index kinds.Field class entry
reference_of c index (pool.Methodref class entry) = member_reference c index kinds.Method class entry
reference_of c index (pool.InterfaceMethodref class entry) = member_reference c index kinds.InterfaceMethod class entry
reference_of c index constant = None

abbrev pub reference_at : ClassFile → ℕ → Option Reference
reference_at c index = option_and_then (reference_of c index) (constant_at c (record { 0 = index }))

-- the references of the class file, in ascending order of index
unfoldable pub references_in : ClassFile → List Reference
references_in c = flat_map (λ index. option_to_list (reference_at c index)) (range_with_len 1 (all_slots c.constants))

-- what uses each reference, in the order of the references
unfoldable pub users_in : ClassFile → List User
users_in c = map (λ (r : Reference). user_of c r.index) (references_in c)

-- ---- members and supertypes, in file order

abbrev pub member_of : ClassFile → file.Member → Option Member
member_of c m = do
  name ← utf8_at c m.name
  descriptor ← utf8_at c m.descriptor
  Some (record { name = name; descriptor = descriptor; flags = m.flags })

abbrev pub members_in : ClassFile → List file.Member → List Member
members_in c members = flat_map (λ m. option_to_list (member_of c m)) members

abbrev pub interfaces_in : ClassFile → List (List ℕ)
interfaces_in c = flat_map (λ index. option_to_list (class_text_at c index)) c.interfaces

-- each name once, where it occurs first
abbrev pub once : List Name → List Name
once [] = []
once (n ∷ ns) = n ∷ filter (λ m. not (same_name m n)) (once ns)

abbrev pub class_name : ClassFile → List ℕ
class_name c = option_map_or (λ name. name) (class_text_at c c.this_class) []

-- ---- facts

-- the facts of a file without a format fault
abbrev pub sound_facts : List ℕ → ClassFile → Facts
sound_facts path c = record {
  path = path;
  name = class_name c;
  flags = c.flags;
  superclass = class_text_at c c.super_class;
  interfaces = once (interfaces_in c);
  fields = members_in c c.fields;
  methods = members_in c c.methods;
  references = references_in c;
  uses = uses c;
  users = users_in c;
  format_faults = [];
  code_faults = code_faults c;
}

-- of a file with a format fault, only its path, name, flags and format faults are kept
abbrev pub faulty_facts : List ℕ → ClassFile → Facts
faulty_facts path c = record {
  path = path;
  name = class_name c;
  flags = c.flags;
  superclass = None;
  interfaces = [];
  fields = [];
  methods = [];
  references = [];
  uses = [];
  users = [];
  format_faults = faults c;
  code_faults = [];
}

abbrev pub facts_of : List ℕ → ClassFile → Facts
facts_of path c = if length (faults c) == 0 then sound_facts path c else faulty_facts path c
