-- A test for each static constraint: whether an instruction or an exception handler breaks it (JVMS 4.7.3, 4.9.1).
-- A missing entry or text breaks only the rules that require it.
use Rattle.std.specs.Prelude.{ℕ, ◌+◌, ℤ, pos, negsuc, int_lt, Bool, true, false, not, ◌&&◌, ◌||◌, ◌==◌}
use Rattle.std.specs.Prelude.{nat_lt, nat_le, List, [], ◌∷◌, map, sum_by, Option, Some, None, option_and_then}
use Rattle.std.specs.List.{list_all, list_any}
use Rattle.std.specs.Option.{option_map, option_map_or}
use Rattle.jc_base.specs.Bytes.{same_bytes}
use Rattle.jc_base.specs.Descriptors.{slots_of}
use Rattle.jc_base.specs.DescriptorTests.{begins_with, field_type_of, method_type_of}
use Rattle.std.specs.Prelude.{codes}
use Rattle.jc_view.specs.declared.constant_pool.ConstantIndex.{ConstantIndex}
use Rattle.jc_view.specs.declared.constant_pool.ConstantKind.{ConstantKind}
use Rattle.jc_view.specs.declared.constant_pool.ConstantKind.TheVariants as kinds
use Rattle.jc_view.specs.ClassFile.{ClassFile, class_text_at, constant_at}
use Rattle.jc_view.specs.Lookups.{member_descriptor_at, fails, is_entry, member_name_at, passes, name_and_type_index}
use Rattle.jc_view.specs.Attributes.{Handler}
use Rattle.jc_code.specs.declared.insn.Insn.{Insn}
use Rattle.jc_code.specs.declared.insn.Insn.TheVariants as insns
use Rattle.jc_code.specs.declared.opcode.Operands.{Operands}
use Rattle.jc_code.specs.declared.opcode.Operands.TheVariants as operands
use Rattle.jc_code.specs.Opcodes.{operands_of}
use Rattle.jc_code.specs.Insns.{anewarray, invokespecial, invokevirtual, jsr, jsr_w, ldc2_w, new}

-- the scope of the rules: the class, max_locals, the number of bytes of the code, and where its instructions start
pub record Scope : Type 0 where
  pub class : ClassFile
  pub max_locals : ℕ
  pub size : ℕ
  pub starts : List ℕ

-- ---- starts of instructions

abbrev pub is_start : Scope → ℕ → Bool
is_start s place = list_any (λ start. start == place) s.starts

-- the target is the start of an instruction; a target may be before the code
abbrev pub is_target : Scope → ℤ → Bool
is_target s (pos place) = is_start s place
is_target s (negsuc n) = false

-- the instruction is jsr or jsr_w, which a file of version 51 or later must not have (JVMS 4.9.1)
abbrev pub breaks_s2 : Scope → Insn → Bool
breaks_s2 s (insns.Branch opcode target) = opcode == jsr || opcode == jsr_w
breaks_s2 s insn = false

-- the target of a branch is not the start of an instruction
abbrev pub breaks_s3 : Scope → Insn → Bool
breaks_s3 s (insns.Branch opcode target) = not (is_target s target)
breaks_s3 s insn = false

-- a target of a switch, or its default target, is not the start of an instruction
abbrev pub breaks_s4 : Scope → Insn → Bool
breaks_s4 s (insns.TableSwitch switch) = not (is_target s switch.default && list_all (is_target s) switch.targets.left)
breaks_s4 s (insns.LookupSwitch switch) = not (is_target s switch.default && list_all (λ case. is_target s case.target) switch.cases.left)
breaks_s4 s insn = false

-- the values are in strictly ascending order, and the first is greater than `low`
abbrev pub rise_from : ℤ → List ℤ → Bool
rise_from low [] = true
rise_from low (z ∷ zs) = int_lt low z && rise_from z zs

-- the values are in strictly ascending order
abbrev pub do_rise : List ℤ → Bool
do_rise [] = true
do_rise (z ∷ zs) = rise_from z zs

-- the values of a lookupswitch are not in strictly ascending order
abbrev pub breaks_s5 : Scope → Insn → Bool
breaks_s5 s (insns.LookupSwitch switch) = not (do_rise (map (λ case. case.value) switch.cases.left))
breaks_s5 s insn = false

-- ---- constants

abbrev pub is_one_of : ClassFile → List ConstantKind → ConstantIndex → Bool
is_one_of c kinds index = list_any (λ kind. is_entry c kind index) kinds

-- the constants that ldc and ldc_w may load
abbrev pub single_kinds : List ConstantKind
single_kinds = kinds.Integer ∷ kinds.Float ∷ kinds.String ∷ kinds.Class ∷ kinds.MethodType ∷ kinds.MethodHandle ∷ []

-- the constants that ldc2_w may load
abbrev pub double_kinds : List ConstantKind
double_kinds = kinds.Long ∷ kinds.Double ∷ []

-- ldc or ldc_w names no constant that it may load
abbrev pub breaks_s6 : Scope → Insn → Bool
breaks_s6 s (insns.Ldc opcode index) = not (opcode == ldc2_w) && not (is_one_of s.class single_kinds index)
breaks_s6 s insn = false

-- ldc2_w loads neither a Long nor a Double
abbrev pub breaks_s7 : Scope → Insn → Bool
breaks_s7 s (insns.Ldc opcode index) = opcode == ldc2_w && not (is_one_of s.class double_kinds index)
breaks_s7 s insn = false

-- a field instruction does not name a Fieldref
abbrev pub breaks_s8 : Scope → Insn → Bool
breaks_s8 s (insns.Field opcode index) = not (is_entry s.class kinds.Fieldref index)
breaks_s8 s insn = false

-- invokevirtual does not name a Methodref
abbrev pub breaks_s9 : Scope → Insn → Bool
breaks_s9 s (insns.Invoke opcode index) = opcode == invokevirtual && not (is_entry s.class kinds.Methodref index)
breaks_s9 s insn = false

-- a Methodref or, from version 52 on, an InterfaceMethodref
abbrev pub is_either_method : ClassFile → ConstantIndex → Bool
is_either_method c index = is_entry c kinds.Methodref index || nat_le 52 c.major && is_entry c kinds.InterfaceMethodref index

-- invokespecial or invokestatic names neither of these
abbrev pub breaks_s10 : Scope → Insn → Bool
breaks_s10 s (insns.Invoke opcode index) = not (opcode == invokevirtual) && not (is_either_method s.class index)
breaks_s10 s insn = false

-- invokeinterface does not name an InterfaceMethodref
abbrev pub breaks_s11 : Scope → Insn → Bool
breaks_s11 s (insns.InvokeInterface index count last) = not (is_entry s.class kinds.InterfaceMethodref index)
breaks_s11 s insn = false

-- the descriptor of the method that an entry refers to
abbrev pub referred_descriptor : ClassFile → ConstantIndex → Option (List ℕ)
referred_descriptor c index =
    option_and_then (λ entry. option_and_then (member_descriptor_at c) (name_and_type_index entry)) (constant_at c index)

-- the name of that method
abbrev pub referred_name : ClassFile → ConstantIndex → Option (List ℕ)
referred_name c index =
    option_and_then (λ entry. option_and_then (member_name_at c) (name_and_type_index entry)) (constant_at c index)

-- the number of slots of a method's parameters
abbrev pub slots_at : ClassFile → ConstantIndex → Option ℕ
slots_at c index = option_map (λ type. sum_by slots_of type.params) (option_and_then method_type_of (referred_descriptor c index))

-- the count differs from the number of slots of an interface method's parameters and the receiver
abbrev pub is_other_count : ClassFile → ConstantIndex → ℕ → Bool
is_other_count c index count =
    is_entry c kinds.InterfaceMethodref index && fails (λ slots. count == slots + 1) (slots_at c index)

-- the count of invokeinterface is wrong
abbrev pub breaks_s12 : Scope → Insn → Bool
breaks_s12 s (insns.InvokeInterface index count last) = is_other_count s.class index count
breaks_s12 s insn = false

-- the last byte of invokeinterface is not 0
abbrev pub breaks_s13 : Scope → Insn → Bool
breaks_s13 s (insns.InvokeInterface index count last) = not (last == 0)
breaks_s13 s insn = false

-- invokedynamic does not name an InvokeDynamic
abbrev pub breaks_s14 : Scope → Insn → Bool
breaks_s14 s (insns.InvokeDynamic index last) = not (is_entry s.class kinds.InvokeDynamic index)
breaks_s14 s insn = false

-- the last two bytes of invokedynamic are not both 0
abbrev pub breaks_s15 : Scope → Insn → Bool
breaks_s15 s (insns.InvokeDynamic index last) = not (last == 0)
breaks_s15 s insn = false

abbrev pub is_init : List ℕ → Bool
is_init name = same_bytes name (codes "<init>")

-- the method's name begins with `<`
abbrev pub is_special : List ℕ → Bool
is_special name = begins_with 60 name

-- an invocation names an entry of a kind that it may name
abbrev pub is_right_entry : Scope → ℕ → ConstantIndex → Bool
is_right_entry s opcode index =
    not (breaks_s9 s (insns.Invoke opcode index)) && not (breaks_s10 s (insns.Invoke opcode index))

-- an invocation names a special method that it may not invoke: any, except `<init>` by invokespecial
abbrev pub is_bad_special : ClassFile → ℕ → ConstantIndex → Bool
is_bad_special c opcode index =
    passes (λ name. is_special name && not (opcode == invokespecial && is_init name)) (referred_name c index)

-- an invocation of an entry of the right kind invokes a special method, except `<init>` by invokespecial
abbrev pub breaks_s16 : Scope → Insn → Bool
breaks_s16 s (insns.Invoke opcode index) = is_right_entry s opcode index && is_bad_special s.class opcode index
breaks_s16 s (insns.InvokeInterface index count last) =
    is_entry s.class kinds.InterfaceMethodref index && passes is_special (referred_name s.class index)
breaks_s16 s insn = false

-- new, anewarray, checkcast, instanceof or multianewarray does not name a Class
abbrev pub breaks_s17 : Scope → Insn → Bool
breaks_s17 s (insns.Type opcode index) = not (is_entry s.class kinds.Class index)
breaks_s17 s (insns.MultiNewArray index dimensions) = not (is_entry s.class kinds.Class index)
breaks_s17 s insn = false

-- the dimensions of a class: 0, unless its text is the descriptor of an array
abbrev pub dimensions_of : List ℕ → ℕ
dimensions_of text = option_map_or (λ type. type.dims) (field_type_of text) 0

-- new creates an array
abbrev pub breaks_s18 : Scope → Insn → Bool
breaks_s18 s (insns.Type opcode index) = opcode == new && passes (λ text. nat_lt 0 (dimensions_of text)) (class_text_at s.class index)
breaks_s18 s insn = false

-- anewarray creates an array of more than 255 dimensions
abbrev pub breaks_s19 : Scope → Insn → Bool
breaks_s19 s (insns.Type opcode index) = opcode == anewarray && passes (λ text. dimensions_of text == 255) (class_text_at s.class index)
breaks_s19 s insn = false

-- multianewarray creates no dimension, or more dimensions than the class has
abbrev pub breaks_s20 : Scope → Insn → Bool
breaks_s20 s (insns.MultiNewArray index dimensions) =
    dimensions == 0 || passes (λ text. nat_lt (dimensions_of text) dimensions) (class_text_at s.class index)
breaks_s20 s insn = false

-- newarray has a number that is not that of a primitive type, 4 to 11 (JVMS 6.5, newarray)
abbrev pub breaks_s21 : Scope → Insn → Bool
breaks_s21 s (insns.NewArray element) = not (nat_le 4 element && nat_le element 11)
breaks_s21 s insn = false

-- ---- local variables

-- the local variable that an opcode implies, and its slots
abbrev pub implicit_local : Operands → Option (ℕ × ℕ)
implicit_local (operands.ImplicitLocal index slots) = Some (index, slots)
implicit_local what = None

-- the number of slots of a load or a store
abbrev pub local_slots : Operands → Option ℕ
local_slots (operands.Local slots) = Some slots
local_slots what = None

-- the local variable that an instruction uses, and its slots
abbrev pub local_of : Insn → Option (ℕ × ℕ)
local_of (insns.Plain opcode) = option_and_then implicit_local (operands_of opcode)
local_of (insns.Local opcode index is_wide) = option_map (λ slots. (index, slots)) (option_and_then local_slots (operands_of opcode))
local_of (insns.Increment index amount is_wide) = Some (index, 1)
local_of insn = None

-- a slot of a local variable is not below max_locals; a long and a double have two slots
abbrev pub breaks_s22 : Scope → Insn → Bool
breaks_s22 s insn = passes (λ local. nat_lt s.max_locals (local.0 + local.1)) (local_of insn)

-- ---- exception handlers

-- a handler's range is empty or does not consist of whole instructions, or its handler_pc is not an instruction
abbrev pub breaks_s23 : Scope → Handler → Bool
breaks_s23 s h =
    not (is_start s h.start_pc) || not (is_start s h.handler_pc)
    || not (is_start s h.end_pc || h.end_pc == s.size) || not (nat_lt h.start_pc h.end_pc)

-- a handler catches neither a Class nor everything
abbrev pub breaks_s24 : Scope → Handler → Bool
breaks_s24 s h = not (h.catch_type.0 == 0) && not (is_entry s.class kinds.Class h.catch_type)
