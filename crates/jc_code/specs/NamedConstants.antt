-- The constants that the instructions and the exception handlers of a code name (JVMS 4.7.3, 6.5).
use Rattle.std.specs.Prelude.{ℕ, List, [], ◌++◌, map, Option, Some, None}
use Rattle.std.specs.List.{flat_map}
use Rattle.std.specs.Option.{option_map_or, option_to_list}
use Rattle.jc_view.specs.declared.constant_pool.ConstantIndex.{ConstantIndex}
use Rattle.jc_view.specs.Attributes.{Code}
use Rattle.jc_view.specs.ClassFile.{ClassFile, Member}
use Rattle.jc_code.specs.declared.insn.Insn.{Insn}
use Rattle.jc_code.specs.declared.insn.Insn.TheVariants as insns
use Rattle.jc_code.specs.CodeFaults.{code_of_member}
use Rattle.jc_code.specs.InsnReading.{insns_of}

abbrev pub named_by_insn : Insn → Option ConstantIndex
named_by_insn (insns.Ldc opcode index) = Some index
named_by_insn (insns.Field opcode index) = Some index
named_by_insn (insns.Invoke opcode index) = Some index
named_by_insn (insns.InvokeInterface index count last) = Some index
named_by_insn (insns.InvokeDynamic index last) = Some index
named_by_insn (insns.Type opcode index) = Some index
named_by_insn (insns.MultiNewArray index dimensions) = Some index
named_by_insn insn = None

-- the constants that several instructions name, in their order
abbrev pub named_by_insns : List (ℕ × Insn) → List ConstantIndex
named_by_insns items = flat_map (λ item. option_to_list (named_by_insn item.1)) items

-- the constants that a code names: its instructions, then its handlers. A catch_type of 0 is in the list and names none
abbrev pub named_by_code : Code → List ConstantIndex
named_by_code k = named_by_insns (insns_of k.code) ++ map (λ h. h.catch_type) k.handlers

-- the constants that a method's code names, if it has exactly one well-formed Code
abbrev pub named_by_method : ClassFile → Member → List ConstantIndex
named_by_method c m = option_map_or named_by_code (code_of_member c m) []
