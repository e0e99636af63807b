-- A line for each instruction, and after that of a switch a line for each target.
use Rattle.std.specs.Prelude.{ℕ, ℤ, pos, ◌+ℤ◌, true, List, [], ◌∷◌, ◌++◌, length, codes, decimal, unwrap_or}
use Rattle.std.specs.Fmt.{signed_decimal}
use Rattle.std.specs.List.{flat_map}
use Rattle.jc_view.specs.ClassFile.{ClassFile}
use Rattle.jc_code.specs.declared.insn.Insn.{Insn}
use Rattle.jc_code.specs.declared.insn.Insn.TheVariants as insns
use Rattle.jc_code.specs.declared.switch.Case.{Case}
use Rattle.jc_code.specs.Switches.{TableSwitch, LookupSwitch}
use Rattle.jc_code.specs.Opcodes.{mnemonic_of}
use Rattle.jc_code.specs.Insns.{opcode_of}
use Rattle.jc_list.specs.Texts.{index_text, index_with_reference, reference_text}

-- a space and a number
abbrev pub blank_decimal : ℕ → List ℕ
blank_decimal n = codes " " ++ decimal n

abbrev pub blank_signed : ℤ → List ℕ
blank_signed z = codes " " ++ signed_decimal z

-- the lowest and the highest value, and the target for all other values
abbrev pub table_switch_text : TableSwitch → List ℕ
table_switch_text switch =
    blank_signed switch.low ++ blank_signed switch.high ++ codes " default" ++ blank_signed switch.default

-- the number of cases, and the target for all other values
abbrev pub lookup_switch_text : LookupSwitch → List ℕ
lookup_switch_text switch =
    blank_decimal (length switch.cases.left) ++ codes " default" ++ blank_signed switch.default

-- the operands, each after a space: targets are offsets from the start of the code, and references are last
abbrev pub operands_text : ClassFile → Insn → List ℕ
operands_text c (insns.Plain opcode) = []
operands_text c (insns.Push opcode value) = blank_signed value
operands_text c (insns.Ldc opcode index) = codes " " ++ index_with_reference c index
operands_text c (insns.Local opcode index is_wide) = blank_decimal index
operands_text c (insns.Increment index amount is_wide) = blank_decimal index ++ blank_signed amount
operands_text c (insns.Branch opcode target) = blank_signed target
operands_text c (insns.TableSwitch switch) = table_switch_text switch
operands_text c (insns.LookupSwitch switch) = lookup_switch_text switch
operands_text c (insns.Field opcode index) = codes " " ++ index_with_reference c index
operands_text c (insns.Invoke opcode index) = codes " " ++ index_with_reference c index
operands_text c (insns.InvokeInterface index count last) = codes " " ++ index_text index ++ blank_decimal count ++ reference_text c index
operands_text c (insns.InvokeDynamic index last) = codes " " ++ index_with_reference c index
operands_text c (insns.Type opcode index) = codes " " ++ index_with_reference c index
operands_text c (insns.NewArray element) = blank_decimal element
operands_text c (insns.MultiNewArray index dimensions) = codes " " ++ index_text index ++ blank_decimal dimensions ++ reference_text c index

-- the text before the mnemonic: `wide` if it modifies the instruction (JVMS 6.5)
abbrev pub wide_text : Insn → List ℕ
wide_text (insns.Local opcode index true) = codes "wide "
wide_text (insns.Increment index amount true) = codes "wide "
wide_text insn = []

-- ---- the lines of a switch

abbrev pub switch_line : ℤ → ℤ → List ℕ
switch_line value target = codes "      " ++ signed_decimal value ++ codes ": " ++ signed_decimal target ++ codes "\n"

abbrev pub case_line : Case → List ℕ
case_line case = switch_line case.value case.target

-- the lines of targets of a tableswitch, the first of which is for this value; each next value is one more
abbrev pub target_lines : ℤ → List ℤ → List ℕ
target_lines value [] = []
target_lines value (target ∷ targets) = switch_line value target ++ target_lines (value +ℤ pos 1) targets

abbrev pub switch_lines : Insn → List ℕ
switch_lines (insns.TableSwitch switch) = target_lines switch.low switch.targets.left
switch_lines (insns.LookupSwitch switch) = flat_map case_line switch.cases.left
switch_lines insn = []

-- ---- an instruction

abbrev pub insn_line : ClassFile → ℕ → Insn → List ℕ
insn_line c place insn =
    codes "    " ++ decimal place ++ codes ": " ++ wide_text insn ++ unwrap_or (mnemonic_of (opcode_of insn)) []
    ++ operands_text c insn ++ codes "\n"

abbrev pub insn_lines : ClassFile → ℕ × Insn → List ℕ
insn_lines c item = insn_line c item.0 item.1 ++ switch_lines item.1
