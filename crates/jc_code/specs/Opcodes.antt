-- The opcodes, their mnemonics and their kinds of operands (JVMS 6.5, 7).
use Rattle.std.specs.Prelude.{◌≡◌, ℕ, ◌+◌, Bool, true, ◌&&◌, ◌==◌, length, ⊤, List, [], ◌∷◌}
use Rattle.std.specs.Prelude.{◌++◌, map, Option, Some, None, slice_get, nat_lt, if◌then◌else◌, codes}
use Rattle.std.specs.List.{flat_map}
use Rattle.std.specs.Option.{option_map}
use Rattle.jc_code.specs.declared.opcode.Operands.{Operands}
use Rattle.jc_code.specs.declared.opcode.Operands.TheVariants as operands

-- an opcode: its mnemonic, and the kind of its operands
pub record Entry : Type 0 where
  pub mnemonic : List ℕ
  pub operands : Operands

-- consecutive opcodes with the same kind of operands: the number of the first, and their mnemonics
pub record Group : Type 0 where
  pub first : ℕ
  pub mnemonics : List (List ℕ)
  pub operands : Operands

abbrev from : ℕ → List (List ℕ) → Operands → List Group
from first mnemonics operands = record { first = first; mnemonics = mnemonics; operands = operands } ∷ []

-- the loads or stores whose opcode implies the local variable: the mnemonic with _0 to _3 appended
abbrev by_number : ℕ → List ℕ → ℕ → List Group
by_number first mnemonic slots =
    from first ((mnemonic ++ codes "_0") ∷ []) (operands.ImplicitLocal 0 slots)
    ++ from (first + 1) ((mnemonic ++ codes "_1") ∷ []) (operands.ImplicitLocal 1 slots)
    ++ from (first + 2) ((mnemonic ++ codes "_2") ∷ []) (operands.ImplicitLocal 2 slots)
    ++ from (first + 3) ((mnemonic ++ codes "_3") ∷ []) (operands.ImplicitLocal 3 slots)

unfoldable pub groups : List Group
groups =
    from 0 (codes "nop" ∷ codes "aconst_null" ∷ codes "iconst_m1" ∷ codes "iconst_0" ∷ codes "iconst_1"
    ∷ codes "iconst_2" ∷ codes "iconst_3" ∷ codes "iconst_4" ∷ codes "iconst_5" ∷ codes "lconst_0"
    ∷ codes "lconst_1" ∷ codes "fconst_0" ∷ codes "fconst_1" ∷ codes "fconst_2" ∷ codes "dconst_0"
    ∷ codes "dconst_1" ∷ []) operands.Empty
    ++ from 16 (codes "bipush" ∷ []) operands.Byte
    ++ from 17 (codes "sipush" ∷ []) operands.Short
    ++ from 18 (codes "ldc" ∷ []) operands.ShortLoad
    ++ from 19 (codes "ldc_w" ∷ codes "ldc2_w" ∷ []) operands.Load
    ++ from 21 (codes "iload" ∷ []) (operands.Local 1)
    ++ from 22 (codes "lload" ∷ []) (operands.Local 2)
    ++ from 23 (codes "fload" ∷ []) (operands.Local 1)
    ++ from 24 (codes "dload" ∷ []) (operands.Local 2)
    ++ from 25 (codes "aload" ∷ []) (operands.Local 1)
    ++ by_number 26 (codes "iload") 1
    ++ by_number 30 (codes "lload") 2
    ++ by_number 34 (codes "fload") 1
    ++ by_number 38 (codes "dload") 2
    ++ by_number 42 (codes "aload") 1
    ++ from 46 (codes "iaload" ∷ codes "laload" ∷ codes "faload" ∷ codes "daload" ∷ codes "aaload"
    ∷ codes "baload" ∷ codes "caload" ∷ codes "saload" ∷ []) operands.Empty
    ++ from 54 (codes "istore" ∷ []) (operands.Local 1)
    ++ from 55 (codes "lstore" ∷ []) (operands.Local 2)
    ++ from 56 (codes "fstore" ∷ []) (operands.Local 1)
    ++ from 57 (codes "dstore" ∷ []) (operands.Local 2)
    ++ from 58 (codes "astore" ∷ []) (operands.Local 1)
    ++ by_number 59 (codes "istore") 1
    ++ by_number 63 (codes "lstore") 2
    ++ by_number 67 (codes "fstore") 1
    ++ by_number 71 (codes "dstore") 2
    ++ by_number 75 (codes "astore") 1
    ++ from 79 (codes "iastore" ∷ codes "lastore" ∷ codes "fastore" ∷ codes "dastore" ∷ codes "aastore"
    ∷ codes "bastore" ∷ codes "castore" ∷ codes "sastore" ∷ codes "pop" ∷ codes "pop2" ∷ codes "dup"
    ∷ codes "dup_x1" ∷ codes "dup_x2" ∷ codes "dup2" ∷ codes "dup2_x1" ∷ codes "dup2_x2"
    ∷ codes "swap" ∷ codes "iadd" ∷ codes "ladd" ∷ codes "fadd" ∷ codes "dadd" ∷ codes "isub"
    ∷ codes "lsub" ∷ codes "fsub" ∷ []) operands.Empty
    ++ from 103 (codes "dsub" ∷ codes "imul" ∷ codes "lmul" ∷ codes "fmul" ∷ codes "dmul"
    ∷ codes "idiv" ∷ codes "ldiv" ∷ codes "fdiv" ∷ codes "ddiv" ∷ codes "irem" ∷ codes "lrem"
    ∷ codes "frem" ∷ codes "drem" ∷ codes "ineg" ∷ codes "lneg" ∷ codes "fneg" ∷ codes "dneg"
    ∷ codes "ishl" ∷ codes "lshl" ∷ codes "ishr" ∷ codes "lshr" ∷ codes "iushr" ∷ codes "lushr"
    ∷ codes "iand" ∷ []) operands.Empty
    ++ from 127 (codes "land" ∷ codes "ior" ∷ codes "lor" ∷ codes "ixor" ∷ codes "lxor" ∷ []) operands.Empty
    ++ from 132 (codes "iinc" ∷ []) operands.Increment
    ++ from 133 (codes "i2l" ∷ codes "i2f" ∷ codes "i2d" ∷ codes "l2i" ∷ codes "l2f" ∷ codes "l2d"
    ∷ codes "f2i" ∷ codes "f2l" ∷ codes "f2d" ∷ codes "d2i" ∷ codes "d2l" ∷ codes "d2f"
    ∷ codes "i2b" ∷ codes "i2c" ∷ codes "i2s" ∷ codes "lcmp" ∷ codes "fcmpl" ∷ codes "fcmpg"
    ∷ codes "dcmpl" ∷ codes "dcmpg" ∷ []) operands.Empty
    ++ from 153 (codes "ifeq" ∷ codes "ifne" ∷ codes "iflt" ∷ codes "ifge" ∷ codes "ifgt"
    ∷ codes "ifle" ∷ codes "if_icmpeq" ∷ codes "if_icmpne" ∷ codes "if_icmplt" ∷ codes "if_icmpge"
    ∷ codes "if_icmpgt" ∷ codes "if_icmple" ∷ codes "if_acmpeq" ∷ codes "if_acmpne" ∷ codes "goto"
    ∷ codes "jsr" ∷ []) operands.Branch
    ++ from 169 (codes "ret" ∷ []) (operands.Local 1)
    ++ from 170 (codes "tableswitch" ∷ []) operands.TableSwitch
    ++ from 171 (codes "lookupswitch" ∷ []) operands.LookupSwitch
    ++ from 172 (codes "ireturn" ∷ codes "lreturn" ∷ codes "freturn" ∷ codes "dreturn" ∷ codes "areturn"
    ∷ codes "return" ∷ []) operands.Empty
    ++ from 178 (codes "getstatic" ∷ codes "putstatic" ∷ codes "getfield" ∷ codes "putfield" ∷ []) operands.Field
    ++ from 182 (codes "invokevirtual" ∷ codes "invokespecial" ∷ codes "invokestatic" ∷ []) operands.Invoke
    ++ from 185 (codes "invokeinterface" ∷ []) operands.InvokeInterface
    ++ from 186 (codes "invokedynamic" ∷ []) operands.InvokeDynamic
    ++ from 187 (codes "new" ∷ []) operands.Type
    ++ from 188 (codes "newarray" ∷ []) operands.NewArray
    ++ from 189 (codes "anewarray" ∷ []) operands.Type
    ++ from 190 (codes "arraylength" ∷ codes "athrow" ∷ []) operands.Empty
    ++ from 192 (codes "checkcast" ∷ codes "instanceof" ∷ []) operands.Type
    ++ from 194 (codes "monitorenter" ∷ codes "monitorexit" ∷ []) operands.Empty
    ++ from 196 (codes "wide" ∷ []) operands.Wide
    ++ from 197 (codes "multianewarray" ∷ []) operands.MultiNewArray
    ++ from 198 (codes "ifnull" ∷ codes "ifnonnull" ∷ []) operands.Branch
    ++ from 200 (codes "goto_w" ∷ codes "jsr_w" ∷ []) operands.WideBranch

-- each group begins with the number of opcodes of the groups before it
abbrev pub begin_in_order : ℕ → List Group → Bool
begin_in_order number [] = true
begin_in_order number (group ∷ others) = group.first == number && begin_in_order (number + length group.mnemonics) others

abbrev entries : Group → List Entry
entries group = map (λ mnemonic. record { mnemonic = mnemonic; operands = group.operands }) group.mnemonics

-- all opcodes, by number
unfoldable pub opcodes : List Entry
opcodes = flat_map entries groups

-- the opcode of a number, if there is one; the reserved opcodes 202, 254 and 255 do not count (JVMS 6.2)
abbrev pub opcode_at : ℕ → Option ℕ
opcode_at number = if nat_lt number 202 then Some number else None

abbrev pub mnemonic_of : ℕ → Option (List ℕ)
mnemonic_of opcode = option_map (λ entry. entry.mnemonic) (slice_get opcodes opcode)

abbrev pub operands_of : ℕ → Option Operands
operands_of opcode = option_map (λ entry. entry.operands) (slice_get opcodes opcode)

-- ---- lengths

-- the number of bytes of operands of a kind, if HasSize says that it is always the same; else 0
abbrev pub operand_size : Operands → ℕ
operand_size operands.Empty = 0
operand_size (operands.ImplicitLocal index slots) = 0
operand_size (operands.Local slots) = 1
operand_size operands.Byte = 1
operand_size operands.Short = 2
operand_size operands.ShortLoad = 1
operand_size operands.Load = 2
operand_size operands.Increment = 2
operand_size operands.Branch = 2
operand_size operands.WideBranch = 4
operand_size operands.TableSwitch = 0
operand_size operands.LookupSwitch = 0
operand_size operands.Field = 2
operand_size operands.Invoke = 2
operand_size operands.InvokeInterface = 4
operand_size operands.InvokeDynamic = 4
operand_size operands.Type = 2
operand_size operands.NewArray = 1
operand_size operands.MultiNewArray = 3
operand_size operands.Wide = 0

-- operands of this kind always have the same number of bytes, unlike those of switches and of `wide` (JVMS 6.5)
abbrev pub HasSize : Operands → Type 0
HasSize operands.TableSwitch = ⊥
HasSize operands.LookupSwitch = ⊥
HasSize operands.Wide = ⊥
HasSize what = ⊤

-- the operands of an opcode have the number of bytes of their kind, if it is always the same
abbrev pub IsSized : ℕ → List ℕ → Type 0
IsSized opcode s = (what : Operands) → operands_of opcode ≡ Some what → HasSize what → length s ≡ operand_size what
