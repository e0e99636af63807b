-- Instructions and their bytes, and the code of a method as a sequence of instructions (JVMS 4.9.1, 6.5).
use Rattle.std.specs.Prelude.{◌≡◌, ◌⊎◌, ℕ, ◌+◌, ◌%◌, ◌<◌, ◌^◌, ℤ, pos, ◌+ℤ◌}
use Rattle.std.specs.Prelude.{◌-ℤ◌, ◌≤ℤ◌, FitsSigned, true, false, List, [], ◌∷◌, ◌++◌}
use Rattle.std.specs.Prelude.{length, Option, Some, None, option_map, if◌then◌else◌, ◌==◌, ◌*◌, ◌/◌, take, drop}
use Rattle.std.specs.Int.{cast_unsigned, w8, w16, w32}
use Rattle.std.specs.List.{flat_map, AllByRecursion}
use Rattle.jc_base.specs.Endian.{big_bytes}
use Rattle.jc_view.specs.ConstantPool.{IsIndex, index_bytes}
use Rattle.jc_code.specs.declared.insn.Insn.{Insn}
use Rattle.jc_code.specs.declared.insn.Insn.TheVariants as insns
use Rattle.jc_code.specs.declared.insn.LinkKind.{LinkKind}
use Rattle.jc_code.specs.declared.insn.LinkKind.TheVariants as links
use Rattle.jc_code.specs.declared.switch.Case.{Case}
use Rattle.jc_code.specs.Switches.{TableSwitch, LookupSwitch}
use Rattle.jc_code.specs.declared.opcode.Operands.{Operands}
use Rattle.jc_code.specs.declared.opcode.Operands.TheVariants as operands
use Rattle.jc_code.specs.Opcodes.{operands_of}

-- ---- opcodes that definitions name

abbrev pub iinc : ℕ
iinc = 132

abbrev pub jsr : ℕ
jsr = 168

abbrev pub tableswitch : ℕ
tableswitch = 170

abbrev pub lookupswitch : ℕ
lookupswitch = 171

abbrev pub getstatic : ℕ
getstatic = 178

abbrev pub putstatic : ℕ
putstatic = 179

abbrev pub getfield : ℕ
getfield = 180

abbrev pub putfield : ℕ
putfield = 181

abbrev pub invokevirtual : ℕ
invokevirtual = 182

abbrev pub invokespecial : ℕ
invokespecial = 183

abbrev pub invokestatic : ℕ
invokestatic = 184

abbrev pub invokeinterface : ℕ
invokeinterface = 185

abbrev pub invokedynamic : ℕ
invokedynamic = 186

abbrev pub new : ℕ
new = 187

abbrev pub newarray : ℕ
newarray = 188

abbrev pub anewarray : ℕ
anewarray = 189

abbrev pub wide : ℕ
wide = 196

abbrev pub multianewarray : ℕ
multianewarray = 197

abbrev pub jsr_w : ℕ
jsr_w = 201

abbrev pub ldc2_w : ℕ
ldc2_w = 20

-- the opcode of an instruction; for wide, that of the instruction that it modifies
abbrev pub opcode_of : Insn → ℕ
opcode_of (insns.Plain opcode) = opcode
opcode_of (insns.Push opcode value) = opcode
opcode_of (insns.Ldc opcode index) = opcode
opcode_of (insns.Local opcode index is_wide) = opcode
opcode_of (insns.Increment index amount is_wide) = iinc
opcode_of (insns.Branch opcode target) = opcode
opcode_of (insns.TableSwitch switch) = tableswitch
opcode_of (insns.LookupSwitch switch) = lookupswitch
opcode_of (insns.Field opcode index) = opcode
opcode_of (insns.Invoke opcode index) = opcode
opcode_of (insns.InvokeInterface index count last) = invokeinterface
opcode_of (insns.InvokeDynamic index last) = invokedynamic
opcode_of (insns.Type opcode index) = opcode
opcode_of (insns.NewArray element) = newarray
opcode_of (insns.MultiNewArray index dimensions) = multianewarray

-- how an opcode of Field uses the field that it names
abbrev pub field_use : ℕ → Option LinkKind
field_use opcode =
    if opcode == getstatic then Some links.GetStatic
    else if opcode == putstatic then Some links.PutStatic
    else if opcode == getfield then Some links.GetField
    else if opcode == putfield then Some links.PutField
    else None

-- how an opcode of Invoke uses the method that it names
abbrev pub invoke_use : ℕ → Option LinkKind
invoke_use opcode =
    if opcode == invokevirtual then Some links.InvokeVirtual
    else if opcode == invokespecial then Some links.InvokeSpecial
    else if opcode == invokestatic then Some links.InvokeStatic
    else None

-- how an instruction uses the reference that it names, and the index of the reference. Only instructions that may fail
-- to link although the reference resolves have a use
abbrev pub link_use : Insn → Option (LinkKind × ℕ)
link_use (insns.Field opcode index) = option_map (λ kind. (kind, index.0)) (field_use opcode)
link_use (insns.Invoke opcode index) = option_map (λ kind. (kind, index.0)) (invoke_use opcode)
link_use (insns.InvokeInterface index count last) = Some (links.InvokeInterface, index.0)
link_use (insns.Type opcode index) = if opcode == new then Some (links.New, index.0) else None
link_use insn = None

-- ---- the bytes of an instruction

-- signed numbers, in two's complement
abbrev pub byte_bytes : ℤ → List ℕ
byte_bytes z = big_bytes 1 (cast_unsigned w8 z)

abbrev pub short_bytes : ℤ → List ℕ
short_bytes z = big_bytes 2 (cast_unsigned w16 z)

abbrev pub int_bytes : ℤ → List ℕ
int_bytes z = big_bytes 4 (cast_unsigned w32 z)

-- the distance from an instruction at a place to its target
abbrev pub offset_to : ℕ → ℤ → ℤ
offset_to at target = target -ℤ pos at

-- an opcode has operands of this kind
abbrev pub Has : ℕ → Operands → Type 0
Has opcode what = operands_of opcode ≡ Some what

-- the bytes between the opcode of a switch and its default target, which begins at a multiple of four from the start of
-- the code
abbrev pub IsPad : ℕ → List ℕ → Type 0
IsPad at pad = (length pad < 4) × ((at + 1 + length pad) % 4 ≡ 0)

abbrev pub target_bytes : ℕ → ℤ → List ℕ
target_bytes at target = int_bytes (offset_to at target)

-- the distance to the target fits in four bytes
abbrev pub IsIntTarget : ℕ → ℤ → Type 0
IsIntTarget at target = FitsSigned w32 (offset_to at target)

abbrev pub case_bytes : ℕ → Case → List ℕ
case_bytes at case = int_bytes case.value ++ target_bytes at case.target

abbrev pub IsCase : ℕ → Case → Type 0
IsCase at case = FitsSigned w32 case.value × IsIntTarget at case.target

-- the bytes are those of a tableswitch at a place of the code; its pad may have any bytes (JVMS 6.5)
pub record IsTableSwitch (at : ℕ) (switch : TableSwitch) (s : List ℕ) : Type 0 where
  pub pad : List ℕ
  pub is_pad : IsPad at pad
  pub default : IsIntTarget at switch.default
  pub low : FitsSigned w32 switch.low
  pub high : FitsSigned w32 switch.high
  pub rising : switch.low ≤ℤ switch.high
  pub place : switch.targets.place ≡ at
  pub count : pos (length switch.targets.left) ≡ switch.high -ℤ switch.low +ℤ pos 1
  pub targets : AllByRecursion (IsIntTarget at) switch.targets.left
  pub spelling :
      s ≡ tableswitch ∷ pad ++ target_bytes at switch.default ++ int_bytes switch.low ++ int_bytes switch.high
      ++ flat_map (target_bytes at) switch.targets.left

-- the bytes are those of a lookupswitch at a place of the code; its cases may be in any order (JVMS 6.5)
pub record IsLookupSwitch (at : ℕ) (switch : LookupSwitch) (s : List ℕ) : Type 0 where
  pub pad : List ℕ
  pub is_pad : IsPad at pad
  pub default : IsIntTarget at switch.default
  pub place : switch.cases.place ≡ at
  pub count : length switch.cases.left < 2 ^ 31
  pub cases : AllByRecursion (IsCase at) switch.cases.left
  pub spelling :
      s ≡ lookupswitch ∷ pad ++ target_bytes at switch.default ++ big_bytes 4 (length switch.cases.left)
      ++ flat_map (case_bytes at) switch.cases.left

-- the bytes are those of an instruction at a place of the code
abbrev pub IsSpelling : ℕ → Insn → List ℕ → Type 0
IsSpelling at (insns.Plain opcode) s =
    (Has opcode operands.Empty ⊎ (index : ℕ) × (slots : ℕ) × Has opcode (operands.ImplicitLocal index slots))
    × (s ≡ opcode ∷ [])
IsSpelling at (insns.Push opcode value) s =
    Has opcode operands.Byte × FitsSigned w8 value × (s ≡ opcode ∷ byte_bytes value)
    ⊎ Has opcode operands.Short × FitsSigned w16 value × (s ≡ opcode ∷ short_bytes value)
IsSpelling at (insns.Ldc opcode index) s =
    Has opcode operands.ShortLoad × (index.0 < 2 ^ 8) × (s ≡ opcode ∷ big_bytes 1 index.0)
    ⊎ Has opcode operands.Load × IsIndex index × (s ≡ opcode ∷ index_bytes index)
IsSpelling at (insns.Local opcode index false) s =
    ((slots : ℕ) × Has opcode (operands.Local slots)) × (index < 2 ^ 8) × (s ≡ opcode ∷ big_bytes 1 index)
IsSpelling at (insns.Local opcode index true) s =
    ((slots : ℕ) × Has opcode (operands.Local slots)) × (index < 2 ^ 16) × (s ≡ wide ∷ opcode ∷ big_bytes 2 index)
IsSpelling at (insns.Increment index amount false) s =
    (index < 2 ^ 8) × FitsSigned w8 amount × (s ≡ iinc ∷ big_bytes 1 index ++ byte_bytes amount)
IsSpelling at (insns.Increment index amount true) s =
    (index < 2 ^ 16) × FitsSigned w16 amount × (s ≡ wide ∷ iinc ∷ big_bytes 2 index ++ short_bytes amount)
IsSpelling at (insns.Branch opcode target) s =
    Has opcode operands.Branch × FitsSigned w16 (offset_to at target) × (s ≡ opcode ∷ short_bytes (offset_to at target))
    ⊎ Has opcode operands.WideBranch × IsIntTarget at target × (s ≡ opcode ∷ target_bytes at target)
IsSpelling at (insns.TableSwitch switch) s = IsTableSwitch at switch s
IsSpelling at (insns.LookupSwitch switch) s = IsLookupSwitch at switch s
IsSpelling at (insns.Field opcode index) s = Has opcode operands.Field × IsIndex index × (s ≡ opcode ∷ index_bytes index)
IsSpelling at (insns.Invoke opcode index) s = Has opcode operands.Invoke × IsIndex index × (s ≡ opcode ∷ index_bytes index)
IsSpelling at (insns.InvokeInterface index count last) s =
    IsIndex index × (count < 2 ^ 8) × (last < 2 ^ 8)
    × (s ≡ invokeinterface ∷ index_bytes index ++ big_bytes 1 count ++ big_bytes 1 last)
IsSpelling at (insns.InvokeDynamic index last) s =
    IsIndex index × (last < 2 ^ 16) × (s ≡ invokedynamic ∷ index_bytes index ++ big_bytes 2 last)
IsSpelling at (insns.Type opcode index) s = Has opcode operands.Type × IsIndex index × (s ≡ opcode ∷ index_bytes index)
IsSpelling at (insns.NewArray element) s = (element < 2 ^ 8) × (s ≡ newarray ∷ big_bytes 1 element)
IsSpelling at (insns.MultiNewArray index dimensions) s =
    IsIndex index × (dimensions < 2 ^ 8) × (s ≡ multianewarray ∷ index_bytes index ++ big_bytes 1 dimensions)

-- ---- code

-- the code has the instruction at a place, as these bytes
pub record StandsAs (code : List ℕ) (at : ℕ) (insn : Insn) (s : List ℕ) : Type 0 where
  pub before : List ℕ
  pub behind : List ℕ
  pub place : length before ≡ at
  pub spelling : IsSpelling at insn s
  pub joined : code ≡ before ++ s ++ behind

abbrev pub Stands : List ℕ → ℕ → Insn → Type 0
Stands code at insn = (s : List ℕ) × StandsAs code at insn s

-- the code has exactly these instructions from a place to an end, one after another, and no instruction at the end
abbrev pub StandFrom : List ℕ → ℕ → List (ℕ × Insn) → ℕ → Type 0
StandFrom code at [] end = (at ≡ end) × ((insn : Insn) → ¬ Stands code end insn)
StandFrom code at (item ∷ items) end =
    (item.0 ≡ at) × ((s : List ℕ) × StandsAs code at item.1 s × StandFrom code (at + length s) items end)

-- the instructions of a method's code, each with its place, and the place where they end
abbrev pub IsCode : List ℕ → List (ℕ × Insn) → ℕ → Type 0
IsCode code items end = StandFrom code 0 items end

-- ---- the place of a switch's table

-- the first multiple of four after a place
abbrev pub aligned : ℕ → ℕ
aligned at = 4 * (at / 4 + 1)

-- the targets follow the default target, the lowest and the highest value
abbrev pub targets_place : ℕ → ℕ
targets_place at = aligned at + 12

-- the cases follow the default target and their count
abbrev pub cases_place : ℕ → ℕ
cases_place at = aligned at + 8

-- the bytes are the part of the code from a place on
abbrev pub IsPartAt : List ℕ → ℕ → List ℕ → Type 0
IsPartAt code place bytes = take (length bytes) (drop place code) ≡ bytes

-- the bytes of the targets of a tableswitch are the part of the code where its table is
abbrev pub TargetsLieIn : List ℕ → ℕ → TableSwitch → Type 0
TargetsLieIn code at switch =
    IsPartAt code (targets_place at) (flat_map (target_bytes switch.targets.place) switch.targets.left)

-- the bytes of the cases of a lookupswitch are the part of the code where its table is
abbrev pub CasesLieIn : List ℕ → ℕ → LookupSwitch → Type 0
CasesLieIn code at switch =
    IsPartAt code (cases_place at) (flat_map (case_bytes switch.cases.place) switch.cases.left)
