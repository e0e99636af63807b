-- Which numbers are opcodes, and what stands behind them.
use Rattle.std.proofs.Common.{◌≡◌, ℕ, zero, suc, ◌+◌, ◌<◌, ◌≤◌, Bool, true, eqb, ltb, ◌&&◌, List, [], ◌∷◌, length, ◌∙◌, get_or, Option, Some, None, slice_get, refl, sym, ap, arith, inl, inr}
use Rattle.std.specs.Option.{option_map}
use Rattle.std.proofs.lemmas.Bool.{cases_lt, lt-ltb, ltb-true, eqb-true}
use Rattle.std.proofs.lemmas.Option.{slice_get_past, slice_get-get_or, cond_some, same_Some}
use Rattle.jc_base.proofs.Common.{both_true}
use Rattle.jc_code.specs.declared.opcode.Operands.{Operands}
use Rattle.jc_code.specs.declared.opcode.Operands.TheVariants as operands
use Rattle.jc_code.specs.Opcodes.{Entry, groups, opcodes, opcode_at, operands_of}

pub length-opcodes : length opcodes ≡ 202
unfolding groups opcodes
length-opcodes = refl

pub operands_past : (n : ℕ) → 202 ≤ n → operands_of n ≡ None
operands_past n le = ap (option_map (λ (e : Entry). e.operands)) (slice_get_past opcodes n (let size = length-opcodes in omega arith))

none_at : (n : ℕ) → None ≡ opcode_at n → 202 ≤ n
none_at n e =
    elim (cases_lt n 202) [
      | inl lt ↦ absurd (let there : opcode_at n ≡ Some n = rw (lt-ltb n 202 lt) refl in cc)
      | inr le ↦ le
    ]

-- where no opcode has the number
pub no_operands : (n : ℕ) → None ≡ opcode_at n → operands_of n ≡ None
no_operands n e = operands_past n (none_at n e)

nothing : Entry
nothing = record { mnemonic = []; operands = operands.Empty }

pub some_operands : (n : ℕ) → n < 202 → (what : Operands) × (operands_of n ≡ Some what)
some_operands n lt =
    let inside : n < length opcodes = (let size = length-opcodes in omega arith) in
    ((get_or opcodes n nothing).operands, ap (option_map (λ (e : Entry). e.operands)) (slice_get-get_or opcodes n nothing inside))

-- the opcode of a number is the number
pub opcode_is : (n opcode : ℕ) → Some opcode ≡ opcode_at n → (n ≡ opcode) × (opcode < 202)
opcode_is n opcode e =
    let p = cond_some (ltb n 202) n opcode (sym e) in
    (p.1, (let lt = ltb-true n 202 p.0 in let same = p.1 in omega arith))

-- ---- opcodes that are followed by a sort that follows no other

all_from : (ℕ → Operands → Bool) → ℕ → List Entry → Bool
all_from test k [] = true
all_from test k (entry ∷ entries) = test k entry.operands && all_from test (suc k) entries

-- where it can be one opcode alone, it is that
is_alone : ℕ → Operands → Bool
is_alone n operands.Increment = eqb n 132
is_alone n operands.TableSwitch = eqb n 170
is_alone n operands.LookupSwitch = eqb n 171
is_alone n operands.InvokeInterface = eqb n 185
is_alone n operands.InvokeDynamic = eqb n 186
is_alone n operands.NewArray = eqb n 188
is_alone n operands.Wide = eqb n 196
is_alone n operands.MultiNewArray = eqb n 197
is_alone n what = true

scanned : all_from is_alone 0 opcodes ≡ true
unfolding all_from is_alone groups opcodes
scanned = refl

all_at : (test : ℕ → Operands → Bool) (n k i : ℕ) (entries : List Entry) (entry : Entry) → n ≡ i + k → all_from test k entries ≡ true → slice_get entries i ≡ Some entry → test n entry.operands ≡ true
unfolding all_from
all_at test n k i [] entry e all at = absurd cc
all_at test n k zero (x ∷ xs) entry e all at =
    let same : x ≡ entry = same_Some x entry at in
    let here : k ≡ n = omega arith in
    ap (λ (m : ℕ). test m entry.operands) (sym here) ∙ ap (λ (y : Entry). test k y.operands) (sym same) ∙ (both_true (test k x.operands) (all_from test (suc k) xs) all).0
all_at test n k (suc i) (x ∷ xs) entry e all at =
    all_at test n (suc k) i xs entry (omega arith) (both_true (test k x.operands) (all_from test (suc k) xs) all).1 at

entry_of : (o : Option Entry) (what : Operands) → option_map (λ (e : Entry). e.operands) o ≡ Some what → (entry : Entry) × (o ≡ Some entry) × (entry.operands ≡ what)
entry_of None what e = absurd cc
entry_of (Some entry) what e = (entry, refl, same_Some entry.operands what e)

alone : (n : ℕ) (what : Operands) → operands_of n ≡ Some what → is_alone n what ≡ true
alone n what e =
    let found = entry_of (slice_get opcodes n) what e in
    ap (is_alone n) (sym found.2) ∙ all_at is_alone n 0 n opcodes found.0 (omega arith) scanned found.1

pub only_iinc : (n : ℕ) → operands_of n ≡ Some operands.Increment → n ≡ 132
unfolding is_alone
only_iinc n e = eqb-true n 132 (alone n operands.Increment e)

pub only_tableswitch : (n : ℕ) → operands_of n ≡ Some operands.TableSwitch → n ≡ 170
unfolding is_alone
only_tableswitch n e = eqb-true n 170 (alone n operands.TableSwitch e)

pub only_lookupswitch : (n : ℕ) → operands_of n ≡ Some operands.LookupSwitch → n ≡ 171
unfolding is_alone
only_lookupswitch n e = eqb-true n 171 (alone n operands.LookupSwitch e)

pub only_invokeinterface : (n : ℕ) → operands_of n ≡ Some operands.InvokeInterface → n ≡ 185
unfolding is_alone
only_invokeinterface n e = eqb-true n 185 (alone n operands.InvokeInterface e)

pub only_invokedynamic : (n : ℕ) → operands_of n ≡ Some operands.InvokeDynamic → n ≡ 186
unfolding is_alone
only_invokedynamic n e = eqb-true n 186 (alone n operands.InvokeDynamic e)

pub only_newarray : (n : ℕ) → operands_of n ≡ Some operands.NewArray → n ≡ 188
unfolding is_alone
only_newarray n e = eqb-true n 188 (alone n operands.NewArray e)

pub only_wide : (n : ℕ) → operands_of n ≡ Some operands.Wide → n ≡ 196
unfolding is_alone
only_wide n e = eqb-true n 196 (alone n operands.Wide e)

pub only_multianewarray : (n : ℕ) → operands_of n ≡ Some operands.MultiNewArray → n ≡ 197
unfolding is_alone
only_multianewarray n e = eqb-true n 197 (alone n operands.MultiNewArray e)

-- what follows them
pub follows_iinc : operands_of 132 ≡ Some operands.Increment
unfolding groups opcodes
follows_iinc = refl

pub follows_tableswitch : operands_of 170 ≡ Some operands.TableSwitch
unfolding groups opcodes
follows_tableswitch = refl

pub follows_lookupswitch : operands_of 171 ≡ Some operands.LookupSwitch
unfolding groups opcodes
follows_lookupswitch = refl

pub follows_invokeinterface : operands_of 185 ≡ Some operands.InvokeInterface
unfolding groups opcodes
follows_invokeinterface = refl

pub follows_invokedynamic : operands_of 186 ≡ Some operands.InvokeDynamic
unfolding groups opcodes
follows_invokedynamic = refl

pub follows_newarray : operands_of 188 ≡ Some operands.NewArray
unfolding groups opcodes
follows_newarray = refl

pub follows_wide : operands_of 196 ≡ Some operands.Wide
unfolding groups opcodes
follows_wide = refl

pub follows_multianewarray : operands_of 197 ≡ Some operands.MultiNewArray
unfolding groups opcodes
follows_multianewarray = refl
