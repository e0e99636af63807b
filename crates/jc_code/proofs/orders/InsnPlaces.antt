-- The places of the instructions of a code rise, and none lies behind the code.
use Rattle.std.proofs.Common.{◌≡◌, inl, inr, ℕ, ◌+◌, ◌<◌, ◌≤◌, true, false, List, [], ◌∷◌, ◌++◌, length, ap, arith, length-append}
use Rattle.jc_code.specs.declared.insn.Insn.{Insn}
use Rattle.jc_code.specs.declared.insn.Insn.TheVariants as insns
use Rattle.jc_code.specs.Insns.{IsSpelling, StandsAs, StandFrom}
use Rattle.jc_view.proofs.places.RisingLists.{RisesBy, rises_lower}

begun : (b : ℕ) (bs s : List ℕ) → s ≡ b ∷ bs → 0 < length s
begun b bs s e = let same : length s ≡ length (b ∷ bs) = ap length e in omega arith

-- a spelling is not empty
pub spelling_begins : (at : ℕ) (insn : Insn) (s : List ℕ) → IsSpelling at insn s → 0 < length s
spelling_begins at (insns.Plain opcode) s h = begun _ _ s h.1
spelling_begins at (insns.Push opcode value) s (inl h) = begun _ _ s h.2
spelling_begins at (insns.Push opcode value) s (inr h) = begun _ _ s h.2
spelling_begins at (insns.Ldc opcode index) s (inl h) = begun _ _ s h.2
spelling_begins at (insns.Ldc opcode index) s (inr h) = begun _ _ s h.2
spelling_begins at (insns.Local opcode index false) s h = begun _ _ s h.2
spelling_begins at (insns.Local opcode index true) s h = begun _ _ s h.2
spelling_begins at (insns.Increment index amount false) s h = begun _ _ s h.2
spelling_begins at (insns.Increment index amount true) s h = begun _ _ s h.2
spelling_begins at (insns.Branch opcode target) s (inl h) = begun _ _ s h.2
spelling_begins at (insns.Branch opcode target) s (inr h) = begun _ _ s h.2
spelling_begins at (insns.TableSwitch switch) s h = begun _ _ s h.spelling
spelling_begins at (insns.LookupSwitch switch) s h = begun _ _ s h.spelling
spelling_begins at (insns.Field opcode index) s h = begun _ _ s h.2
spelling_begins at (insns.Invoke opcode index) s h = begun _ _ s h.2
spelling_begins at (insns.InvokeInterface index count last) s h = begun _ _ s h.3
spelling_begins at (insns.InvokeDynamic index last) s h = begun _ _ s h.2
spelling_begins at (insns.Type opcode index) s h = begun _ _ s h.2
spelling_begins at (insns.NewArray element) s h = begun _ _ s h.1
spelling_begins at (insns.MultiNewArray index dimensions) s h = begun _ _ s h.2

-- from the place where they begin, and before the place where they end
pub items_rise : (code : List ℕ) (at end : ℕ) (items : List (ℕ × Insn)) → StandFrom code at items end → RisesBy (λ item. item.0) at end items
items_rise code at end [] h = let e = h.0 in omega arith
items_rise code at end (item ∷ items) h =
    let here = h.0 in
    let s = h.1.0 in
    let some = spelling_begins at item.1 s h.1.1.spelling in
    (omega arith, rises_lower (λ item. item.0) (item.0 + 1) (at + length s) end items (omega arith) (items_rise code (at + length s) end items h.1.2))

within : (code : List ℕ) (at : ℕ) (insn : Insn) (s : List ℕ) → StandsAs code at insn s → at + length s ≤ length code
within code at insn s h =
    let whole = ap length h.joined in
    omega (arith, h.place, whole, length-append (h.before ++ s) h.behind, length-append h.before s)

-- the end is no place behind the code
pub items_end : (code : List ℕ) (at end : ℕ) (items : List (ℕ × Insn)) → at ≤ length code → StandFrom code at items end → end ≤ length code
items_end code at end [] le h = let e = h.0 in omega arith
items_end code at end (item ∷ items) le h =
    let s = h.1.0 in
    items_end code (at + length s) end items (within code at item.1 s h.1.1) h.1.2
