-- What is spelled is read again.
use Rattle.std.specs.Prelude.{ℤ, pos, ◌+ℤ◌}
use Rattle.std.specs.Int.{w8, w16, w32}
use Rattle.std.proofs.Common.{◌≡◌, ℕ, ◌+◌, ◌^◌, ◌<◌, true, false, List, [], ◌∷◌, ◌++◌, drop, Some, refl, ap, ◌∙◌, inl, inr, append_assoc}
use Rattle.jc_base.proofs.Common.{same_pair}
use Rattle.jc_base.specs.Endian.{big_bytes, big_number}
use Rattle.jc_view.specs.declared.constant_pool.ConstantIndex.{ConstantIndex}
use Rattle.jc_view.specs.ConstantPool.{index_bytes, index_value}
use Rattle.jc_view.specs.Reading.{after}
use Rattle.jc_view.proofs.reading.BigEndian.{after_some, after_text, again_number}
use Rattle.jc_view.proofs.reading.FirstConstant.{first_byte}
use Rattle.jc_code.specs.declared.opcode.Operands.{Operands}
use Rattle.jc_code.specs.declared.opcode.Operands.TheVariants as operands
use Rattle.jc_code.specs.declared.insn.Insn.{Insn}
use Rattle.jc_code.specs.declared.insn.Insn.TheVariants as insns
use Rattle.jc_code.specs.Insns.{Has, IsSpelling, byte_bytes, short_bytes, offset_to, target_bytes, iinc, wide, tableswitch, lookupswitch, invokeinterface, invokedynamic, newarray, multianewarray}
use Rattle.jc_code.specs.InsnReading.{byte_value, short_value, target_value, after_widened, widened_value, after_operands, operands_value, after_insn, insn_value}
use Rattle.jc_code.proofs.decoding.Behind.{both_behind}
use Rattle.jc_code.proofs.decoding.Opcodes.{follows_iinc, follows_tableswitch, follows_lookupswitch, follows_invokeinterface, follows_invokedynamic, follows_newarray, follows_wide, follows_multianewarray}
use Rattle.jc_code.proofs.decoding.Signed.{again_signed, again_offset}
use Rattle.jc_code.proofs.decoding.Spellings.{IsReadAgain}
use Rattle.jc_code.proofs.decoding.SwitchSpellings.{table_again, lookup_again}

-- the bytes are read as the instruction, and the rest is left
abbrev pub IsRead : ℕ → Insn → List ℕ → List ℕ → Type 0
IsRead at insn s rest = (after_insn at (s ++ rest) ≡ Some rest) × (insn_value at (s ++ rest) ≡ insn)

by_front : (at opcode : ℕ) (what : Operands) (insn : Insn) (ys rest : List ℕ) → Has opcode what → after_operands at what ys ≡ Some rest → operands_value at opcode what ys ≡ insn
    → (after_insn at (opcode ∷ ys) ≡ Some rest) × (insn_value at (opcode ∷ ys) ≡ insn)
unfolding after_insn insn_value
by_front at opcode what insn ys rest has left value = (rw has left, rw (has, first_byte opcode ys) value)

by_opcode : (at opcode : ℕ) (what : Operands) (insn : Insn) (s rest : List ℕ) → Has opcode what → IsReadAgain opcode (after_operands at what) (operands_value at opcode what) insn s rest → IsRead at insn s rest
by_opcode at opcode what insn s rest has again =
    let front = by_front at opcode what insn (again.body ++ rest) rest has again.left again.value in
    let same = ap (λ (t : List ℕ). t ++ rest) again.spelling in
    (ap (after_insn at) same ∙ front.0, ap (insn_value at) same ∙ front.1)

-- one value behind the opcode
again_of : {X : Type 0} (opcode n : ℕ) (value : List ℕ → X) (f : X → Insn) (x : X) (body s rest : List ℕ) → s ≡ opcode ∷ body
    → (after n (body ++ rest) ≡ Some rest) × (value (body ++ rest) ≡ x) → IsReadAgain opcode (after n) (λ xs. f (value xs)) (f x) s rest
again_of opcode n value f x body s rest e a = record { body = body; spelling = e; left = a.0; value = ap f a.1 }

-- two values one behind the other
both_again : {X Y : Type 0} (m n k : ℕ) (first : List ℕ → X) (second : List ℕ → Y) (x : X) (y : Y) (a b rest : List ℕ) → m + n ≡ k
    → (after m (a ++ (b ++ rest)) ≡ Some (b ++ rest)) × (first (a ++ (b ++ rest)) ≡ x)
    → (after n (b ++ rest) ≡ Some rest) × (second (b ++ rest) ≡ y)
    → (after k ((a ++ b) ++ rest) ≡ Some rest) × ◌≡◌ {A = X × Y} (first ((a ++ b) ++ rest), second (drop m ((a ++ b) ++ rest))) (x, y)
both_again m n k first second x y a b rest sum p q =
    let xs = a ++ (b ++ rest) in
    let regrouped : (a ++ b) ++ rest ≡ xs = append_assoc a b rest in (
      ap (after k) regrouped ∙ both_behind m n k xs (b ++ rest) rest sum p.0 q.0,
      same_pair (ap first regrouped) (ap (λ (t : List ℕ). second (drop m t)) regrouped) ∙ same_pair p.1 (ap second (after_some m xs (b ++ rest) p.0).left ∙ q.1),
    )

nothing_again : (at opcode : ℕ) (what : Operands) (s rest : List ℕ) → Has opcode what → after_operands at what rest ≡ after 0 rest → operands_value at opcode what rest ≡ insns.Plain opcode → s ≡ opcode ∷ [] → IsRead at (insns.Plain opcode) s rest
nothing_again at opcode what s rest has zero_size value e =
    by_opcode at opcode what (insns.Plain opcode) s rest has (record { body = []; spelling = e; left = zero_size ∙ after_text [] rest 0 refl; value = value })

index_of : ℕ → ConstantIndex
index_of n = record { 0 = n }

-- an index behind the opcode
index_again : (opcode : ℕ) (f : ConstantIndex → Insn) (index : ConstantIndex) (s rest : List ℕ) → index.0 < 2 ^ 16 → s ≡ opcode ∷ index_bytes index → IsReadAgain opcode (after 2) (λ xs. f (index_value xs)) (f index) s rest
unfolding index_of
index_again opcode f index s rest fits e = again_of opcode 2 (big_number 2) (λ n. f (index_of n)) index.0 (index_bytes index) s rest e (again_number 2 index.0 rest fits)

-- ---- behind wide

wide_front : (at opcode : ℕ) (ys : List ℕ) (what : Operands) (rest : List ℕ) (insn : Insn) → Has opcode what → after_widened what ys ≡ Some rest → widened_value opcode what ys ≡ insn
    → (after_operands at operands.Wide (opcode ∷ ys) ≡ Some rest) × (operands_value at wide operands.Wide (opcode ∷ ys) ≡ insn)
wide_front at opcode ys what rest insn has left value = (rw has left, rw (has, first_byte opcode ys) value)

wide_again : (at opcode : ℕ) (what : Operands) (insn : Insn) (body s rest : List ℕ) → Has opcode what → s ≡ wide ∷ opcode ∷ body → after_widened what (body ++ rest) ≡ Some rest → widened_value opcode what (body ++ rest) ≡ insn → IsRead at insn s rest
wide_again at opcode what insn body s rest has e left value =
    let front = wide_front at opcode (body ++ rest) what rest insn has left value in
    by_opcode at wide operands.Wide insn s rest follows_wide (record { body = opcode ∷ body; spelling = e; left = front.0; value = front.1 })

-- ---- all

pub insn_again : (at : ℕ) (insn : Insn) (s rest : List ℕ) → IsSpelling at insn s → IsRead at insn s rest
unfolding index_of
insn_again at (insns.Plain opcode) s rest is =
    elim is.0 [
      | inl has ↦ nothing_again at opcode operands.Empty s rest has refl refl is.1
      | inr implicit ↦ nothing_again at opcode (operands.ImplicitLocal implicit.0 implicit.1) s rest implicit.2 refl refl is.1
    ]
insn_again at (insns.Push opcode value) s rest is =
    elim is [
      | inl p ↦ by_opcode at opcode operands.Byte (insns.Push opcode value) s rest p.0 (again_of opcode 1 byte_value (λ z. insns.Push opcode z) value (byte_bytes value) s rest p.2 (again_signed w8 1 refl value rest p.1))
      | inr p ↦ by_opcode at opcode operands.Short (insns.Push opcode value) s rest p.0 (again_of opcode 2 short_value (λ z. insns.Push opcode z) value (short_bytes value) s rest p.2 (again_signed w16 2 refl value rest p.1))
    ]
insn_again at (insns.Ldc opcode index) s rest is =
    elim is [
      | inl p ↦ by_opcode at opcode operands.ShortLoad (insns.Ldc opcode index) s rest p.0 (again_of opcode 1 (big_number 1) (λ n. insns.Ldc opcode (index_of n)) index.0 (big_bytes 1 index.0) s rest p.2 (again_number 1 index.0 rest p.1))
      | inr p ↦ by_opcode at opcode operands.Load (insns.Ldc opcode index) s rest p.0 (index_again opcode (λ i. insns.Ldc opcode i) index s rest p.1 p.2)
    ]
insn_again at (insns.Local opcode index false) s rest is =
    by_opcode at opcode (operands.Local is.0.0) (insns.Local opcode index false) s rest is.0.1 (again_of opcode 1 (big_number 1) (λ n. insns.Local opcode n false) index (big_bytes 1 index) s rest is.2 (again_number 1 index rest is.1))
insn_again at (insns.Local opcode index true) s rest is =
    let a = again_number 2 index rest is.1 in
    wide_again at opcode (operands.Local is.0.0) (insns.Local opcode index true) (big_bytes 2 index) s rest is.0.1 is.2 a.0 (ap (λ (n : ℕ). insns.Local opcode n true) a.1)
insn_again at (insns.Increment index amount false) s rest is =
    let last = byte_bytes amount in
    let both = both_again 1 1 2 (big_number 1) byte_value index amount (big_bytes 1 index) last rest refl (again_number 1 index (last ++ rest) is.0) (again_signed w8 1 refl amount rest is.1) in
    by_opcode at iinc operands.Increment (insns.Increment index amount false) s rest follows_iinc
    (again_of iinc 2 (λ xs. (big_number 1 xs, byte_value (drop 1 xs))) (λ (p : ℕ × ℤ). insns.Increment p.0 p.1 false) (index, amount) (big_bytes 1 index ++ last) s rest is.2 both)
insn_again at (insns.Increment index amount true) s rest is =
    let last = short_bytes amount in
    let both = both_again 2 2 4 (big_number 2) short_value index amount (big_bytes 2 index) last rest refl (again_number 2 index (last ++ rest) is.0) (again_signed w16 2 refl amount rest is.1) in
    wide_again at iinc operands.Increment (insns.Increment index amount true) (big_bytes 2 index ++ last) s rest follows_iinc is.2 both.0 (ap (λ (p : ℕ × ℤ). insns.Increment p.0 p.1 true) both.1)
insn_again at (insns.Branch opcode target) s rest is =
    elim is [
      | inl p ↦ by_opcode at opcode operands.Branch (insns.Branch opcode target) s rest p.0 (again_of opcode 2 (λ xs. pos at +ℤ short_value xs) (λ z. insns.Branch opcode z) target (short_bytes (offset_to at target)) s rest p.2 (again_offset w16 2 refl at target rest p.1))
      | inr p ↦ by_opcode at opcode operands.WideBranch (insns.Branch opcode target) s rest p.0 (again_of opcode 4 (target_value at) (λ z. insns.Branch opcode z) target (target_bytes at target) s rest p.2 (again_offset w32 4 refl at target rest p.1))
    ]
insn_again at (insns.TableSwitch switch) s rest is = by_opcode at tableswitch operands.TableSwitch (insns.TableSwitch switch) s rest follows_tableswitch (table_again at switch s rest is)
insn_again at (insns.LookupSwitch switch) s rest is = by_opcode at lookupswitch operands.LookupSwitch (insns.LookupSwitch switch) s rest follows_lookupswitch (lookup_again at switch s rest is)
insn_again at (insns.Field opcode index) s rest is = by_opcode at opcode operands.Field (insns.Field opcode index) s rest is.0 (index_again opcode (λ i. insns.Field opcode i) index s rest is.1 is.2)
insn_again at (insns.Invoke opcode index) s rest is = by_opcode at opcode operands.Invoke (insns.Invoke opcode index) s rest is.0 (index_again opcode (λ i. insns.Invoke opcode i) index s rest is.1 is.2)
insn_again at (insns.InvokeInterface index count last) s rest is =
    let end = big_bytes 1 last in
    let two = both_again 2 1 3 (big_number 2) (big_number 1) index.0 count (index_bytes index) (big_bytes 1 count) (end ++ rest) refl (again_number 2 index.0 (big_bytes 1 count ++ (end ++ rest)) is.0) (again_number 1 count (end ++ rest) is.1) in
    let front = index_bytes index ++ big_bytes 1 count in
    let three = both_again 3 1 4 (λ xs. (big_number 2 xs, big_number 1 (drop 2 xs))) (big_number 1) (index.0, count) last front end rest refl two (again_number 1 last rest is.2) in
    by_opcode at invokeinterface operands.InvokeInterface (insns.InvokeInterface index count last) s rest follows_invokeinterface
    (again_of invokeinterface 4 (λ xs. ((big_number 2 xs, big_number 1 (drop 2 xs)), big_number 1 (drop 3 xs))) (λ (p : (ℕ × ℕ) × ℕ). insns.InvokeInterface (index_of p.0.0) p.0.1 p.1) ((index.0, count), last) (front ++ end) s rest is.3 three)
insn_again at (insns.InvokeDynamic index last) s rest is =
    let end = big_bytes 2 last in
    let both = both_again 2 2 4 (big_number 2) (big_number 2) index.0 last (index_bytes index) end rest refl (again_number 2 index.0 (end ++ rest) is.0) (again_number 2 last rest is.1) in
    by_opcode at invokedynamic operands.InvokeDynamic (insns.InvokeDynamic index last) s rest follows_invokedynamic
    (again_of invokedynamic 4 (λ xs. (big_number 2 xs, big_number 2 (drop 2 xs))) (λ (p : ℕ × ℕ). insns.InvokeDynamic (index_of p.0) p.1) (index.0, last) (index_bytes index ++ end) s rest is.2 both)
insn_again at (insns.Type opcode index) s rest is = by_opcode at opcode operands.Type (insns.Type opcode index) s rest is.0 (index_again opcode (λ i. insns.Type opcode i) index s rest is.1 is.2)
insn_again at (insns.NewArray element) s rest is =
    by_opcode at newarray operands.NewArray (insns.NewArray element) s rest follows_newarray (again_of newarray 1 (big_number 1) (λ n. insns.NewArray n) element (big_bytes 1 element) s rest is.1 (again_number 1 element rest is.0))
insn_again at (insns.MultiNewArray index dimensions) s rest is =
    let end = big_bytes 1 dimensions in
    let both = both_again 2 1 3 (big_number 2) (big_number 1) index.0 dimensions (index_bytes index) end rest refl (again_number 2 index.0 (end ++ rest) is.0) (again_number 1 dimensions rest is.1) in
    by_opcode at multianewarray operands.MultiNewArray (insns.MultiNewArray index dimensions) s rest follows_multianewarray
    (again_of multianewarray 3 (λ xs. (big_number 2 xs, big_number 1 (drop 2 xs))) (λ (p : ℕ × ℕ). insns.MultiNewArray (index_of p.0) p.1) (index.0, dimensions) (index_bytes index ++ end) s rest is.2 both)
