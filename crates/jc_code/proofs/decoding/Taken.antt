-- What is read behind an opcode is spelled so.
use Rattle.std.specs.Int.{w8, w16, w32}
use Rattle.std.proofs.Common.{◌≡◌, ℕ, suc, List, [], ◌∷◌, ◌++◌, drop, Some, refl, sym, ap, subst, inl, inr}
use Rattle.jc_base.specs.Endian.{big_bytes, big_number}
use Rattle.jc_view.specs.Reading.{after}
use Rattle.jc_view.proofs.reading.BigEndian.{IsBytes, width1, width2, width4, Takes, Takes-then, takes_number, takes_two, after_both, after_some, then_some}
use Rattle.jc_view.proofs.reading.FirstConstant.{first_byte}
use Rattle.jc_code.specs.declared.opcode.Operands.{Operands}
use Rattle.jc_code.specs.declared.opcode.Operands.TheVariants as operands
use Rattle.jc_code.specs.declared.insn.Insn.{Insn}
use Rattle.jc_code.specs.declared.insn.Insn.TheVariants as insns
use Rattle.jc_code.specs.Opcodes.{operands_of}
use Rattle.jc_code.specs.Insns.{Has, IsSpelling, byte_bytes, short_bytes, wide, tableswitch, lookupswitch}
use Rattle.jc_code.specs.InsnReading.{byte_value, short_value, after_widened, widened_value, after_wide, wide_value, after_operands, operands_value, table_switch_value, lookup_switch_value, after_table_switch, after_lookup_switch, after_insn, insn_value}
use Rattle.jc_code.proofs.decoding.Opcodes.{only_iinc, only_tableswitch, only_lookupswitch, only_invokeinterface, only_invokedynamic, only_newarray, only_wide, only_multianewarray}
use Rattle.jc_code.proofs.decoding.Signed.{takes_signed, takes_offset}
use Rattle.jc_code.proofs.decoding.Spellings.{TakesBody}
use Rattle.jc_code.proofs.decoding.SwitchSpellings.{table_takes, lookup_takes}

nothing_taken : (xs rest : List ℕ) → IsBytes xs → after 0 xs ≡ Some rest → Takes xs [] rest
nothing_taken xs rest fits e =
    let same : xs ≡ rest = (after_some 0 xs rest e).left in
    record { parts = same; rest_fits = subst (λ (ys : List ℕ). IsBytes ys) same fits }

-- the opcode is that one
opcode_front : {opcode n : ℕ} → opcode ≡ n → (body : List ℕ) → opcode ∷ body ≡ n ∷ body
opcode_front e body = ap (λ (o : ℕ). o ∷ body) e

increment_taken : (at opcode : ℕ) (xs rest : List ℕ) → IsBytes xs → Has opcode operands.Increment → after 2 xs ≡ Some rest → TakesBody at opcode (operands_value at opcode operands.Increment xs) xs rest
increment_taken at opcode xs rest fits has e =
    let b = after_both 1 1 xs rest e in
    let index = takes_number 1 width1 xs (drop 1 xs) fits b.0 in
    let amount = takes_signed w8 1 width1 refl (drop 1 xs) rest index.0.rest_fits b.1 in
    let front = big_bytes 1 (big_number 1 xs) in
    let last = byte_bytes (byte_value (drop 1 xs)) in
    record {
      body = front ++ last;
      spelling = (index.1, amount.1, opcode_front (only_iinc opcode has) (front ++ last));
      takes = Takes-then xs front (drop 1 xs) last rest index.0 amount.0;
    }

interface_taken : (at opcode : ℕ) (xs rest : List ℕ) → IsBytes xs → Has opcode operands.InvokeInterface → after 4 xs ≡ Some rest → TakesBody at opcode (operands_value at opcode operands.InvokeInterface xs) xs rest
interface_taken at opcode xs rest fits has e =
    let b = after_both 3 1 xs rest e in
    let two = takes_two 2 1 width2 width1 xs (drop 3 xs) fits b.0 in
    let one = takes_number 1 width1 (drop 3 xs) rest two.0.rest_fits b.1 in
    let front = big_bytes 2 (big_number 2 xs) ++ big_bytes 1 (big_number 1 (drop 2 xs)) in
    let last = big_bytes 1 (big_number 1 (drop 3 xs)) in
    record {
      body = front ++ last;
      spelling = (two.1, two.2, one.1, opcode_front (only_invokeinterface opcode has) (front ++ last));
      takes = Takes-then xs front (drop 3 xs) last rest two.0 one.0;
    }

table_taken : (at opcode : ℕ) (xs rest : List ℕ) → IsBytes xs → Has opcode operands.TableSwitch → after_table_switch at xs ≡ Some rest → TakesBody at opcode (table_switch_value at xs) xs rest
table_taken at opcode xs rest fits has e =
    let t = table_takes at xs rest fits e in
    let taken : TakesBody at tableswitch (insns.TableSwitch t.0) xs rest = record { body = t.2.body; spelling = t.2.is; takes = t.2.takes } in
    subst (λ (insn : Insn). TakesBody at opcode insn xs rest) (sym t.1) (subst (λ (o : ℕ). TakesBody at o (insns.TableSwitch t.0) xs rest) (sym (only_tableswitch opcode has)) taken)

lookup_taken : (at opcode : ℕ) (xs rest : List ℕ) → IsBytes xs → Has opcode operands.LookupSwitch → after_lookup_switch at xs ≡ Some rest → TakesBody at opcode (lookup_switch_value at xs) xs rest
lookup_taken at opcode xs rest fits has e =
    let t = lookup_takes at xs rest fits e in
    let taken : TakesBody at lookupswitch (insns.LookupSwitch t.0) xs rest = record { body = t.2.body; spelling = t.2.is; takes = t.2.takes } in
    subst (λ (insn : Insn). TakesBody at opcode insn xs rest) (sym t.1) (subst (λ (o : ℕ). TakesBody at o (insns.LookupSwitch t.0) xs rest) (sym (only_lookupswitch opcode has)) taken)

-- ---- behind wide

widened_taken : (at opcode : ℕ) (what : Operands) (xs rest : List ℕ) → IsBytes xs → Has opcode what → after_widened what xs ≡ Some rest → (body : List ℕ) × IsSpelling at (widened_value opcode what xs) (wide ∷ opcode ∷ body) × Takes xs body rest
widened_taken at opcode (operands.Local slots) xs rest fits has e =
    let t = takes_number 2 width2 xs rest fits e in
    (big_bytes 2 (big_number 2 xs), ((slots, has), t.1, refl), t.0)
widened_taken at opcode operands.Increment xs rest fits has e =
    let b = after_both 2 2 xs rest e in
    let index = takes_number 2 width2 xs (drop 2 xs) fits b.0 in
    let amount = takes_signed w16 2 width2 refl (drop 2 xs) rest index.0.rest_fits b.1 in
    let front = big_bytes 2 (big_number 2 xs) in
    let last = short_bytes (short_value (drop 2 xs)) in
    (front ++ last, (index.1, amount.1, ap (λ (o : ℕ). wide ∷ o ∷ (front ++ last)) (only_iinc opcode has)), Takes-then xs front (drop 2 xs) last rest index.0 amount.0)
widened_taken at opcode what xs rest fits has e = absurd cc

wide_value_is : (o : ℕ) (xs : List ℕ) (what : Operands) → operands_of o ≡ Some what → wide_value (o ∷ xs) ≡ widened_value o what xs
wide_value_is o xs what e = rw (e, first_byte o xs) refl

wide_taken : (at opcode : ℕ) (xs rest : List ℕ) → IsBytes xs → Has opcode operands.Wide → after_wide xs ≡ Some rest → TakesBody at opcode (wide_value xs) xs rest
wide_taken at opcode [] rest fits has e = absurd cc
wide_taken at opcode (o ∷ xs) rest fits has e =
    let b = then_some (operands_of o) (λ what. after_widened what xs) rest e in
    let t = widened_taken at o b.0 xs rest (λ i. fits (suc i)) b.1 b.2 in
    let value : wide_value (o ∷ xs) ≡ widened_value o b.0 xs = wide_value_is o xs b.0 b.1 in
    record {
      body = o ∷ t.0;
      spelling = subst (λ (insn : Insn). IsSpelling at insn (opcode ∷ o ∷ t.0)) (sym value) (subst (λ (n : ℕ). IsSpelling at (widened_value o b.0 xs) (n ∷ o ∷ t.0)) (sym (only_wide opcode has)) t.1);
      takes = record { parts = ap (λ (ys : List ℕ). o ∷ ys) t.2.parts; rest_fits = t.2.rest_fits };
    }

-- ---- all

pub operands_taken : (at opcode : ℕ) (what : Operands) (xs rest : List ℕ) → IsBytes xs → Has opcode what → after_operands at what xs ≡ Some rest → TakesBody at opcode (operands_value at opcode what xs) xs rest
operands_taken at opcode operands.Empty xs rest fits has e = record { body = []; spelling = (inl has, refl); takes = nothing_taken xs rest fits e }
operands_taken at opcode (operands.ImplicitLocal index slots) xs rest fits has e = record { body = []; spelling = (inr (index, slots, has), refl); takes = nothing_taken xs rest fits e }
operands_taken at opcode (operands.Local slots) xs rest fits has e =
    let t = takes_number 1 width1 xs rest fits e in
    record { body = big_bytes 1 (big_number 1 xs); spelling = ((slots, has), t.1, refl); takes = t.0 }
operands_taken at opcode operands.Byte xs rest fits has e =
    let t = takes_signed w8 1 width1 refl xs rest fits e in
    record { body = byte_bytes (byte_value xs); spelling = inl (has, t.1, refl); takes = t.0 }
operands_taken at opcode operands.Short xs rest fits has e =
    let t = takes_signed w16 2 width2 refl xs rest fits e in
    record { body = short_bytes (short_value xs); spelling = inr (has, t.1, refl); takes = t.0 }
operands_taken at opcode operands.ShortLoad xs rest fits has e =
    let t = takes_number 1 width1 xs rest fits e in
    record { body = big_bytes 1 (big_number 1 xs); spelling = inl (has, t.1, refl); takes = t.0 }
operands_taken at opcode operands.Load xs rest fits has e =
    let t = takes_number 2 width2 xs rest fits e in
    record { body = big_bytes 2 (big_number 2 xs); spelling = inr (has, t.1, refl); takes = t.0 }
operands_taken at opcode operands.Increment xs rest fits has e = increment_taken at opcode xs rest fits has e
operands_taken at opcode operands.Branch xs rest fits has e =
    let t = takes_offset w16 2 width2 refl at xs rest fits e in
    record { body = _; spelling = inl (has, t.1, refl); takes = t.0 }
operands_taken at opcode operands.WideBranch xs rest fits has e =
    let t = takes_offset w32 4 width4 refl at xs rest fits e in
    record { body = _; spelling = inr (has, t.1, refl); takes = t.0 }
operands_taken at opcode operands.TableSwitch xs rest fits has e = table_taken at opcode xs rest fits has e
operands_taken at opcode operands.LookupSwitch xs rest fits has e = lookup_taken at opcode xs rest fits has e
operands_taken at opcode operands.Field xs rest fits has e =
    let t = takes_number 2 width2 xs rest fits e in
    record { body = big_bytes 2 (big_number 2 xs); spelling = (has, t.1, refl); takes = t.0 }
operands_taken at opcode operands.Invoke xs rest fits has e =
    let t = takes_number 2 width2 xs rest fits e in
    record { body = big_bytes 2 (big_number 2 xs); spelling = (has, t.1, refl); takes = t.0 }
operands_taken at opcode operands.InvokeInterface xs rest fits has e = interface_taken at opcode xs rest fits has e
operands_taken at opcode operands.InvokeDynamic xs rest fits has e =
    let t = takes_two 2 2 width2 width2 xs rest fits e in
    let body = big_bytes 2 (big_number 2 xs) ++ big_bytes 2 (big_number 2 (drop 2 xs)) in
    record { body = body; spelling = (t.1, t.2, opcode_front (only_invokedynamic opcode has) body); takes = t.0 }
operands_taken at opcode operands.Type xs rest fits has e =
    let t = takes_number 2 width2 xs rest fits e in
    record { body = big_bytes 2 (big_number 2 xs); spelling = (has, t.1, refl); takes = t.0 }
operands_taken at opcode operands.NewArray xs rest fits has e =
    let t = takes_number 1 width1 xs rest fits e in
    let body = big_bytes 1 (big_number 1 xs) in
    record { body = body; spelling = (t.1, opcode_front (only_newarray opcode has) body); takes = t.0 }
operands_taken at opcode operands.MultiNewArray xs rest fits has e =
    let t = takes_two 2 1 width2 width1 xs rest fits e in
    let body = big_bytes 2 (big_number 2 xs) ++ big_bytes 1 (big_number 1 (drop 2 xs)) in
    record { body = body; spelling = (t.1, t.2, opcode_front (only_multianewarray opcode has) body); takes = t.0 }
operands_taken at opcode operands.Wide xs rest fits has e = wide_taken at opcode xs rest fits has e

insn_value_is : (at o : ℕ) (xs : List ℕ) (what : Operands) → operands_of o ≡ Some what → insn_value at (o ∷ xs) ≡ operands_value at o what xs
unfolding insn_value
insn_value_is at o xs what e = rw (e, first_byte o xs) refl

-- an instruction that is read is spelled in the bytes that it takes
pub insn_taken : (at : ℕ) (xs rest : List ℕ) → IsBytes xs → after_insn at xs ≡ Some rest → (s : List ℕ) × IsSpelling at (insn_value at xs) s × Takes xs s rest
unfolding after_insn
insn_taken at [] rest fits e = absurd cc
insn_taken at (o ∷ xs) rest fits e =
    let b = then_some (operands_of o) (λ what. after_operands at what xs) rest e in
    let t = operands_taken at o b.0 xs rest (λ i. fits (suc i)) b.1 b.2 in (
      o ∷ t.body,
      subst (λ (insn : Insn). IsSpelling at insn (o ∷ t.body)) (sym (insn_value_is at o xs b.0 b.1)) t.spelling,
      record { parts = ap (λ (ys : List ℕ). o ∷ ys) t.takes.parts; rest_fits = t.takes.rest_fits },
    )
