use Rattle.std.proofs.Common.{◌≡◌, ◌∙◌, ◌++◌, ◌==◌, [], length, take, ap, sym, subst, true, false, append-nil, arith}
use Rattle.std.specs.Prelude.{if◌then◌else◌, vec_len}
use Rattle.std.proofs.Math.Seq.{take-append_seam}
use Rattle.jc_code.specs.CodeFaults.{faults_of}
use Rattle.jc_code.specs.Insns.{IsCode}
use Rattle.jc_code.specs.InsnReading.{insns_of, end_of}
use Rattle.jc_code.specs.MethodUses.{uses_among}
use Rattle.jc_code.proofs.orders.FaultsOfCode.{OneWay, found_computed}
use Rattle.jc_code.proofs.faults.faults_and_uses.Goals as goal
use Rattle.jc_code.proofs.faults.faults_and_uses.Goals.{then-not-is_empty, else-not-is_empty}

pub returns-after-not-is_empty-clause-faults : goal.returns-after-not-is_empty-clause-faults
returns-after-not-is_empty-clause-faults c =
    let one : OneWay = record { items = c.instructions_are_apart.ensures.items; end = c.instructions_are_apart.ensures.end } in
    let class = c.args.sizes.now in
    let k = c.args.code.now.code in
    let read = subst (λ code. IsCode code (insns_of code) (end_of code)) (c.as_bytes-bytes.ensures.same ∙ c.bytes.ensures.part) (c.codes_are_read.ensures c.as_bytes-bytes.result.now c.as_bytes-bytes.ensures.bytes) in
    found_computed class k c.in-Ok.faults.items c.in-Ok.ensures.faults one read

pub returns-after-not-is_empty-clause-uses : goal.returns-after-not-is_empty-clause-uses
returns-after-not-is_empty-clause-uses c =
    let one : OneWay = record { items = c.instructions_are_apart.ensures.items; end = c.instructions_are_apart.ensures.end } in
    let class = c.args.sizes.now in
    let k = c.args.code.now.code in
    let read = subst (λ code. IsCode code (insns_of code) (end_of code)) (c.as_bytes-bytes.ensures.same ∙ c.bytes.ensures.part) (c.codes_are_read.ensures c.as_bytes-bytes.result.now c.as_bytes-bytes.ensures.bytes) in
    let computed = found_computed class k c.in-Ok.faults.items c.in-Ok.ensures.faults one read in
    let faults = c.in-Ok.faults in
    let sized : length faults.items ≡ vec_len faults = omega (arith, faults.ok.0) in
    let old = c.args.uses.now in
    let before = c.len-uses_before.result in
    let counted : before ≡ length old.items = c.len-uses_before.ensures ∙ omega (arith, old.ok.0) in
    let among = uses_among c.args.method (insns_of k.code) in
    let added = c.in-Ok.ensures.uses in
    elim c.if-not-is_empty.branch [
      | then-not-is_empty w ↦
          let some : (length (faults_of class k) == 0) ≡ false = ap (λ fs. length fs == 0) (sym computed) ∙ ap (λ n. n == 0) sized ∙ sym w.if-not-is_empty.ensures in
          ap (λ v. v.items) w.uses-is
          ∙ w.truncate.ensures.items
          ∙ ap (λ uses. take before uses) added
          ∙ ap (λ n. take n (c.args.uses.now.items ++ among)) counted
          ∙ take-append_seam c.args.uses.now.items among
          ∙ sym (append-nil c.args.uses.now.items)
          ∙ ap (λ b. c.args.uses.now.items ++ (if b then among else [])) (sym some)
      | else-not-is_empty w ↦
          let none : (length (faults_of class k) == 0) ≡ true = ap (λ fs. length fs == 0) (sym computed) ∙ ap (λ n. n == 0) sized ∙ sym w.if-not-is_empty.ensures in
          ap (λ v. v.items) w.uses-is ∙ added ∙ ap (λ b. c.args.uses.now.items ++ (if b then among else [])) (sym none)
    ]
