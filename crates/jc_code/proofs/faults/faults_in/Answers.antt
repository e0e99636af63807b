use Rattle.std.proofs.Common.{subst, ◌∙◌}
use Rattle.jc_code.specs.Insns.{IsCode}
use Rattle.jc_code.specs.InsnReading.{insns_of, end_of}
use Rattle.std.proofs.lemmas.Result.{IfOk-weaker}
use Rattle.jc_code.proofs.orders.FaultsOfCode.{OneWay, found_rises, found_breaks, breaking_found, found_computed}
use Rattle.jc_code.proofs.faults.faults_in.Goals as goal

pub returns-clause-violated : goal.returns-clause-violated
returns-clause-violated c =
    let one : OneWay = record { items = c.instructions_are_apart.ensures.items; end = c.instructions_are_apart.ensures.end } in
    let class = c.args.sizes.now in
    let k = c.args.code.now.code in
    IfOk-weaker c.faults_alone.result _ _ (λ found are. λ fault. (found_breaks class k found.items are fault, breaking_found class k found.items are one fault)) c.faults_alone.ensures

pub returns-clause-rising : goal.returns-clause-rising
returns-clause-rising c =
    IfOk-weaker c.faults_alone.result _ _ (λ found are. found_rises c.args.sizes.now c.args.code.now.code found.items are) c.faults_alone.ensures

pub returns-clause-computed : goal.returns-clause-computed
returns-clause-computed c =
    let one : OneWay = record { items = c.instructions_are_apart.ensures.items; end = c.instructions_are_apart.ensures.end } in
    let class = c.args.sizes.now in
    let k = c.args.code.now.code in
    let read = subst (λ code. IsCode code (insns_of code) (end_of code)) (c.as_bytes-bytes.ensures.same ∙ c.bytes.ensures.part) (c.codes_are_read.ensures c.as_bytes-bytes.result.now c.as_bytes-bytes.ensures.bytes) in
    IfOk-weaker c.faults_alone.result _ _ (λ found are. found_computed class k found.items are one read) c.faults_alone.ensures
