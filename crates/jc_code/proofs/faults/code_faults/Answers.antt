use Rattle.std.proofs.lemmas.Result.{IfOk-weaker}
use Rattle.jc_code.proofs.orders.FaultsOfCode.{OneWay, method_rises, method_violates, method_found}
use Rattle.jc_code.proofs.faults.code_faults.Goals as goal

pub returns-clause-violated : goal.returns-clause-violated
returns-clause-violated c =
    let one : OneWay = record { items = c.instructions_are_apart.ensures.items; end = c.instructions_are_apart.ensures.end } in
    let class = c.args.class.now in
    let n = c.args.method in
    IfOk-weaker c.list_method_faults.result _ _ (λ found are. λ fault. (method_violates class n found.items are fault, method_found class n found.items one are fault)) c.list_method_faults.ensures

pub returns-clause-rising : goal.returns-clause-rising
returns-clause-rising c =
    IfOk-weaker c.list_method_faults.result _ _ (λ found are. method_rises c.args.class.now c.args.method found.items are) c.list_method_faults.ensures
