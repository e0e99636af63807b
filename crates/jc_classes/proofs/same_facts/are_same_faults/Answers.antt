use Rattle.std.proofs.lemmas.Slice.Eq.{slice_eq-Decides}
use Rattle.jc_classes.proofs.compared.Lists.{decides_of}
use Rattle.jc_classes.proofs.compared.SameClasses.{fault_decides, not_first, numbered_decides, then_second}
use Rattle.jc_classes.proofs.same_facts.are_same_faults.Goals as goal

pub returns-then-eq : goal.returns-then-eq
returns-then-eq c =
    let format = decides_of c.eq.result c.format_faults.ensures c.format_faults-2.ensures (slice_eq-Decides fault_decides c.format_faults.result.now c.format_faults-2.result.now c.eq.result c.eq.ensures) in
    let code = decides_of c.eq-then-eq.result c.code_faults.ensures c.code_faults-then-eq.ensures
    (slice_eq-Decides numbered_decides c.code_faults.result.now c.code_faults-then-eq.result.now c.eq-then-eq.result c.eq-then-eq.ensures) in
    then_second c.eq.result c.eq-then-eq.result format c.if-eq.true code

pub returns-else-eq : goal.returns-else-eq
returns-else-eq c =
    let format = decides_of c.eq.result c.format_faults.ensures c.format_faults-2.ensures (slice_eq-Decides fault_decides c.format_faults.result.now c.format_faults-2.result.now c.eq.result c.eq.ensures) in
    not_first c.eq.result format c.if-eq.false
