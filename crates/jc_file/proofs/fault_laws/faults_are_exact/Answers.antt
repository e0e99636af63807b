use Rattle.jc_file.proofs.orders.FaultOrder.{faults_sorted, fault_placed, placed_fault}
use Rattle.jc_file.proofs.fault_laws.faults_are_exact.Goals as goal

pub returns-clause-rising : goal.returns-clause-rising
returns-clause-rising c = faults_sorted

pub returns-clause-exact : goal.returns-clause-exact
returns-clause-exact c = λ k fault. (fault_placed k fault, placed_fault k fault)
