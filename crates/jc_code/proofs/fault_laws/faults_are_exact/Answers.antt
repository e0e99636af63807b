use Rattle.jc_code.proofs.orders.CodeFaultOrder.{faults_sorted, listed_violates, violating_listed}
use Rattle.jc_code.proofs.fault_laws.faults_are_exact.Goals as goal

pub returns-clause-rising : goal.returns-clause-rising
returns-clause-rising c = faults_sorted

pub returns-clause-exact : goal.returns-clause-exact
returns-clause-exact c = λ class k items end is_code fault. (listed_violates class k items end fault is_code, violating_listed class k items end fault)
