use Rattle.jc_session.proofs.tree_check.check_tree.Goals as goal

pub returns-in-Report-clause-tells : goal.returns-in-Report-clause-tells
returns-in-Report-clause-tells g c = rw c.in-Report.is c.check_report.ensures.tells

pub returns-in-Errors-clause-tells : goal.returns-in-Errors-clause-tells
returns-in-Errors-clause-tells g c = rw (c.in-Errors.is, ← c.as_ref.ensures.value) c.check_errors.ensures.tells
