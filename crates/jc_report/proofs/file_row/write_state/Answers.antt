use Rattle.jc_report.proofs.file_row.write_state.Goals as goal

pub returns-in-Class : goal.returns-in-Class
returns-in-Class g c = rw c.in-Class.is c.write_shown.ensures

pub returns-in-Shadowed : goal.returns-in-Shadowed
returns-in-Shadowed g c = rw c.in-Shadowed.is c.write_shadowed.ensures

pub returns-in-Unreadable : goal.returns-in-Unreadable
returns-in-Unreadable g c = rw c.in-Unreadable.is c.write_unreadable.ensures
