use Rattle.jc_session.proofs.program_error.write_fault.Goals as goal

pub returns-in-Usage : goal.returns-in-Usage
returns-in-Usage g c = rw c.in-Usage.is c.text.ensures

pub returns-in-Input : goal.returns-in-Input
returns-in-Input g c = rw c.in-Input.is c.text-in-Input.ensures

pub returns-in-Output : goal.returns-in-Output
returns-in-Output g c = rw c.in-Output.is c.text-in-Output.ensures

pub returns-in-NoMemory : goal.returns-in-NoMemory
returns-in-NoMemory g c = rw c.in-NoMemory.is c.text-in-NoMemory.ensures

pub returns-in-Unread : goal.returns-in-Unread
returns-in-Unread g c = rw c.in-Unread.is c.write_with_path.ensures

pub returns-in-Refused : goal.returns-in-Refused
returns-in-Refused g c = rw c.in-Refused.is c.write_refused.ensures
