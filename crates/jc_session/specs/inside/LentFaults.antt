-- The faults and outcomes of the program as plain data.
use Rattle.std.specs.Prelude.{Bool, Result, Ok, Err}
use Rattle.jc_session.specs.declared.program_error.ProgramError.{ProgramError as LentFault}
use Rattle.jc_session.specs.declared.program_error.ProgramError.TheVariants as lent
use Rattle.jc_list.specs.declared.list_error.ListError.{ListError}
use Rattle.jc_list.specs.declared.list_error.ListError.TheVariants as lists
use Rattle.jc_session.specs.Statuses.{ProgramError, Usage, Input, Output, NoMemory, Unread, Refused, Outcome}

-- the fault, with the bytes of a borrowed path
abbrev pub fault_lent : LentFault → ProgramError
fault_lent lent.Usage = Usage
fault_lent lent.Input = Input
fault_lent lent.Output = Output
fault_lent lent.NoMemory = NoMemory
fault_lent (lent.Unread path) = Unread path.now
fault_lent (lent.Refused error path) = Refused error path.now

-- the outcome, with the bytes of a borrowed path
abbrev pub outcome_lent : Result Bool LentFault → Outcome
outcome_lent (Ok wrong) = Ok wrong
outcome_lent (Err fault) = Err (fault_lent fault)

-- the fault for an error of a listing
abbrev pub fault_of_listing : ListError → ProgramError
fault_of_listing lists.Write = Output
fault_of_listing lists.NoMemory = NoMemory
