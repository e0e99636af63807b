-- The result of a check as plain data, and what a call of `check` promises.
use Rattle.std.specs.Prelude.{ℕ, Bool, List, Option, Result, Ok, Err}
use Rattle.std.specs.FinMap as map
use Rattle.std.specs.declared.vec.Vec.{Vec}
use Rattle.std.specs.Global.{Global}
use Rattle.jc_classes.specs.Names.{Name, names_of}
use Rattle.jc_input.specs.Sources.{SourceAnswers}
use Rattle.jc_session.specs.declared.tree_check.CheckError.{CheckError}
use Rattle.jc_session.specs.declared.tree_check.CheckError.TheVariants as lent
use Rattle.jc_session.specs.declared.tree_check.CheckForm.{CheckForm}
use Rattle.jc_session.specs.Checks.{Answer, CheckFault, ChecksAs, FileRefused, FileUnread, GivesAnswers, NoMemory, WriteFailed, added}

-- the error of a check, with the bytes of the borrowed path
abbrev pub check_fault_lent : CheckError → CheckFault
check_fault_lent (lent.Unread path) = FileUnread path.now
check_fault_lent (lent.Refused error path) = FileRefused error path.now
check_fault_lent lent.Write = WriteFailed
check_fault_lent lent.NoMemory = NoMemory

-- the result of a check, with the bytes of a borrowed path
abbrev pub check_lent : Result Bool CheckError → Result Bool CheckFault
check_lent (Ok wrong) = Ok wrong
check_lent (Err error) = Err (check_fault_lent error)

-- the source was asked for the files at the paths in order. By its answers, a check of these files has this result
abbrev pub ChecksPaths : {S W : Type 0} → (prefixes : List Name) → CheckForm → (paths : List (Vec ℕ Global)) → Result Bool CheckError
    → (S → Option SourceAnswers) → (old new : S) → (W → Option (List ℕ)) → (before now : W) → Type 0
ChecksPaths prefixes form paths result answers old new written before now =
    (given : List Answer) × GivesAnswers (answers old) (names_of paths) given (answers new)
    × ChecksAs prefixes form (added map.empty (names_of paths) given) (check_lent result) (written before) (written now)
