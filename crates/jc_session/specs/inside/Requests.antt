-- What the arguments ask for, as the requests of the code.
use Rattle.std.specs.Prelude.{◌≡◌, ◌⊎◌, ℕ, List, codes, IfOk, Option, Result, Some, false}
use Rattle.clap.specs.Simple.{App, app_of, with_subcommand}
use Rattle.clap.specs.Walk.{Row, first_of}
use Rattle.clap.specs.declared.builder.command.Command.{Command}
use Rattle.clap.specs.declared.builder.command.Command.TheViews.{out-Command}
use Rattle.jc_session.specs.declared.program_error.ProgramError.{ProgramError as LentFault}
use Rattle.jc_session.specs.declared.words.Request.{Request}
use Rattle.jc_session.specs.declared.words.Request.TheVariants as requests
use Rattle.jc_session.specs.Statuses.{NoMemory, Usage}
use Rattle.jc_session.specs.Words.{AreRefused, AsksCheck, AsksForm, AsksListing, AsksRun, HoldsGiven, IsBadCheck, IsGiven, IsLacking, Word, given}
use Rattle.jc_session.specs.inside.LentFaults.{fault_lent}

-- the command of a request
abbrev pub command_of : Request → List ℕ
command_of (requests.Session outside) = codes "session"
command_of (requests.List path) = codes "list"
command_of (requests.Check outside form folder) = codes "check"

-- the request has the values of its command's rows. They are the prefixes of a session, the path of a listing, or the
-- prefixes, the form and the folder of a check
abbrev pub AsksAmong : List Row → Request → Type 0
AsksAmong rows (requests.Session outside) = HoldsGiven (given (codes "outside") rows) outside
AsksAmong rows (requests.List path) = Some path.now ≡ first_of (codes "FILE") rows
AsksAmong rows (requests.Check outside form folder) =
    HoldsGiven (given (codes "outside") rows) outside × AsksForm rows form × (Some folder.now ≡ first_of (codes "DIR") rows)

-- the command that was found is that of the request, which has the values of its rows
abbrev pub AsksBy : Option (Word × List Row) → Request → Type 0
AsksBy found request = (rows : List Row) × (found ≡ Some (command_of request, rows)) × AsksAmong rows request

-- the arguments ask for this request
abbrev pub AsksFor : List Word → Request → Type 0
AsksFor words (requests.Session outside) = AsksRun words outside
AsksFor words (requests.List path) = AsksListing words path.now
AsksFor words (requests.Check outside form folder) = AsksCheck words outside form folder.now

-- ---- what `clap` finds if it finds no error

-- a path has a value
abbrev pub HasPath : (name : Word) → List Row → Type 0
HasPath name rows = (path : Word) × (first_of name rows ≡ Some path)

-- a flag is given or not
abbrev pub HasFlag : (name : Word) → List Row → Type 0
HasFlag name rows = IsGiven name rows ⊎ IsLacking name rows

-- one of the three commands is found, with the path that it requires and with its flags
abbrev pub IsComplete : Option (Word × List Row) → Type 0
IsComplete found =
    ((rows : List Row) × (found ≡ Some (codes "session", rows)))
    ⊎ ((rows : List Row) × (found ≡ Some (codes "list", rows)) × HasPath (codes "FILE") rows)
    ⊎ ((rows : List Row) × (found ≡ Some (codes "check", rows)) × HasPath (codes "DIR") rows × HasFlag (codes "errors") rows × HasFlag (codes "used") rows)

-- ---- usage errors

-- the command that was found refuses its options or their values
abbrev pub IsRefusedBy : Option (Word × List Row) → Type 0
IsRefusedBy found =
    ((rows : List Row) × (found ≡ Some (codes "session", rows)) × AreRefused (given (codes "outside") rows))
    ⊎ ((rows : List Row) × (found ≡ Some (codes "check", rows)) × IsBadCheck rows)

-- a usage error for this reason, or an allocation failed
abbrev pub FailsFor : (reason : Type 0) → LentFault → Type 0
FailsFor reason fault = ((fault_lent fault ≡ Usage) × reason) ⊎ (fault_lent fault ≡ NoMemory)

-- ---- the command as `clap` has it

-- a subcommand with this definition and without global arguments
abbrev pub IsLeaf : App → Command → Type 0
IsLeaf app command = (app_of command ≡ app) × ((out-Command command).has_globals ≡ false)

-- a command is `before` with the subcommand that was built
abbrev pub HasLeaf : {E : Type 0} → App → Result Command E → Command → Type 0
HasLeaf before leaf command = (app : App) → IfOk leaf (IsLeaf app) → app_of command ≡ with_subcommand before app.top
