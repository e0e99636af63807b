-- The command line, and what its arguments ask for, as `clap` finds it among them.
use Rattle.std.specs.Prelude.{◌≡◌, ◌↔◌, ◌⊎◌, ℕ, Bool, true, false, List, codes, IsSome, Option, Some, None}
use Rattle.std.specs.List.{Contains}
use Rattle.clap.specs.Faults.{fault_of}
use Rattle.clap.specs.Kinds.{IsAmong}
use Rattle.clap.specs.Simple.{App, new_app, new_rule, on_top, subcommand_of, with_rule, with_subcommand}
use Rattle.clap.specs.Walk.{Row, Rule, all_of, first_of, one_of}
use Rattle.clap.specs.declared.builder.action.ArgAction.TheVariants.{Append, SetTrue}
use Rattle.clap.specs.declared.error.kind.ErrorKind.{ErrorKind}
use Rattle.jc_session.specs.declared.tree_check.CheckForm.{CheckForm}
use Rattle.jc_session.specs.declared.tree_check.CheckForm.TheVariants as forms
use Rattle.jc_classes.specs.Names.{Name}
use Rattle.jc_classes.specs.Numbers.{IsOnce}
use Rattle.jc_link.specs.Prefixes.{prefixes_fault, standard_prefixes}

-- ---- the command line

-- an argument, by its bytes
abbrev pub Word : Type 0
Word = List ℕ

-- the option `--name PREFIX`, which may be given several times
abbrev pub prefix_option : Word → Rule
prefix_option name = record (new_rule name) { long = Some name; action = Some Append }

-- the flag `--name`
abbrev pub flag : Word → Rule
flag name = record (new_rule name) { long = Some name; action = Some SetTrue }

-- a path that is required
abbrev pub path_wanted : Word → Rule
path_wanted name = record (new_rule name) { required = true }

-- `session [--outside PREFIX]..`
abbrev pub session_command : App
session_command = with_rule (new_app (codes "session")) (prefix_option (codes "outside"))

-- `list FILE`
abbrev pub list_command : App
list_command = with_rule (new_app (codes "list")) (path_wanted (codes "FILE"))

-- `check` with its options
abbrev pub check_options : App
check_options = with_rule (with_rule (with_rule (with_rule (new_app (codes "check"))
    (flag (codes "errors"))) (flag (codes "used"))) (prefix_option (codes "only"))) (prefix_option (codes "outside"))

-- `check` with its options and `DIR`
abbrev pub check_command : App
check_command = with_rule check_options (path_wanted (codes "DIR"))

-- the command `jclink` before its commands are added; the first argument must name one of them
abbrev pub jclink_alone : App
jclink_alone = on_top (λ s. record s { no_binary_name = true; subcommand_required = true }) (new_app (codes "jclink"))

-- the command `jclink` with its three commands
abbrev pub jclink_command : App
jclink_command = with_subcommand (with_subcommand (with_subcommand jclink_alone session_command.top) list_command.top) check_command.top

-- the arguments name this command, and after it `clap` finds these rows, one for each option and path that has a value
abbrev pub Finds : (words : List Word) → (command : Word) → List Row → Type 0
Finds words command rows = subcommand_of jclink_command words ≡ Some (command, rows)

-- ---- prefixes

-- the values of an option, one for each time that it is given, or `None` if it is not given
abbrev pub given : (option : Word) → List Row → Option (List Name)
given option rows = all_of option rows

-- a list has each given prefix once; if none is given, it is the list of standard prefixes
abbrev pub HoldsGiven : Option (List Name) → List Name → Type 0
HoldsGiven None held = held ≡ standard_prefixes
HoldsGiven (Some texts) held = ((p : Name) → Contains held p ↔ Contains texts p) × IsOnce held

-- the given prefixes are refused: one is empty or longer than 256 bytes, or more than 64 are given, repeats counted
abbrev pub AreRefused : Option (List Name) → Type 0
AreRefused None = ⊥
AreRefused (Some texts) = IsSome (prefixes_fault texts)

-- ---- the form of a check

-- the flag is given: its text is `true`
abbrev pub IsGiven : (flag : Word) → List Row → Type 0
IsGiven flag rows = one_of flag rows ≡ Some (codes "true")

-- the flag is not given: its text is `false`
abbrev pub IsLacking : (flag : Word) → List Row → Type 0
IsLacking flag rows = one_of flag rows ≡ Some (codes "false")

-- the flag is given exactly if this is true
abbrev pub IsFlag : (flag : Word) → (is_given : Bool) → List Row → Type 0
IsFlag flag true rows = IsGiven flag rows
IsFlag flag false rows = IsLacking flag rows

-- the prefixes of a form are those of `--only`, each once, or `None` if `--only` is not given
abbrev pub TellsOnly : Option (List Name) → Option (List Name) → Type 0
TellsOnly named None = named ≡ None
TellsOnly named (Some held) = IsSome named × HoldsGiven named held

-- the form is the report if none of `--errors`, `--only` and `--used` is given. With `--errors` it is the errors, which
-- `--only` and `--used` select
abbrev pub AsksForm : List Row → CheckForm → Type 0
AsksForm rows forms.Report = IsLacking (codes "errors") rows × IsLacking (codes "used") rows × (given (codes "only") rows ≡ None)
AsksForm rows (forms.Errors held used_only) =
    IsGiven (codes "errors") rows × TellsOnly (given (codes "only") rows) held × IsFlag (codes "used") used_only rows

-- the prefixes of `--only` are refused, or `--only` or `--used` is given without `--errors`
abbrev pub IsBadForm : List Row → Type 0
IsBadForm rows =
    AreRefused (given (codes "only") rows)
    ⊎ (IsLacking (codes "errors") rows × (IsSome (given (codes "only") rows) ⊎ IsGiven (codes "used") rows))

-- the prefixes of `--outside` are refused, or the form is bad
abbrev pub IsBadCheck : List Row → Type 0
IsBadCheck rows = AreRefused (given (codes "outside") rows) ⊎ IsBadForm rows

-- ---- what is asked for

-- the arguments ask for a session with these outside prefixes
abbrev pub AsksRun : List Word → (prefixes : List Name) → Type 0
AsksRun words prefixes = (rows : List Row) × Finds words (codes "session") rows × HoldsGiven (given (codes "outside") rows) prefixes

-- the arguments ask for the listing of the file at a path
abbrev pub AsksListing : List Word → (path : Word) → Type 0
AsksListing words path = (rows : List Row) × Finds words (codes "list") rows × (Some path ≡ first_of (codes "FILE") rows)

-- the arguments ask for a check of a folder with these outside prefixes, in this form
abbrev pub AsksCheck : List Word → (prefixes : List Name) → CheckForm → (folder : Word) → Type 0
AsksCheck words prefixes form folder =
    (rows : List Row) × Finds words (codes "check") rows × HoldsGiven (given (codes "outside") rows) prefixes
    × AsksForm rows form × (Some folder ≡ first_of (codes "DIR") rows)

-- ---- usage errors

-- `clap` finds an error of some kind among the arguments
unfoldable pub HasFault : List Word → Type 0
HasFault words = (kind : ErrorKind) × IsAmong kind (fault_of jclink_command words)

-- the arguments are a usage error: `clap` finds an error among them, or `session` or `check` refuses its options or
-- their values
abbrev pub IsUsageError : List Word → Type 0
IsUsageError words =
    HasFault words
    ⊎ ((rows : List Row) × Finds words (codes "session") rows × AreRefused (given (codes "outside") rows))
    ⊎ ((rows : List Row) × Finds words (codes "check") rows × IsBadCheck rows)
