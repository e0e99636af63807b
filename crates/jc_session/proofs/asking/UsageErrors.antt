-- Which arguments are a usage error: those in which `clap` finds a fault, and those whose command refuses its options.
use Rattle.std.proofs.Common.{◌≡◌, ◌∙◌, ◌⊎◌, ◌∷◌, List, Option, Some, [], ap, inl, inr, subst, sym, true, unwrap_or, ⊎_elim}
use Rattle.clap.specs.Faults.{fault_of, is_simple_and_free}
use Rattle.clap.specs.Kinds.{HasKind, IsAmong}
use Rattle.clap.specs.Simple.{Shape, app_of, subcommand_of}
use Rattle.clap.specs.Values.{kind_of}
use Rattle.clap.specs.Walk.{Row}
use Rattle.clap.specs.declared.builder.command.Command.{Command}
use Rattle.clap.specs.declared.error.Error.{Error}
use Rattle.clap.specs.declared.error.kind.ErrorKind.TheVariants.{OutOfMemory}
use Rattle.jc_session.specs.declared.program_error.ProgramError.{ProgramError}
use Rattle.jc_session.specs.Statuses.{NamesCommand, NoMemory, Usage}
use Rattle.jc_session.specs.Words.{HasFault, IsUsageError, Word, jclink_command}
use Rattle.jc_session.specs.inside.LentFaults.{fault_lent}
use Rattle.jc_session.specs.inside.Requests.{FailsFor, IsComplete, IsRefusedBy}
use Rattle.jc_session.proofs.asking.LineTaken.{IsTakenBy, built_check, built_list, built_session, line_is_free, line_taken}
use Rattle.jc_session.proofs.asking.TakenRows.{check_flags, check_path, list_path}

-- a parse of the command line that succeeds finds no fault
pub no_fault : (command : Command) (words : List Word) → app_of command ≡ jclink_command → (is_simple_and_free (app_of command) ≡ true → fault_of (app_of command) words ≡ [])
    → fault_of jclink_command words ≡ []
no_fault command words is passes = ap (λ a. fault_of a words) (sym is) ∙ passes (ap is_simple_and_free is ∙ line_is_free)

-- and one that fails finds one, unless an allocation failed
pub failed : (command : Command) (words : List Word) (error : Error) (fault : ProgramError) → app_of command ≡ jclink_command
    → (is_simple_and_free (app_of command) ≡ true → HasKind (fault_of (app_of command) words) error)
    → (kind_of error ≡ OutOfMemory → fault_lent fault ≡ NoMemory) → (fault_lent fault ≡ Usage) ⊎ (fault_lent fault ≡ NoMemory) → FailsFor (IsUsageError words) fault
unfolding HasFault
failed command words error fault is fails memory either =
    let kinds : HasKind (fault_of jclink_command words) error = subst (λ a. HasKind (fault_of a words) error) is (fails (ap is_simple_and_free is ∙ line_is_free)) in
    ⊎_elim (λ usage. ⊎_elim (λ lack. inr (memory lack)) (λ among. inl (usage, inl (kind_of error, among))) kinds) (λ lack. inr lack) either

module _ (words : List Word) (none : fault_of jclink_command words ≡ []) where
  -- what is found has all that the program reads of it
  pub complete : IsComplete (subcommand_of jclink_command words)
  complete =
      ⊎_elim (λ session. inl (_, session.2))
      (⊎_elim (λ listing. inr (inl (_, listing.2, list_path listing.0 listing.3))) (λ check. inr (inr (_, check.2, check_path check.0 check.3, (check_flags check.0 check.3).0, (check_flags check.0 check.3).1))))
      (line_taken words none)

  -- the command that is found is the first argument
  pub names_found : (command : Word) (rows : List Row) → subcommand_of jclink_command words ≡ Some (command, rows) → NamesCommand command words
  names_found command rows found =
      ⊎_elim (λ session. named built_session session) (⊎_elim (λ listing. named built_list listing) (λ check. named built_check check)) (line_taken words none)
    where
      named : (s : Shape) → IsTakenBy s words → NamesCommand command words
      named s (behind, are, is, passes) = (behind, are ∙ ap (λ name. name ∷ behind) (ap (λ (o : Option (Word × List Row)). (unwrap_or o (command, rows)).0) (sym is ∙ found)))

  -- the arguments are no usage error where the command refuses nothing
  pub proper : ¬ (IsRefusedBy (subcommand_of jclink_command words)) → ¬ (IsUsageError words)
  unfolding HasFault
  proper accepted bad = ⊎_elim (λ fault. let among : IsAmong fault.0 [] = subst (IsAmong fault.0) none fault.1 in among) accepted bad
