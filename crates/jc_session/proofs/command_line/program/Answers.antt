use Rattle.std.proofs.Common.{Err, inl, inr, map, refl, subst}
use Rattle.jc_session.proofs.endings.FailuresCounted.{input_idle, input_unlisted, input_unread, output_idle}
use Rattle.jc_session.proofs.endings.WordsRefused.{fault_of_words, words_perform}
use Rattle.jc_session.specs.Statuses.{NamesCommand}
use Rattle.jc_session.specs.Words.{IsUsageError}
use Rattle.jc_session.specs.inside.LentFaults.{fault_lent, outcome_lent}
use Rattle.jc_session.specs.inside.Requests.{AsksFor, command_of}
use Rattle.jc_session.proofs.command_line.program.Goals as goal

pub returns-in-Ok-Session : goal.returns-in-Ok-Session
returns-in-Ok-Session g c =
    let did = c.serve-outcome.ensures.runs in
    let words = map (λ word. word.now) c.args.words.now in
    let named = subst (λ request. NamesCommand (command_of request) words) c.in-Ok-Session.field-0-is c.in-Ok-Session.ensures.command in
    let asked = subst (AsksFor words) c.in-Ok-Session.field-0-is c.in-Ok-Session.ensures.asks in
    (outcome_lent c.serve-outcome.result, inr (inr (c.in-Ok-Session.ensures.proper, inl (named, (c.in-Ok-Session.outside, asked, did.0, did.1, did.2, did.4)))), c.serve-outcome.ensures.reads, c.serve-outcome.ensures.writes, c.conclude.ensures)

pub returns-in-Ok-List : goal.returns-in-Ok-List
returns-in-Ok-List g c =
    let did = c.list.ensures in
    let words = map (λ word. word.now) c.args.words.now in
    let named = subst (λ request. NamesCommand (command_of request) words) c.in-Ok-List.field-0-is c.in-Ok-List.ensures.command in
    let asked = subst (AsksFor words) c.in-Ok-List.field-0-is c.in-Ok-List.ensures.asks in
    let path = c.in-Ok-List.path.now in
    (did.1, inr (inr (c.in-Ok-List.ensures.proper, inr (inl (named, refl, (path, asked, did.0, did.2))))), input_unlisted path did.0 did.1 _ _ _ did.2, did.4, did.5)

pub returns-in-Ok-Check : goal.returns-in-Ok-Check
returns-in-Ok-Check g c =
    let did = c.check_folder.ensures in
    let words = map (λ word. word.now) c.args.words.now in
    let named = subst (λ request. NamesCommand (command_of request) words) c.in-Ok-Check.field-0-is c.in-Ok-Check.ensures.command in
    let asked = subst (AsksFor words) c.in-Ok-Check.field-0-is c.in-Ok-Check.ensures.asks in
    let checks = did.1 words asked in
    (did.0, inr (inr (c.in-Ok-Check.ensures.proper, inr (inr (named, refl, checks)))), input_unread words did.0 _ _ _ checks, did.2, did.3)

pub returns-in-Err : goal.returns-in-Err
returns-in-Err g c =
    let fault = c.in-Err.fault in
    let words = map (λ word. word.now) c.args.words.now in
    let either = fault_of_words (IsUsageError words) fault c.in-Err.ensures.fault in (
      Err (fault_lent fault),
      words_perform g.R.Input.remaining words fault c.args.input.now (g.W.Output.written c.args.out.now) c.in-Err.ensures.fault,
      input_idle (fault_lent fault) _ either,
      output_idle (fault_lent fault) _ either,
      c.conclude-in-Err.ensures,
    )
