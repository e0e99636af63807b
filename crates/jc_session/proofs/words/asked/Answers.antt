use Rattle.std.proofs.Common.{◌∙◌, inl, inr, map, subst, sym, ⊎_elim}
use Rattle.std.proofs.lemmas.Result.{IfErr-weaker, IfOk-weaker}
use Rattle.jc_session.specs.inside.Requests.{IsComplete, IsRefusedBy, command_of}
use Rattle.jc_session.proofs.asking.CommandLine.{asked_by, found_by}
use Rattle.jc_session.proofs.asking.UsageErrors.{complete, failed, names_found, no_fault, proper}
use Rattle.jc_session.proofs.words.asked.Goals as goal

pub returns-in-Err-clause-fault : goal.returns-in-Err-clause-fault
returns-in-Err-clause-fault c =
    let words = map (λ word. word.now) c.args.words.now in
    failed c.in_ok-jclink_command.field-0 words c.in-Err.error c.words_fault.result c.in_ok-jclink_command.ensures c.in-Err.ensures.kinds c.words_fault.ensures.memory.1 c.words_fault.ensures.usage

pub request_of-requires : goal.request_of-requires
request_of-requires c =
    let words = map (λ word. word.now) c.args.words.now in
    let found = found_by c.in_ok-jclink_command.field-0 words c.in-Ok.matches c.in_ok-jclink_command.ensures c.in-Ok.ensures.matches in
    let none = no_fault c.in_ok-jclink_command.field-0 words c.in_ok-jclink_command.ensures c.in-Ok.ensures.kinds in
    record { complete = subst IsComplete (sym found) (complete words none) }

pub returns-clause-command : goal.returns-clause-command
returns-clause-command c =
    let words = map (λ word. word.now) c.args.words.now in
    let found = found_by c.in_ok-jclink_command.field-0 words c.in-Ok.matches c.in_ok-jclink_command.ensures c.in-Ok.ensures.matches in
    let none = no_fault c.in_ok-jclink_command.field-0 words c.in_ok-jclink_command.ensures c.in-Ok.ensures.kinds in
    IfOk-weaker c.request_of.result _ _ (λ request by. names_found words none (command_of request) by.0 (sym found ∙ by.1)) c.request_of.ensures.asks

pub returns-clause-asks : goal.returns-clause-asks
returns-clause-asks c =
    let words = map (λ word. word.now) c.args.words.now in
    let found = found_by c.in_ok-jclink_command.field-0 words c.in-Ok.matches c.in_ok-jclink_command.ensures c.in-Ok.ensures.matches in
    IfOk-weaker c.request_of.result _ _ (asked_by words _ found) c.request_of.ensures.asks

pub returns-clause-proper : goal.returns-clause-proper
returns-clause-proper c =
    let words = map (λ word. word.now) c.args.words.now in
    let found = found_by c.in_ok-jclink_command.field-0 words c.in-Ok.matches c.in_ok-jclink_command.ensures c.in-Ok.ensures.matches in
    let none = no_fault c.in_ok-jclink_command.field-0 words c.in_ok-jclink_command.ensures c.in-Ok.ensures.kinds in
    IfOk-weaker c.request_of.result _ _ (λ _ accepted. proper words none (subst (λ o. ¬ (IsRefusedBy o)) found accepted)) c.request_of.ensures.proper

pub returns-clause-fault : goal.returns-clause-fault
returns-clause-fault c =
    let words = map (λ word. word.now) c.args.words.now in
    let found = found_by c.in_ok-jclink_command.field-0 words c.in-Ok.matches c.in_ok-jclink_command.ensures c.in-Ok.ensures.matches in
    IfErr-weaker c.request_of.result _ _ (λ fault fails. ⊎_elim (λ usage. inl (usage.0, inr (subst IsRefusedBy found usage.1))) (λ memory. inr memory) fails) c.request_of.ensures.fault
