use Rattle.std.proofs.Common.{◌≡◌, ◌∙◌, ap, true}
use Rattle.std.proofs.lemmas.Result.{IfOk-weaker}
use Rattle.clap.specs.Simple.{App, app_of, app_of_fields, on_top, with_subcommand}
use Rattle.clap.specs.declared.builder.command.Command.{Command}
use Rattle.clap.specs.declared.builder.command.Command.TheOpen.{Command-F}
use Rattle.jc_session.specs.Words.{check_command, jclink_alone, list_command, session_command}
use Rattle.jc_session.proofs.words.jclink_command.Goals as goal

pub returns : goal.returns
returns c =
    let alone : app_of c.subcommand_required-command.result ≡ jclink_alone = ap app_of_fields c.subcommand_required-command.ensures
    ∙ ap (λ (f : Command-F Command). app_of_fields (record f { subcommand_required = true })) c.no_binary_name.ensures
    ∙ ap (on_top (λ s. record s { no_binary_name = true; subcommand_required = true })) c.new.ensures.app in
    let one = c.in_ok-command.ensures session_command c.session_command.ensures ∙ ap (λ (a : App). with_subcommand a session_command.top) alone in
    let two = c.in_ok-command-2.ensures list_command c.list_command.ensures ∙ ap (λ (a : App). with_subcommand a list_command.top) one in
    IfOk-weaker c.with_subcommand-3.result _ _ (λ command has. has check_command c.check_command.ensures ∙ ap (λ (a : App). with_subcommand a check_command.top) two) c.with_subcommand-3.ensures
