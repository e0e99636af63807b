use Rattle.std.proofs.Common.{◌≡◌, codes, false, rules}
use Rattle.std.proofs.lemmas.Result.{IfOk-weaker}
use Rattle.clap.specs.Simple.{new_app}
use Rattle.clap.specs.Walk.{rule_of}
use Rattle.jc_session.specs.Words.{check_options, flag, path_wanted, prefix_option}
use Rattle.jc_session.proofs.asking.Commands.{leaf_with}
use Rattle.jc_session.proofs.words.check_command.Goals as goal

pub returns : goal.returns
returns c =
    let folder_is : rule_of c.required-folder.result ≡ path_wanted (codes "DIR") = search rules in
    let folder_own : c.required-folder.result.global ≡ false = search rules in
    let one = leaf_with (new_app (codes "check")) (flag (codes "errors")) _ _ _ c.in_ok-arg.ensures (c.new-2.ensures.app, c.new-2.ensures.local) c.flag.ensures.rule c.flag.ensures.own in
    let two = leaf_with _ (flag (codes "used")) _ _ _ c.in_ok-arg-2.ensures one c.flag-2.ensures.rule c.flag-2.ensures.own in
    let three = leaf_with _ (prefix_option (codes "only")) _ _ _ c.in_ok-arg-3.ensures two c.prefix_option.ensures.rule c.prefix_option.ensures.own in
    let four = leaf_with _ (prefix_option (codes "outside")) _ _ _ c.in_ok-arg-4.ensures three c.prefix_option-2.ensures.rule c.prefix_option-2.ensures.own in
    IfOk-weaker c.arg-5.result _ _ (λ command adds. leaf_with check_options (path_wanted (codes "DIR")) _ command _ adds four folder_is folder_own) c.arg-5.ensures
