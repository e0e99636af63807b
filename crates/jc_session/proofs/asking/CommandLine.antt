-- The command line as `clap` has it, and what it finds among the words.
use Rattle.std.proofs.Common.{◌≡◌, ◌∙◌, List, Option, ap, refl, sym, true}
use Rattle.clap.specs.Simple.{HasMatchesOf, app_of, is_simple, subcommand_of, subcommand_rows_of}
use Rattle.clap.specs.Walk.{Row}
use Rattle.clap.specs.declared.builder.command.Command.{Command}
use Rattle.clap.specs.declared.parser.matches.ArgMatches.{ArgMatches}
use Rattle.clap.proofs.OnLiterals.{clap_on_literals}
use Rattle.jc_session.specs.declared.words.Request.{Request}
use Rattle.jc_session.specs.declared.words.Request.TheVariants as requests
use Rattle.jc_session.specs.Words.{Word, jclink_command}
use Rattle.jc_session.specs.inside.Requests.{AsksBy, AsksFor}

line_is_simple : is_simple jclink_command ≡ true
unfolding clap_on_literals
line_is_simple = refl

-- what a parse found is what the definitions find among the words
pub found_by : (command : Command) (words : List Word) (m : ArgMatches) → app_of command ≡ jclink_command → HasMatchesOf (app_of command) words m
    → subcommand_rows_of m ≡ subcommand_of jclink_command words
found_by command words m is has = (has (ap is_simple is ∙ line_is_simple)).1 ∙ ap (λ a. subcommand_of a words) is

pub asked_by : (words : List Word) (found : Option (Word × List Row)) → found ≡ subcommand_of jclink_command words
    → (request : Request) → AsksBy found request → AsksFor words request
asked_by words found is (requests.Session outside) (rows, finds, asks) = (rows, sym is ∙ finds, asks)
asked_by words found is (requests.List path) (rows, finds, asks) = (rows, sym is ∙ finds, asks)
asked_by words found is (requests.Check outside form folder) (rows, finds, asks) = (rows, sym is ∙ finds, asks.0, asks.1, asks.2)
