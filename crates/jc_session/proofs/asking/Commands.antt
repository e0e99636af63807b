-- What a command is after an argument more.
use Rattle.std.proofs.Common.{◌≡◌, ◌∙◌, ◌||◌, ap, ap₂, false}
use Rattle.clap.specs.Built.{AddsArg}
use Rattle.clap.specs.Simple.{App, with_rule}
use Rattle.clap.specs.Walk.{Rule, rule_of}
use Rattle.clap.specs.declared.builder.arg.Arg.{Arg}
use Rattle.clap.specs.declared.builder.command.Command.{Command}
use Rattle.jc_session.specs.inside.Requests.{IsLeaf}

pub leaf_with : (app : App) (rule : Rule) (old new : Command) (a : Arg) → AddsArg old a new → IsLeaf app old → rule_of a ≡ rule → a.global ≡ false → IsLeaf (with_rule app rule) new
leaf_with app rule old new a adds leaf is own = (adds.shape own ∙ ap₂ with_rule leaf.0 is, adds.globals ∙ (ap (λ b. b || a.global) leaf.1 ∙ ap (λ b. false || b) own))
