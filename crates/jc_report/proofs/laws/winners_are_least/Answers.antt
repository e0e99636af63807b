use Rattle.jc_report.proofs.winners.LeastPathWins.{winner_is_least, least_is_winner, none_named, unnamed_none}
use Rattle.jc_report.proofs.laws.winners_are_least.Goals as goal

pub returns-clause-least : goal.returns-clause-least
returns-clause-least c = λ f name path. (winner_is_least f name path, least_is_winner f name path)

pub returns-clause-none : goal.returns-clause-none
returns-clause-none c = λ f name. (none_named f name, unnamed_none f name)
