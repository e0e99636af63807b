use Rattle.jc_classes.proofs.links.Exact.{links_exact, links_sorted}
use Rattle.jc_classes.proofs.links.NotLoaded.{none_unless_loaded}
use Rattle.jc_classes.proofs.laws.links_are_exact.Goals as goal

pub returns-clause-exact : goal.returns-clause-exact
returns-clause-exact c = links_exact

pub returns-clause-rising : goal.returns-clause-rising
returns-clause-rising c = links_sorted

pub returns-clause-unless_loaded : goal.returns-clause-unless_loaded
returns-clause-unless_loaded c = none_unless_loaded
