use Rattle.jc_resolve.proofs.loading.Held.{net_closed}
use Rattle.jc_resolve.proofs.hierarchy.Hierarchy.new.Goals as goal

pub load_classes-requires-clause-net : goal.load_classes-requires-clause-net
load_classes-requires-clause-net c = net_closed c.args.names.now c.args.standing.now c.args.supertypes.now c.requires.closed
