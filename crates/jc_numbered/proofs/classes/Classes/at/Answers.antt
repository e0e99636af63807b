use Rattle.std.proofs.Common.{sym}
use Rattle.std.proofs.lemmas.List.{get_or-map}
use Rattle.jc_classes.specs.Worlds.Stands.{Absent}
use Rattle.jc_classes.specs.Lent.{stands_of}
use Rattle.jc_numbered.proofs.classes.Classes.at.Goals as goal

pub returns : goal.returns
returns c = sym (get_or-map stands_of c.args.self.now.standing.now c.args.node _ Absent c.requires)
