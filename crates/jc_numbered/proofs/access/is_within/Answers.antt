use Rattle.std.proofs.Common.{length}
use Rattle.jc_numbered.specs.inside.Shown.{indexed_of}
use Rattle.jc_numbered.proofs.lookups.Chain.{decides_within}
use Rattle.jc_numbered.proofs.access.is_within.Goals as goal

pub returns-else-other-classes : goal.returns-else-other-classes
returns-else-other-classes c = λ m h. decides_within (length c.args.classes.now.standing.now) (indexed_of c.args.classes.now) c.args.classes.now.graph m h c.args.classes.now.object c.args.node c.args.other c.extends.result c.requires.node c.requires.other c.args.classes.now.object_within c.args.classes.now.object_name c.if-other-classes.false c.extends.ensures
