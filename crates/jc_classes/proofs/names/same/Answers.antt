use Rattle.std.proofs.Common.{◌∙◌}
use Rattle.std.specs.Cmp.Lexicographic.{bytes_decides}
use Rattle.std.proofs.lemmas.Bool.Decides.{same_from_decides}
use Rattle.jc_classes.proofs.worlds.NameTests.{decides_same}
use Rattle.jc_classes.proofs.names.same.Goals as goal

pub returns : goal.returns
returns c = c.eq.ensures ∙ same_from_decides _ _ (bytes_decides c.args.a.now c.args.b.now) (decides_same c.args.a.now c.args.b.now)
