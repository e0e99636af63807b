use Rattle.jc_linkage.proofs.linkage.Linkage.circular.Goals as goal

pub returns : goal.returns
returns c = (c.classes.result, c.classes.ensures, c.of.ensures)
