use Rattle.jc_linkage.proofs.held.ProvidedRows.{rows_provided}
use Rattle.jc_linkage.proofs.linkage.Linkage.provided.Goals as goal

pub returns : goal.returns
returns c = λ classes are.
    rows_provided c.args.self.now c.of.result c.classes.result classes c.classes.ensures are (c.of.ensures c.classes.ensures.rises)
