use Rattle.std.proofs.Common.{sym}
use Rattle.jc_resolve.proofs.lookups.InheritanceLemmas.{key_past}
use Rattle.jc_resolve.proofs.inheritance.method_key.Goals as goal

pub returns-in-None : goal.returns-in-None
returns-in-None c = key_past c.args.facts.now.methods c.args.number (sym c.in-None.ensures)
