use Rattle.std.proofs.Common.{ap, ◌∙◌}
use Rattle.std.specs.FinMap as fin
use Rattle.jc_base.specs.inside.ByteMap.{bytes_of}
use Rattle.jc_base.proofs.maps.TreeEntries.{len-finite}
use Rattle.jc_base.proofs.byte_map.ByteMap.len.Goals as goal

pub returns-clause-len : goal.returns-clause-len
returns-clause-len g c = c.len.ensures.len ∙ len-finite bytes_of c.self.inside.entries.entries c.len.ensures.ordered ∙ ap fin.len c.self.view_is
