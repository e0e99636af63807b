use Rattle.std.proofs.Common.{length, sym, ap, ◌∙◌}
use Rattle.std.specs.FinMap as fin
use Rattle.jc_base.specs.inside.ByteMap.{bytes_of, byte_entries}
use Rattle.jc_base.proofs.maps.TreeEntries.{entries-finite}
use Rattle.jc_base.proofs.byte_map.ByteMap.iter.Goals as goal

pub returns-clause-entries : goal.returns-clause-entries
returns-clause-entries g c =
    ap byte_entries c.iter.ensures.rest ∙ sym (entries-finite bytes_of c.self.inside.entries.entries c.iter.ensures.ordered) ∙ ap fin.entries c.self.view_is

pub returns-clause-len : goal.returns-clause-len
returns-clause-len g c = ap length (returns-clause-entries g c) ∙ sym (fin.len-entries c.args.self.now)
