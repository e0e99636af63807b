use Rattle.std.proofs.Common.{length, sym, ap, ◌∙◌}
use Rattle.std.specs.FinMap as fin
use Rattle.std.proofs.lemmas.Map.Entries.{length-keys_of}
use Rattle.jc_base.specs.inside.ByteMap.{bytes_of, byte_keys}
use Rattle.jc_base.proofs.maps.TreeEntries.{keys-finite}
use Rattle.jc_base.proofs.byte_map.ByteMap.keys.Goals as goal

pub returns-clause-keys : goal.returns-clause-keys
returns-clause-keys g c =
    ap byte_keys c.keys.ensures.rest ∙ sym (keys-finite bytes_of c.self.inside.entries.entries c.keys.ensures.ordered) ∙ ap fin.keys c.self.view_is

pub returns-clause-len : goal.returns-clause-len
returns-clause-len g c = ap length (returns-clause-keys g c) ∙ length-keys_of (fin.entries c.args.self.now) ∙ sym (fin.len-entries c.args.self.now)
