use Rattle.std.proofs.Common.{sym, ap, ◌∙◌}
use Rattle.std.specs.FinMap as fin
use Rattle.std.specs.Option.{is_some}
use Rattle.jc_base.specs.inside.ByteMap.{bytes_of}
use Rattle.jc_base.proofs.maps.TreeEntries.{get-finite}
use Rattle.jc_base.proofs.byte_map.ByteMap.contains_key.Goals as goal

pub returns : goal.returns
returns g c =
    let key = c.args.key.now in
    c.contains_key.ensures ∙ ap is_some (sym (get-finite bytes_of c.self.inside.entries.entries key) ∙ ap (λ m. fin.get m key) c.self.view_is)
