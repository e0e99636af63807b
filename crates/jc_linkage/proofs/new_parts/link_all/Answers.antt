use Rattle.std.proofs.Common.{◌∙◌, ap, sym}
use Rattle.std.specs.FinMap as map
use Rattle.std.specs.Option.{option_to_list}
use Rattle.jc_linkage.specs.inside.Kept.{fresh_at}
use Rattle.jc_linkage.proofs.held.KeptMaps.{kept_at}
use Rattle.jc_linkage.proofs.new_parts.link_all.Goals as goal

pub returns-in-Ok-clause-kept_ok : goal.returns-in-Ok-clause-kept_ok
returns-in-Ok-clause-kept_ok c = λ d.
    let x = c.in-Some.newcomer in
    ap (λ z. map.get z d) c.in-Ok.ensures.kept_ok ∙ kept_at c.args.kept.now x.name.items x.kept d
    ∙ ap (λ o. fresh_at (option_to_list o) d (map.get c.args.kept.now d)) (sym c.in-Some.is)
