use Rattle.std.proofs.Common.{◌≡◌, ◌∙◌, Some, false, ap, sym}
use Rattle.std.specs.Option.{option_map_or}
use Rattle.std.specs.Prelude.{slice_get}
use Rattle.std.proofs.lemmas.Option.{slice_get_past}
use Rattle.jc_numbered.specs.inside.Shown.{indexed_of}
use Rattle.jc_resolve.specs.inside.Unimplemented.{stays_at}
use Rattle.jc_resolve.proofs.lookups.AbstractLemmas.{get_in, get_there}
use Rattle.jc_resolve.proofs.unimplemented.number_stays.Goals as goal

pub stays-requires-clause-home : goal.stays-requires-clause-home
stays-requires-clause-home c =
    let there : slice_get c.args.methods.now c.args.number ≡ Some c.in-Some.method.now
    = get_there c.args.methods.now c.args.number c.in-Some.method.now c.in-Some.ensures.lookup.3.0 ∙ ap Some (sym c.in-Some.ensures.lookup.1) in
    c.requires.methods c.in-Some.method.now (get_in c.args.methods.now c.args.number c.in-Some.method.now there)

pub returns-in-Some : goal.returns-in-Some
returns-in-Some c =
    let there : slice_get c.args.methods.now c.args.number ≡ Some c.in-Some.method.now
    = get_there c.args.methods.now c.args.number c.in-Some.method.now c.in-Some.ensures.lookup.3.0 ∙ ap Some (sym c.in-Some.ensures.lookup.1) in
    c.stays.ensures ∙ ap (λ o. option_map_or (stays_at (indexed_of c.args.classes.now) c.args.node) o false) (sym there)

pub returns-in-None : goal.returns-in-None
returns-in-None c = ap (λ o. option_map_or (stays_at (indexed_of c.args.classes.now) c.args.node) o false)
    (sym (slice_get_past c.args.methods.now c.args.number c.in-None.ensures.lookup.3))
