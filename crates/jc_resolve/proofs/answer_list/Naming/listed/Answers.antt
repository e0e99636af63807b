use Rattle.std.proofs.Common.{◌∙◌, ap, sym, arith}
use Rattle.std.specs.List.{slice_get}
use Rattle.jc_numbered.specs.inside.Indexed.{indexed_name}
use Rattle.jc_numbered.specs.inside.Shown.{indexed_of}
use Rattle.jc_resolve.proofs.answering.Numbers.{known_number}
use Rattle.jc_resolve.proofs.answer_list.Naming.listed.Goals as goal

pub returns-in_ok-number-in-Some-clause-number : goal.returns-in_ok-number-in-Some-clause-number
returns-in_ok-number-in-Some-clause-number c =
    let name = indexed_name (indexed_of c.args.classes.now) in
    let nodes = c.args.self.now.nodes.items in
    let place = c.in-Some.place in
    known_number name c.args.self.now.texts nodes c.args.node place c.in_ok-number-in-Some.number c.requires
    (sym (ap (λ z. slice_get z place) c.as_slice.ensures.value) ∙ c.in-Some.ensures) (omega (arith, c.in_ok-number-in-Some.ensures))
