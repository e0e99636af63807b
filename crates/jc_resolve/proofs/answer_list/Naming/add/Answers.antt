use Rattle.std.proofs.Common.{◌≡◌, [], ◌∷◌, length, ap, subst, arith}
use Rattle.std.proofs.lemmas.List.{length-map}
use Rattle.jc_numbered.specs.inside.Indexed.{indexed_name}
use Rattle.jc_numbered.specs.inside.Shown.{indexed_of}
use Rattle.jc_resolve.specs.inside.Naming.{IsNumberOf}
use Rattle.jc_resolve.proofs.answering.Numbers.{last_number, names_more}
use Rattle.jc_resolve.proofs.answer_list.Naming.add.Goals as goal

pub returns-clause-names : goal.returns-clause-names
returns-clause-names c =
    names_more (indexed_name (indexed_of c.args.classes.now)) c.args.self.now.texts c.push.new.self c.args.self.now.nodes.items c.push-2.new.self.items
    c.name.result.now c.args.node c.requires c.in_ok-push.ensures.ok c.in_ok-push-2.ensures.items c.name.ensures

pub returns-clause-front : goal.returns-clause-front
returns-clause-front c = (c.name.result.now ∷ [], c.in_ok-push.ensures.ok)

pub returns-clause-number : goal.returns-clause-number
returns-clause-number c =
    let name = indexed_name (indexed_of c.args.classes.now) in
    let nodes = c.args.self.now.nodes in
    let place : c.len-place.result ≡ length c.args.self.now.texts = omega (arith, c.len-place.ensures, nodes.ok.0, ap length c.requires, length-map nodes.items name) in
    subst (λ t. IsNumberOf c.push.new.self t c.in_ok-number.number) c.name.ensures
    (last_number c.args.self.now.texts c.push.new.self c.name.result.now c.len-place.result c.in_ok-number.number c.in_ok-push.ensures.ok place (omega (arith, c.in_ok-number.ensures)))
