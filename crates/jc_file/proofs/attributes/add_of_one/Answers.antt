use Rattle.std.proofs.Common.{◌∙◌, ◌++◌, ap, sym}
use Rattle.jc_file.specs.inside.AttributePlaces.{places_among}
use Rattle.jc_file.specs.inside.Broken.{places_in}
use Rattle.jc_file.proofs.sets.AttributesAdded.{inner_of, own_and_inner}
use Rattle.jc_file.proofs.attributes.add_of_one.Goals as goal

pub returns-in_ok-add_each : goal.returns-in_ok-add_each
returns-in_ok-add_each c =
    let lent = c.args.attribute.now in
    let inner = inner_of lent c.in-Some.code c.attributes.result (sym c.requires.code ∙ c.in-Some.is) c.attributes.ensures in
    λ rule.
    own_and_inner rule lent.class lent.attribute c.attributes.result.left (places_in rule c.args.broken.now.items) (places_in rule c.add_own.new.broken.items) _
    (c.in_ok-add_own.ensures rule)
    (c.in_ok-add_each.ensures rule ∙ ap (λ k. places_in rule c.add_own.new.broken.items ++ places_among rule k c.attributes.result.left) inner.1)
    ∙ ap (λ l. places_in rule c.args.broken.now.items ++ places_among rule lent.class l) (sym inner.0)
