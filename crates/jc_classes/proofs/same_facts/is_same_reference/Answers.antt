use Rattle.std.proofs.Common.{◌≡◌, arith}
use Rattle.std.proofs.lemmas.Bool.Decides.{Decides-at}
use Rattle.std.proofs.lemmas.Grind.{common_steps}
use Rattle.jc_classes.proofs.compared.SameClasses.{decides_reference}
use Rattle.jc_classes.proofs.same_facts.is_same_reference.Goals as goal

pub returns-then-eq : goal.returns-then-eq
returns-then-eq c =
    let kind : c.args.reference.kind ≡ c.args.other.kind = grind (arith, common_steps, c.if-eq.true, c.eq.ensures) in
    Decides-at _ _ c.has_same_texts.ensures (decides_reference c.args.reference c.args.other kind)
