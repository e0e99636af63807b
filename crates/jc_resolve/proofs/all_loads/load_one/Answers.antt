use Rattle.std.proofs.Common.{◌<◌, length, sym, subst}
use Rattle.std.proofs.lemmas.List.Elements.{Contains-get_or}
use Rattle.std.specs.List.{All}
use Rattle.jc_numbered.specs.inside.Shown.{indexed_of}
use Rattle.jc_resolve.proofs.all_loads.load_one.Goals as goal

pub judge_each-requires-clause-supertypes : goal.judge_each-requires-clause-supertypes
judge_each-requires-clause-supertypes c =
    let x = indexed_of c.args.classes.now in
    subst (All (λ v. v < length c.args.classes.now.standing.now)) (sym c.supertypes.ensures) (λ k d l. c.args.classes.now.graph.nodes c.args.node _ (Contains-get_or (x.supertypes c.args.node) k d l))
