use Rattle.std.proofs.Common.{[], ap, sym, ◌∙◌, rules}
use Rattle.std.specs.FinMap as map
use Rattle.jc_session.specs.Checks.{All, judged_add}
use Rattle.jc_session.proofs.tree_check.add_bytes.Goals as goal

pub returns-in-Ok : goal.returns-in-Ok
returns-in-Ok c = λ f h. (
  map.insert f c.args.path.now c.args.bytes.now,
  ap (λ o. judged_add f c.args.path.now c.args.bytes.now o [] All) (sym (c.add_refusal.ensures f h) ∙ c.in_default.is),
  (c.in-Ok.ensures.ok f h).1,
)

pub returns-in-Some : goal.returns-in-Some
returns-in-Some c = search rules
