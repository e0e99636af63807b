use Rattle.std.proofs.Common.{rules}
use Rattle.std.proofs.lemmas.List.Sorted.{answers_always}
use Rattle.jc_report.proofs.rows.UsesByPlace.{found_by_place, missing_by_place}
use Rattle.jc_report.proofs.use_place.use_at.Goals as goal

pub returns-in-Ok : goal.returns-in-Ok
returns-in-Ok c =
    let at = c.in-Ok.ensures.position (λ u. (u.method, u.place)) (answers_always _ _ _ (λ f a r g called. search rules)) in
    found_by_place c.args.method c.args.place c.args.uses.now c.in-Ok.number _ c.requires c.in-Ok.ensures.bound (at _)

pub returns-in-Err : goal.returns-in-Err
returns-in-Err c =
    let at = c.in-Err.ensures.position (λ u. (u.method, u.place)) (answers_always _ _ _ (λ f a r g called. search rules)) in
    missing_by_place c.args.method c.args.place c.args.uses.now c.in-Err.field-0 c.requires at
