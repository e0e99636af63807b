use Rattle.std.proofs.Common.{◌≡◌, ℕ, zero, suc, ◌<◌, ◌^◌, List, [], length, Option, refl, ap, arith}
use Rattle.std.specs.Option.{unwrap_or}
use Rattle.jc_view.specs.Reading.{after, each_value}
use Rattle.jc_view.specs.AttributeReading.{handler_value}
use Rattle.jc_view.proofs.code.Code.handlers.Goals as goal

-- as many as the count says
length-each_value : {X : Type 0} (after_one : List ℕ → Option (List ℕ)) (value : List ℕ → X) (n : ℕ) (xs : List ℕ) → length (each_value after_one value n xs) ≡ n
unfolding each_value
length-each_value after_one value zero xs = refl
length-each_value after_one value (suc n) xs = ap suc (length-each_value after_one value n (unwrap_or (after_one xs) []))

pub returns-clause-few : goal.returns-clause-few
returns-clause-few c =
    let t = c.self.inside.body.handlers in
    let all = length-each_value (after 8) handler_value t.left t.cursor.rest in
    let few : c.fork.result.left < 2 ^ 16 = c.fork.ensures.few in
    let same : c.fork.result.left ≡ t.left = ap (λ k. k.left) c.fork.ensures.same in
    let seen : length (each_value (after 8) handler_value t.left t.cursor.rest) ≡ length c.args.self.now.code.handlers = ap (λ k. length k.code.handlers) c.self.view_is in
    omega (arith, all, few, same, seen)
