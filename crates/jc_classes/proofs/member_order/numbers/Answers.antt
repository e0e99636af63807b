use Rattle.std.proofs.Common.{◌≡◌, ◌∙◌, ℕ, ◌+◌, ◌<◌, List, [], ◌∷◌, ◌++◌, length, get_or, map, take, ap, sym, add-one}
use Rattle.std.proofs.Math.Seq.{take-suc}
use Rattle.std.proofs.lemmas.List.{map-append}
use Rattle.jc_classes.specs.inside.Ranks.{number_of}
use Rattle.jc_classes.proofs.member_order.numbers.Goals as goal

one_more : {X A : Type 0} (f : X → A) (xs : List X) (i : ℕ) (d : X) (before after : List A) → i < length xs → after ≡ before ++ f (get_or xs i d) ∷ [] → before ≡ map f (take i xs) → after ≡ map f (take (i + 1) xs)
one_more f xs i d before after h more so_far =
    let e : take (i + 1) xs ≡ take i xs ++ get_or xs i d ∷ [] = rw add-one (take-suc xs i d h) in
    more
    ∙ ap (λ v. v ++ f (get_or xs i d) ∷ []) so_far
    ∙ sym (ap (map f) e ∙ map-append f (take i xs) (get_or xs i d ∷ []))

pub loop-number-preserved : goal.loop-number-preserved
loop-number-preserved c =
    one_more number_of c.args.ranked.now c.loop-number.number-index _ c.loop-number.numbers.items c.push.new.self.items c.loop-number-test.true c.in_ok-push.ensures.items c.loop-number.invariant
