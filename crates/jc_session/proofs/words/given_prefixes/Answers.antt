use Rattle.std.proofs.Common.{◌≡◌, ◌∙◌, ◌↔◌, ap, arith, map, subst}
use Rattle.std.proofs.lemmas.List.{take_all}
use Rattle.std.specs.List.{Contains}
use Rattle.jc_session.proofs.words.given_prefixes.Goals as goal

pub returns-in-Ok-clause-held : goal.returns-in-Ok-clause-held
returns-in-Ok-clause-held c =
    let given = c.args.prefixes.now in
    let same : map (λ p. p.now) c.as_slice.result.now ≡ map (λ p. p.now) given =
    ap (map (λ p. p.now)) c.as_slice.ensures.value ∙ c.loop-prefix.invariant ∙ ap (map (λ p. p.now)) (take_all c.loop-prefix.prefix-index given (omega (arith, c.loop-prefix-test.false))) in
    (λ p. subst (λ texts. Contains c.in-Ok.outside p ↔ Contains texts p) same (c.in-Ok.ensures.held p), c.in-Ok.ensures.once)
