use Rattle.std.proofs.Common.{◌+◌, ◌↔◌, [], map, take, sym, subst, arith}
use Rattle.std.proofs.lemmas.List.{map_more, take_all}
use Rattle.std.specs.List.{Contains}
use Rattle.jc_classes.specs.Names.{Name}
use Rattle.jc_link.specs.Prefixes.{with_one}
use Rattle.jc_link.specs.inside.HeldPrefixes.{IsHeldOf}
use Rattle.jc_link.proofs.prefixes.Holding.{held_more}
use Rattle.jc_link.proofs.outside.Outside.new.Goals as goal

pub loop-prefix-preserved : goal.loop-prefix-preserved
loop-prefix-preserved c =
    let given = c.args.prefixes.now in
    let at = c.loop-prefix.prefix-index in
    let e = map_more (λ p. p.now) given at (record { ref_ptr = (0, 0); now = [] }) c.loop-prefix-test.true in
    subst (λ z. IsHeldOf z (map (λ p. p.now) (take (at + 1) given))) (sym c.in_ok-outside.ensures)
    (subst (IsHeldOf (with_one c.loop-prefix.outside _)) (sym e) (held_more c.loop-prefix.outside (map (λ p. p.now) (take at given)) _ c.loop-prefix.invariant))

pub returns-clause-held : goal.returns-clause-held
returns-clause-held c =
    let given = c.args.prefixes.now in
    subst (λ ps. (p : Name) → Contains c.loop-prefix.outside p ↔ Contains (map (λ p. p.now) ps) p) (take_all c.loop-prefix.prefix-index given (omega (arith, c.loop-prefix-test.false)))
    c.loop-prefix.invariant.same
