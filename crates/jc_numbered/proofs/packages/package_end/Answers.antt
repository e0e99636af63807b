use Rattle.std.proofs.Common.{◌-◌, length, sym, ap, ◌∙◌, arith}
use Rattle.std.proofs.lemmas.List.{length-take-le}
use Rattle.jc_classes.specs.Names.{package_to}
use Rattle.jc_numbered.proofs.lookups.PackageLemmas.{package_hit, package_miss, package_none}
use Rattle.jc_numbered.proofs.packages.package_end.Goals as goal

pub loop-end-preserved : goal.loop-end-preserved
loop-end-preserved c = record {
  within = omega arith;
  same = package_miss c.args.name.now c.loop-end.end c.loop-end-test.true c.if-name-end-eq47.false ∙ c.loop-end.invariant.same;
}

pub returns-then-name-end-eq47 : goal.returns-then-name-end-eq47
returns-then-name-end-eq47 c =
    let name = c.args.name.now in
    let end = c.loop-end.end - 1 in
    sym (length-take-le end name (omega (arith, c.loop-end.invariant.within))) ∙ ap length (sym (package_hit name c.loop-end.end c.loop-end-test.true c.if-name-end-eq47.true) ∙ c.loop-end.invariant.same)

pub returns : goal.returns
returns c = ap length (sym (package_none c.args.name.now) ∙ ap (package_to c.args.name.now) (omega arith) ∙ c.loop-end.invariant.same)
