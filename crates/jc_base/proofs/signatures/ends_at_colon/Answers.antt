use Rattle.std.proofs.Common.{◌≡◌, subst}
use Rattle.std.proofs.lemmas.Bool.{false≢true, eq-eqb, eqb-true}
use Rattle.jc_base.specs.inside.Owed.{IsCut}
use Rattle.jc_base.proofs.grammar.Cuts.{one_cut, no_cut}
use Rattle.jc_base.proofs.signatures.ends_at_colon.Goals as goal

pub returns-in-Some : goal.returns-in-Some
returns-in-Some c = (
  λ is. let e : c.in-Some.stop ≡ 58 = eqb-true c.in-Some.stop 58 is in (c.in-Some.field-0-0.now, c.in-Some.field-0-2.now, subst (λ x. IsCut c.args.text.now c.in-Some.field-0-0.now x c.in-Some.field-0-2.now) e c.in-Some.ensures),
  λ (name, rest, cut). eq-eqb c.in-Some.stop 58 (one_cut c.args.text.now c.in-Some.field-0-0.now name c.in-Some.stop 58 c.in-Some.field-0-2.now rest c.in-Some.ensures cut),
)

pub returns-in-None : goal.returns-in-None
returns-in-None c = (λ e. absurd (false≢true e), λ (name, rest, cut). absurd (no_cut c.args.text.now name 58 rest c.in-None.ensures cut))
