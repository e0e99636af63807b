use Rattle.std.proofs.Common.{refl}
use Rattle.std.specs.List.{Contains}
use Rattle.std.proofs.lemmas.Bool.{false≢true}
use Rattle.std.proofs.lemmas.Iterator.{cases_from_all, YieldsList-from_slice}
use Rattle.jc_base.specs.Names.{name_stops}
use Rattle.jc_base.proofs.texts.Names.{all_decides}
use Rattle.jc_base.proofs.names.lacks_name_stops.Goals as goal

pub returns : goal.returns
returns c =
    all_decides (λ b. Contains name_stops b → ⊥) 0 c.all.result c.args.text.now
    (cases_from_all _ _ _ (λ b. Contains name_stops b → ⊥) (λ b. (Contains name_stops b → ⊥) → ⊥) c.all.ensures.ran (YieldsList-from_slice c.args.text.now cc) (λ x q k. (refl, k.met.0 refl)) (λ x q k lacks. false≢true (k.met.1 lacks)))
