use Rattle.std.proofs.Common.{◌∙◌, ap}
use Rattle.std.proofs.lemmas.Result.{IfOk-weaker}
use Rattle.jc_file.specs.inside.Broken.{places_in}
use Rattle.jc_file.proofs.sets.WholePlaces.{faults_at}
use Rattle.jc_file.proofs.faults.find_faults.Goals as goal

pub returns : goal.returns
returns c =
    let all = faults_at c.args.class.now (λ rule. places_in rule c.deref.result.now) (λ rule. ap (places_in rule) c.deref.ensures.value ∙ c.in_ok-broken.ensures rule) in
    IfOk-weaker c.list_faults.result _ _ (λ found e. e ∙ all) c.list_faults.ensures
