use Rattle.std.proofs.Common.{subst}
use Rattle.std.proofs.lemmas.Result.{IfOk-weaker}
use Rattle.jc_classes.specs.NameLists.{IsRisingOf}
use Rattle.jc_classes.specs.Names.{names_of}
use Rattle.jc_classes.proofs.numbers.Numbers.rising.Goals as goal

pub returns : goal.returns
returns c = IfOk-weaker c.rising.result _ _
    (λ rising h. subst (IsRisingOf (names_of rising.items)) c.self.view_is h)
    c.rising.ensures
