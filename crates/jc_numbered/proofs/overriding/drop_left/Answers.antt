use Rattle.std.proofs.Common.{sym, ap, ◌∙◌, refl}
use Rattle.jc_numbered.proofs.lookups.FinalSearchLemmas.{all_left, is_dropped, one_left}
use Rattle.jc_numbered.proofs.overriding.drop_left.Goals as goal
