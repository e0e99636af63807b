use Rattle.std.proofs.Common.{subst, sym}
use Rattle.std.specs.List.Sorted.{IsStrictlySortedBy}
use Rattle.jc_base.proofs.maps.FiniteMaps.{keys_rise}
use Rattle.jc_classes.specs.Names.{name_cmp}
use Rattle.jc_session.proofs.walk.class_files.Goals as goal

pub returns : goal.returns
returns g c = subst (IsStrictlySortedBy name_cmp) (sym c.in_ok-into_keys.ensures) (keys_rise _)
