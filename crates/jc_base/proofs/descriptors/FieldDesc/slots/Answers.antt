use Rattle.std.proofs.Common.{rules}
use Rattle.jc_base.proofs.descriptors.FieldDesc.slots.Goals as goal

pub returns-then-is_wide : goal.returns-then-is_wide
returns-then-is_wide c = search rules
