use Rattle.jc_classes.proofs.worlds.Parts.{part_one}
use Rattle.jc_classes.proofs.laws.part_is_one.Goals as goal

pub returns : goal.returns
returns c = λ m d p q h k. part_one m d p q h k
