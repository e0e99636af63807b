use Rattle.jc_classes.proofs.worlds.Parts.{reach_there, reach_back, part_there, part_back}
use Rattle.jc_classes.proofs.laws.locality.Goals as goal

pub returns : goal.returns
returns c = λ t m k d g a. (λ n. (reach_there t m k d g a, reach_back t m k d g a), λ p. (part_there t m k d g a p, part_back t m k d g a p))
