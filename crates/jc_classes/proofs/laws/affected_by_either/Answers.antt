use Rattle.jc_classes.proofs.worlds.Parts.{hits_either}
use Rattle.jc_classes.proofs.laws.affected_by_either.Goals as goal

pub returns : goal.returns
returns c = λ t m k d g h. hits_either t m k d g h
