-- What is known of a class that asks.
use Rattle.std.proofs.Common.{◌≡◌, true, refl}
use Rattle.std.proofs.lemmas.Bool.{false≢true}
use Rattle.jc_numbered.specs.declared.loads.Load.{Load}
use Rattle.jc_numbered.specs.declared.loads.Load.TheVariants as load
use Rattle.jc_numbered.specs.inside.Indexed.{good_at}
use Rattle.jc_numbered.specs.inside.Loading.{load_at}
use Rattle.jc_resolve.specs.declared.look.Look.{Look}
use Rattle.jc_resolve.specs.inside.Looks.{reach_of}
use Rattle.jc_resolve.specs.inside.Resolved.{has_loaded}

loaded_is : (l : Load) → has_loaded l ≡ true → l ≡ load.Loaded
loaded_is load.Loaded e = refl
loaded_is load.Outside e = absurd (false≢true e)
loaded_is (load.Fails f v) e = absurd (false≢true e)

pub asker_loaded : (l : Look) → load_at l.loads.now l.class ≡ load.Loaded
asker_loaded l = loaded_is (load_at l.loads.now l.class) l.loaded

pub asker_good : (l : Look) → good_at (reach_of l) l.class ≡ true
asker_good l = l.good l.class (asker_loaded l)
