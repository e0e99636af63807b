-- Numbered classes, with how each of them loads.
use Rattle.std.specs.Prelude.{◌≡◌, ℕ, Bool, List, length}
use Rattle.jc_graph.specs.Graph.{TellsCircular}
use Rattle.jc_numbered.specs.inside.Indexed.{Indexed}
use Rattle.jc_resolve.specs.inside.Gathered.{IsGathered}
use Rattle.jc_resolve.specs.inside.Resolved.{AreLoads, TellsGood}
use Rattle.jc_numbered.specs.declared.loads.Load.{Load}

pub record IsLoaded (count : ℕ) (x : Indexed) (loads : List Load) (circular : List Bool) : Type 0 where
  pub net : IsGathered count x
  pub loads_size : length loads ≡ count
  pub rings : TellsCircular x.supertypes count circular
  pub told : AreLoads count x loads
  pub good : TellsGood x loads
