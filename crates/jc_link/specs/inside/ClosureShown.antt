-- A closure by its fields.
use Rattle.std.specs.Prelude.{◌≡◌, length}
use Rattle.jc_classes.specs.NameLists.{IsRisingOf}
use Rattle.jc_link.specs.Closures.{Closure}
use Rattle.jc_link.specs.declared.closure.Closure.TheInside.{Inside}

abbrev pub closure_shown : Inside → Closure
closure_shown a = record { names = a.names; graph = a.graph }

pub record IsWhole (a : Inside) : Type 0 where
  pub one : length a.graph.classes ≡ 1
  pub rising : IsRisingOf a.names a.graph.names
