-- Borrowed ABSTRACT methods as data.
use Rattle.std.specs.Prelude.{ℕ, ◌<◌, List, [], length, map, slice_get, slice_index_or}
use Rattle.std.specs.Option.{option_map_or}
use Rattle.std.specs.List.{Contains}
use Rattle.std.specs.declared.alloc.Global.{Global}
use Rattle.std.specs.declared.vec.Vec.{Vec}
use Rattle.jc_classes.specs.Inheritance.{Inherited}
use Rattle.jc_graph.specs.Graph.{successors_of}
use Rattle.jc_resolve.specs.declared.abstract_methods.AbstractMethod.{AbstractMethod}

-- the method, and the class that declares it
abbrev pub inherited_of : AbstractMethod → Inherited
inherited_of e = record { home = e.class.now; key = record { name = e.name.now; descriptor = e.descriptor.now } }

-- the method with this number
abbrev pub method_at : List AbstractMethod → ℕ → Inherited
method_at methods i = slice_index_or (map inherited_of methods) i (record { home = []; key = record { name = []; descriptor = [] } })

-- the methods of the list with this number
abbrev pub methods_in : List AbstractMethod → List (Vec ℕ Global) → ℕ → List Inherited
methods_in methods lists n = map (method_at methods) (successors_of lists n)

-- these lists have only numbers of methods
abbrev pub AreWithin : List AbstractMethod → List (Vec ℕ Global) → List ℕ → Type 0
AreWithin methods lists list_of = (n i : ℕ) → Contains list_of n → Contains (successors_of lists n) i → i < length methods

-- the numbers of the class at a place
abbrev pub numbers_at : List (Vec ℕ Global) → List ℕ → ℕ → List ℕ
numbers_at lists list_of place = option_map_or (successors_of lists) (slice_get list_of place) []
