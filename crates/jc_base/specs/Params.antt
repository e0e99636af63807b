-- The parameters that the iterator over a method descriptor has left.
use Rattle.std.specs.Prelude.{ℕ, List}
use Rattle.jc_base.specs.declared.descriptors.Params.{Params}
use Rattle.jc_base.specs.FieldsInFront.{fields_of}

-- the descriptors that are left
abbrev pub params_left : Params → List (List ℕ)
params_left params = fields_of params.rest.now
