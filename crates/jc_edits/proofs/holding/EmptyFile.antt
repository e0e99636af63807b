-- No bytes are no class file.
use Rattle.std.proofs.Common.{◌≡◌, [], Err, refl}
use Rattle.jc_view.specs.declared.parse_error.ParseError.TheVariants as errors
use Rattle.jc_view.specs.Outcome.{class_named}
use Rattle.jc_view.specs.Reading.{parts_at, head_at}

pub class_named-empty : class_named [] ≡ Err errors.Short
unfolding class_named parts_at head_at
class_named-empty = refl
