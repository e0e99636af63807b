use Rattle.std.proofs.Common.{ap}
use Rattle.std.specs.Option.{option_copied}
use Rattle.jc_linkage.proofs.new_parts.make_newcomer.Goals as goal

pub make_one-requires : goal.make_one-requires
make_one-requires c = c.requires c.in-Some.name.now (ap option_copied c.in-Some.is)
