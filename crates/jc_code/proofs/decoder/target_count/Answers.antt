use Rattle.std.proofs.Common.{rules}
use Rattle.jc_code.proofs.decoder.target_count.Goals as goal

pub returns-then-low-high : goal.returns-then-low-high
returns-then-low-high c = search rules
