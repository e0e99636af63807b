use Rattle.std.proofs.Common.{arith}
use Rattle.std.proofs.lemmas.Grind.{common_steps}
use Rattle.jc_input.proofs.cutting.LinesCut.{kept}
use Rattle.jc_input.proofs.lines.Line.keep.Goals as goal

pub returns : goal.returns
returns c = grind (arith, common_steps, kept 8193 c.args.self.now c.args.bytes.now)
