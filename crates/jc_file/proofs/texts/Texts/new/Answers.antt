use Rattle.std.proofs.Common.{rules}
use Rattle.jc_file.proofs.sets.KnownTexts.{nothing_known}
use Rattle.jc_file.proofs.texts.Texts.new.Goals as goal

pub invariant_of-result : goal.invariant_of-result
invariant_of-result c =
    nothing_known c.args.class.now c.in_ok-known.known.items c.constant_count.result c.nothing.result (c.nothing.ensures c.args.class.now) (search rules)
