use Rattle.std.proofs.Common.{◌∙◌, ◌==◌, ap}
use Rattle.jc_base.proofs.texts.PlainNames.{plain_place}
use Rattle.jc_base.proofs.names.is_plain_byte.Goals as goal

pub returns : goal.returns
returns c = ap (λ place. place == 1) c.place_behind.ensures ∙ plain_place c.args.byte
