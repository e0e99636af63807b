use Rattle.std.proofs.Common.{length, sym, ap, ◌∙◌}
use Rattle.jc_view.specs.Reading.{after}
use Rattle.jc_code.specs.InsnReading.{target_value}
use Rattle.jc_code.proofs.decoding.Tables.{length-each}
use Rattle.jc_code.proofs.switch.Targets.len.Goals as goal

pub returns : goal.returns
returns c = sym (length-each (after 4) (target_value c.self.inside.place) c.self.inside.left c.self.inside.cursor.rest) ∙ ap (λ t. length t.left) c.self.view_is
