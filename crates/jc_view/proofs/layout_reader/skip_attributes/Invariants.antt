use Rattle.std.proofs.Common.{◌≡◌, ◌-◌}
use Rattle.jc_view.specs.Reading.{after_each, after_attribute, after_table}
use Rattle.jc_view.specs.Moves.{KeepsEnd}
use Rattle.jc_view.proofs.layout_reader.skip_attributes.Given as goal

abbrev pub invariant-loop : goal.invariant-loop
invariant-loop l = (after_each after_attribute (l.count - l.counter) l.cursor.rest ≡ after_table after_attribute l.fn.cursor.rest) × KeepsEnd l.fn.cursor l.cursor
