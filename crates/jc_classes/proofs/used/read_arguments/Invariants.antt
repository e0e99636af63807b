use Rattle.std.proofs.Common.{◌≡◌, ◌-◌, ◌++◌}
use Rattle.std.specs.List.{flat_map}
use Rattle.jc_view.specs.Attributes.{Bootstrap}
use Rattle.jc_view.specs.Reading.{after_each, each_value, after_table, table_value}
use Rattle.jc_view.specs.Moves.{KeepsEnd}
use Rattle.jc_view.specs.AttributeReading.{after_bootstrap, bootstrap_value}
use Rattle.jc_classes.proofs.used.read_arguments.Given as goal

-- with the arguments of the methods that are left
abbrev pub invariant-loop : goal.invariant-loop
invariant-loop l =
    (after_each after_bootstrap (l.count - l.counter) l.cursor.rest ≡ after_table after_bootstrap l.fn.cursor.rest)
    × KeepsEnd l.fn.cursor l.cursor
    × (l.arguments.items ++ flat_map (λ (m : Bootstrap). m.arguments) (each_value after_bootstrap bootstrap_value (l.count - l.counter) l.cursor.rest)
    ≡ flat_map (λ (m : Bootstrap). m.arguments) (table_value after_bootstrap bootstrap_value l.fn.cursor.rest))
