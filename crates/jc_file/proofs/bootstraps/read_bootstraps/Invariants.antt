use Rattle.std.proofs.Common.{◌≡◌, ◌-◌, ◌&&◌}
use Rattle.std.specs.List.{list_all}
use Rattle.jc_view.specs.Reading.{after_each, each_value, after_table, table_value}
use Rattle.jc_view.specs.Moves.{KeepsEnd}
use Rattle.jc_view.specs.AttributeReading.{after_bootstrap, bootstrap_value}
use Rattle.jc_file.specs.FormatRules.{is_bootstrap}
use Rattle.jc_file.proofs.bootstraps.read_bootstraps.Given as goal

-- all are, if those so far and those that are left are
abbrev pub invariant-loop : goal.invariant-loop
invariant-loop l =
    (after_each after_bootstrap (l.count - l.counter) l.cursor.rest ≡ after_table after_bootstrap l.fn.cursor.rest)
    × KeepsEnd l.fn.cursor l.cursor
    × (l.all && list_all (is_bootstrap l.class) (each_value after_bootstrap bootstrap_value (l.count - l.counter) l.cursor.rest) ≡ list_all (is_bootstrap l.class) (table_value after_bootstrap bootstrap_value l.fn.cursor.rest))
