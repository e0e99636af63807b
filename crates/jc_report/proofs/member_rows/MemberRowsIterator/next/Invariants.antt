use Rattle.std.proofs.Common.{◌≡◌, length, map}
use Rattle.std.specs.Option.{option_map}
use Rattle.std.specs.Slice.Iter.{iter_rest}
use Rattle.jc_classes.specs.Lent.{key_lent}
use Rattle.jc_report.specs.inside.MemberRows.{key_row, keys_after, open_keys}
use Rattle.jc_report.proofs.member_rows.MemberRowsIterator.next.Given as goal

-- the rows that are left stay the same
abbrev pub invariant-loop-number : goal.invariant-loop-number
invariant-loop-number l =
    map (key_row l.self-inside.facts.now.name l.self-inside.kind) (keys_after (option_map key_lent l.self-inside.last) (open_keys l.self-inside.kind l.self-inside.facts.now (iter_rest l.self-inside.order)))
    ≡ map (key_row l.initial.self-inside.facts.now.name l.initial.self-inside.kind) (keys_after (option_map key_lent l.initial.self-inside.last) (open_keys l.initial.self-inside.kind l.initial.self-inside.facts.now (iter_rest l.initial.self-inside.order)))

abbrev pub decreases-loop-number : goal.decreases-loop-number
decreases-loop-number l = length (iter_rest l.self-inside.order)
