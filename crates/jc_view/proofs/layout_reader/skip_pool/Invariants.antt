use Rattle.std.proofs.Common.{◌≡◌, ◌-◌}
use Rattle.jc_view.specs.Reading.{entries_from, with_front, pool_at}
use Rattle.jc_view.proofs.layout_reader.skip_pool.Given as goal

-- the places so far, and those of what is left, are those of all
abbrev pub invariant-loop-index : goal.invariant-loop-index
invariant-loop-index l = with_front l.offsets.items (entries_from (l.count - l.index) l.is_second l.cursor) ≡ pool_at l.count l.fn.cursor
