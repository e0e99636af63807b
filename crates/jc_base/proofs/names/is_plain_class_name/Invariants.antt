use Rattle.std.proofs.Common.{◌≡◌, ◌<◌, ◌&&◌, ◌==◌, not, true, drop}
use Rattle.jc_base.specs.inside.PlainNames.{are_plain_parts}
use Rattle.jc_base.proofs.names.is_plain_class_name.Given as goal

-- what was passed and what is left decide
abbrev pub invariant-loop-byte : goal.invariant-loop-byte
invariant-loop-byte l = record {
  place : l.place < 3;
  left : (not (l.place == 2) && are_plain_parts (l.place == 0) (drop l.byte-index l.text)) ≡ are_plain_parts true l.text;
}
