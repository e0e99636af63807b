use Rattle.std.proofs.Common.{◌≡◌, take}
use Rattle.std.specs.List.{list_all}
use Rattle.jc_base.specs.inside.PlainNames.{is_plain_byte}
use Rattle.jc_base.proofs.names.are_plain.Given as goal

-- so far
abbrev pub invariant-loop-byte : goal.invariant-loop-byte
invariant-loop-byte l = l.are_plain ≡ list_all is_plain_byte (take l.byte-index l.text)
