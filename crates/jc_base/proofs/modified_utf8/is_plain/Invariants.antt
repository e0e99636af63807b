use Rattle.std.proofs.Common.{◌≡◌, ◌&&◌, nat_lt, take}
use Rattle.std.specs.List.{list_all}
use Rattle.jc_base.proofs.modified_utf8.is_plain.Given as goal

-- so far
abbrev pub invariant-loop-byte : goal.invariant-loop-byte
invariant-loop-byte l = l.plain ≡ list_all (λ byte. nat_lt 0 byte && nat_lt byte 0x80) (take l.byte-index l.text)
