use Rattle.std.proofs.Common.{◌≡◌, take}
use Rattle.std.specs.List.{list_all}
use Rattle.jc_text.specs.Escapes.{is_plain}
use Rattle.jc_text.proofs.escapes.are_plain.Given as goal

-- so far
abbrev pub invariant-loop-byte : goal.invariant-loop-byte
invariant-loop-byte l = l.plain ≡ list_all is_plain (take l.byte-index l.text)
