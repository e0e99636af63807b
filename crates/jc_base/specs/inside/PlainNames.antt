-- Names of classes whose characters are all below 0x80.
use Rattle.std.specs.Prelude.{ℕ, Bool, not, ◌&&◌, ◌||◌, ◌==◌, nat_lt, List, [], ◌∷◌, if◌then◌else◌}

-- a character below 0x80 that an unqualified name may contain: not 0, and none of `.;[/`
abbrev pub is_plain_byte : ℕ → Bool
is_plain_byte c = nat_lt 0 c && nat_lt c 0x80 && not (c == 46) && not (c == 59) && not (c == 91) && not (c == 47)

-- a class name may have this character next, where a part begins or within a part
abbrev pub may_follow : Bool → ℕ → Bool
may_follow begins c = if c == 47 then not begins else is_plain_byte c

-- each character may follow, and no part is empty
abbrev pub are_plain_parts : Bool → List ℕ → Bool
are_plain_parts begins [] = not begins
are_plain_parts begins (c ∷ rest) = may_follow begins c && are_plain_parts (c == 47) rest

-- the state after a byte: 0 where a part begins, 1 within a part, 2 after bytes with which no such name begins
abbrev pub place_behind : ℕ → ℕ → ℕ
place_behind place c = if place == 2 || not (may_follow (place == 0) c) then 2 else if c == 47 then 0 else 1
