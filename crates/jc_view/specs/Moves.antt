-- How a function that reads a part moves its cursor.
use Rattle.std.specs.Prelude.{◌≡◌, ℕ, ◌+◌, List, length, Option, Some, None}
use Rattle.jc_base.specs.Cursor.{Reading}

-- the bytes end at the same place as before, so the place moved by the number of bytes that were read
abbrev pub KeepsEnd : Reading → Reading → Type 0
KeepsEnd old new = new.place + length new.rest ≡ old.place + length old.rest

-- `Some` has the value of the part at the front of the bytes, and the cursor is after the part. `None` means that the
-- bytes do not begin with such a part
abbrev pub Lends : {X Y : Type 0} → (X → Y) → (List ℕ → Option (List ℕ)) → (List ℕ → Y)
    → Reading → Option X → Reading → Type 0
Lends view after_part value old None new = after_part old.rest ≡ None
Lends view after_part value old (Some x) new = (after_part old.rest ≡ Some new.rest) × KeepsEnd old new × (view x ≡ value old.rest)
