-- The constant that is read at a place.
use Rattle.std.specs.Prelude.{ℕ, List, Option, Some, option_and_then, slice_get}
use Rattle.jc_base.specs.Endian.{big_number}
use Rattle.jc_view.specs.declared.constant_pool.ConstantKind.{ConstantKind}
use Rattle.jc_view.specs.ConstantPool.{Constant, kind_of_tag}
use Rattle.jc_view.specs.Reading.{after, after_body, body_value}

infixl 10 ◌>>=◌
abbrev ◌>>=◌ : {A B : Type 0} → Option A → (A → Option B) → Option B
o >>= f = option_and_then f o

-- the constant at a place, if it is whole
unfoldable pub constant_read : ℕ → List ℕ → Option Constant
constant_read place bytes = do
  front ← after place bytes
  body ← after 1 front
  kind ← kind_of_tag (big_number 1 front)
  rest ← after_body kind body
  Some (body_value kind body)

-- the kind of the constant at a place, by its tag
abbrev pub kind_read : ℕ → List ℕ → Option ConstantKind
kind_read place bytes = option_and_then kind_of_tag (slice_get bytes place)
