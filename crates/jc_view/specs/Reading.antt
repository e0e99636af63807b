-- What each step of `parse` reads from the front of the bytes. The contract of `parse` does not use these definitions.
use Rattle.std.specs.Prelude.{ℕ, zero, suc, ◌+◌, ◌-◌, ◌*◌, Bool, true, false, not, ◌&&◌}
use Rattle.std.specs.Prelude.{◌||◌, List, [], ◌∷◌, ◌++◌, length, take, drop, Option, Some, None}
use Rattle.std.specs.Prelude.{Result, Ok, Err, if◌then◌else◌, ◌==◌, nat_lt, unwrap_or, option_and_then}
use Rattle.std.specs.Option.{option_map_or}
use Rattle.jc_base.specs.Endian.{big_number}
use Rattle.jc_base.specs.Cursor.{Reading}
use Rattle.jc_view.specs.declared.constant_pool.ConstantIndex.{ConstantIndex}
use Rattle.jc_view.specs.declared.constant_pool.ConstantKind.{ConstantKind}
use Rattle.jc_view.specs.declared.constant_pool.ConstantKind.TheVariants as kinds
use Rattle.jc_view.specs.declared.parse_error.ParseError.{ParseError}
use Rattle.jc_view.specs.declared.parse_error.ParseError.TheVariants as errors
use Rattle.jc_view.specs.ConstantPool as pool
use Rattle.jc_view.specs.ConstantPool.{Constant, kind_of_tag, is_wide, index_value}
use Rattle.jc_view.specs.ClassFile.{Attribute, Member, ClassFile, magic}

-- ---- parts that can only be too short: the bytes that are left after one, and its value

-- the bytes that are left after n bytes; None if there are fewer
abbrev pub after : ℕ → List ℕ → Option (List ℕ)
after n xs = if nat_lt (length xs) n then None else Some (drop n xs)

-- the bytes that are left after a text and its length, which is a number of n bytes
abbrev pub after_sized : ℕ → List ℕ → Option (List ℕ)
after_sized n xs = option_and_then (after (big_number n xs)) (after n xs)

abbrev pub sized_value : ℕ → List ℕ → List ℕ
sized_value n xs = take (big_number n xs) (drop n xs)

-- the bytes that are left after n parts of one kind that follow each other
unfoldable pub after_each : (List ℕ → Option (List ℕ)) → ℕ → List ℕ → Option (List ℕ)
after_each after_one zero xs = Some xs
after_each after_one (suc n) xs = option_and_then (after_each after_one n) (after_one xs)

unfoldable pub each_value : {X : Type 0} → (List ℕ → Option (List ℕ)) → (List ℕ → X) → ℕ → List ℕ → List X
each_value after_one value zero xs = []
each_value after_one value (suc n) xs = value xs ∷ each_value after_one value n (unwrap_or (after_one xs) [])

-- the bytes that are left after a table and its count
abbrev pub after_table : (List ℕ → Option (List ℕ)) → List ℕ → Option (List ℕ)
after_table after_one xs = option_and_then (after_each after_one (big_number 2 xs)) (after 2 xs)

abbrev pub table_value : {X : Type 0} → (List ℕ → Option (List ℕ)) → (List ℕ → X) → List ℕ → List X
table_value after_one value xs = each_value after_one value (big_number 2 xs) (drop 2 xs)

unfoldable pub after_attribute : List ℕ → Option (List ℕ)
after_attribute xs = option_and_then (after_sized 4) (after 2 xs)

abbrev pub attribute_value : List ℕ → Attribute
attribute_value xs = record { name = index_value xs; bytes = sized_value 4 (drop 2 xs) }

unfoldable pub after_member : List ℕ → Option (List ℕ)
after_member xs = option_and_then (after_table after_attribute) (after 6 xs)

abbrev pub member_value : List ℕ → Member
member_value xs = record {
  flags = big_number 2 xs;
  name = index_value (drop 2 xs);
  descriptor = index_value (drop 4 xs);
  attributes = table_value after_attribute attribute_value (drop 6 xs);
}

-- the bytes that are left after a table of indexes and its count
abbrev pub after_indexes : List ℕ → Option (List ℕ)
after_indexes xs = option_and_then (after (2 * big_number 2 xs)) (after 2 xs)

abbrev pub after_members : List ℕ → Option (List ℕ)
after_members xs = after_table after_member xs

-- the bytes that are left after all parts that follow the constants
unfoldable pub after_tail : List ℕ → Option (List ℕ)
after_tail xs =
    option_and_then (after_table after_attribute)
    (option_and_then after_members
    (option_and_then after_members
    (option_and_then after_indexes
    (after 6 xs))))

-- of the bytes after the constants, those from the table of fields on; below, from that of methods and of attributes on
abbrev pub fields_at : List ℕ → List ℕ
fields_at xs = unwrap_or (after_indexes (drop 6 xs)) []

abbrev pub methods_at : List ℕ → List ℕ
methods_at xs = unwrap_or (after_members (fields_at xs)) []

abbrev pub attributes_at : List ℕ → List ℕ
attributes_at xs = unwrap_or (after_members (methods_at xs)) []

-- ---- constants

-- the number of bytes after the tag of a constant. That of a Utf8 depends on its text, and 0 is only a placeholder
abbrev pub body_size : ConstantKind → ℕ
body_size kinds.Utf8 = 0
body_size kinds.Integer = 4
body_size kinds.Float = 4
body_size kinds.Long = 8
body_size kinds.Double = 8
body_size kinds.Class = 2
body_size kinds.String = 2
body_size kinds.Fieldref = 4
body_size kinds.Methodref = 4
body_size kinds.InterfaceMethodref = 4
body_size kinds.NameAndType = 4
body_size kinds.MethodHandle = 3
body_size kinds.MethodType = 2
body_size kinds.InvokeDynamic = 4

abbrev pub after_body : ConstantKind → List ℕ → Option (List ℕ)
after_body kinds.Utf8 xs = after_sized 2 xs
after_body kind xs = after (body_size kind) xs

-- the constant of this kind whose bytes after the tag are at the front of these bytes
abbrev pub body_value : ConstantKind → List ℕ → Constant
body_value kinds.Utf8 xs = pool.Utf8 (sized_value 2 xs)
body_value kinds.Integer xs = pool.Integer (big_number 4 xs)
body_value kinds.Float xs = pool.Float (big_number 4 xs)
body_value kinds.Long xs = pool.Long (big_number 8 xs)
body_value kinds.Double xs = pool.Double (big_number 8 xs)
body_value kinds.Class xs = pool.Class (index_value xs)
body_value kinds.String xs = pool.String (index_value xs)
body_value kinds.Fieldref xs = pool.Fieldref (index_value xs) (index_value (drop 2 xs))
body_value kinds.Methodref xs = pool.Methodref (index_value xs) (index_value (drop 2 xs))
body_value kinds.InterfaceMethodref xs = pool.InterfaceMethodref (index_value xs) (index_value (drop 2 xs))
body_value kinds.NameAndType xs = pool.NameAndType (index_value xs) (index_value (drop 2 xs))
body_value kinds.MethodHandle xs = pool.MethodHandle (big_number 1 xs) (index_value (drop 1 xs))
body_value kinds.MethodType xs = pool.MethodType (index_value xs)
body_value kinds.InvokeDynamic xs = pool.InvokeDynamic (big_number 2 xs) (index_value (drop 2 xs))

-- the constant at the front of the bytes; without a known tag, an empty Utf8 as a placeholder
abbrev pub constant_value : List ℕ → Constant
constant_value xs = option_map_or (λ kind. body_value kind (drop 1 xs)) (kind_of_tag (big_number 1 xs)) (pool.Utf8 [])

-- the reading that has these bytes left
abbrev pub moved_to : Reading → List ℕ → Reading
moved_to reading rest = record { place = reading.place + length reading.rest - length rest; rest = rest }

infixl 10 ◌>>=◌
abbrev pub ◌>>=◌ : {A B : Type 0} → Result A ParseError → (A → Result B ParseError) → Result B ParseError
(Ok x) >>= f = f x
(Err e) >>= f = Err e

abbrev pub or_refusal : {A : Type 0} → Option A → ParseError → Result A ParseError
or_refusal None e = Err e
or_refusal (Some x) e = Ok x

abbrev pub unless : Bool → ParseError → Result (Unit {0}) ParseError
unless b e = if b then Err e else Ok tt

-- the kind of the constant at the front, and the reading after it. A Long or a Double must not be at the last index
unfoldable pub first_constant : Bool → Reading → Result (ConstantKind × Reading) ParseError
first_constant is_last reading = do
  body ← or_refusal (after 1 reading.rest) errors.Short
  kind ← or_refusal (kind_of_tag (big_number 1 reading.rest)) (errors.Tag reading.place)
  room ← unless (is_last && is_wide kind) (errors.Wide reading.place)
  rest ← or_refusal (after_body kind body) errors.Short
  Ok (kind, moved_to reading rest)

-- what is at an index: the place of its constant, if it has one, and whether the constant takes the next index too
pub record Entry : Type 0 where
  pub offset : Option ℕ
  pub is_wide : Bool

abbrev pub entry : Option ℕ × Bool → Entry
entry found = record { offset = found.0; is_wide = found.1 }

unfoldable pub entry_at : Bool → Bool → Reading → Result (Entry × Reading) ParseError
entry_at true is_last reading = Ok (record { offset = None; is_wide = false }, reading)
entry_at false is_last reading = do
  first ← first_constant is_last reading
  Ok (record { offset = Some reading.place; is_wide = is_wide first.0 }, first.1)

-- for each of n indexes, the place of its constant; the first index may be the second of a Long or a Double
unfoldable pub entries_from : ℕ → Bool → Reading → Result (List (Option ℕ) × Reading) ParseError
entries_from zero is_second reading = Ok ([], reading)
entries_from (suc left) is_second reading = do
  entry ← entry_at is_second (left == 0) reading
  others ← entries_from left entry.0.is_wide entry.1
  Ok (entry.0.offset ∷ others.0, others.1)

abbrev pub with_front : List (Option ℕ) → Result (List (Option ℕ) × Reading) ParseError
    → Result (List (Option ℕ) × Reading) ParseError
with_front front read = read >>= λ x. Ok (front ++ x.0, x.1)

-- the places of the constants of a pool with this count, by index
abbrev pub pool_at : ℕ → Reading → Result (List (Option ℕ) × Reading) ParseError
pool_at count reading = with_front (None ∷ []) (entries_from (count - 1) false reading)

-- ---- the class file

-- the constants that begin at these places of the bytes; None has no constant
abbrev pub constants_at : List ℕ → List (Option ℕ) → List Constant
constants_at bytes [] = []
constants_at bytes (None ∷ places) = constants_at bytes places
constants_at bytes (Some place ∷ places) = constant_value (drop place bytes) ∷ constants_at bytes places

-- the class file with these numbers and constants, whose other parts are at the front of the bytes
abbrev pub class_with : ℕ → ℕ → List Constant → List ℕ → ClassFile
class_with minor major constants xs = record {
  minor = minor;
  major = major;
  constants = constants;
  flags = big_number 2 xs;
  this_class = index_value (drop 2 xs);
  super_class = index_value (drop 4 xs);
  interfaces = table_value (after 2) index_value (drop 6 xs);
  fields = table_value after_member member_value (fields_at xs);
  methods = table_value after_member member_value (methods_at xs);
  attributes = table_value after_attribute attribute_value (attributes_at xs);
}

-- the class file in these bytes: its constants begin at these places, and its other parts at the place after them
unfoldable pub class_value : List ℕ → List (Option ℕ) → ℕ → ClassFile
class_value bytes places tail =
    class_with (big_number 2 (drop 4 bytes)) (big_number 2 (drop 6 bytes)) (constants_at bytes places) (drop tail bytes)

abbrev pub is_accepted : ℕ → ℕ → Bool
is_accepted major minor = major == 51 || (major == 52 && minor == 0)

-- constant_pool_count, and the reading after it
unfoldable pub head_at : Reading → Result (ℕ × Reading) ParseError
head_at reading = do
  behind_magic ← or_refusal (after 4 reading.rest) errors.Short
  right_magic ← unless (not (big_number 4 reading.rest == magic)) errors.Magic
  behind_minor ← or_refusal (after 2 behind_magic) errors.Short
  behind_major ← or_refusal (after 2 behind_minor) errors.Short
  right_version ← unless (not (is_accepted (big_number 2 behind_minor) (big_number 2 behind_magic))) errors.Version
  behind_count ← or_refusal (after 2 behind_major) errors.Short
  right_count ← unless (big_number 2 behind_major == 0) errors.Count
  Ok (big_number 2 behind_major, moved_to reading behind_count)

-- the numbers after the constants
pub record NumbersRead : Type 0 where
  pub flags : ℕ
  pub this_class : ConstantIndex
  pub super_class : ConstantIndex

abbrev pub numbers_value : List ℕ → NumbersRead
numbers_value xs = record { flags = big_number 2 xs; this_class = index_value (drop 2 xs); super_class = index_value (drop 4 xs) }

-- the numbers after the constants, if the bytes end after the last table
unfoldable pub last_at : Reading → Result (NumbersRead × Reading) ParseError
last_at reading = do
  rest ← or_refusal (after_tail reading.rest) errors.Short
  at_end ← unless (not (length rest == 0)) (errors.Trailing (moved_to reading rest).place)
  Ok (numbers_value reading.rest, moved_to reading rest)

-- for each index, the place of its constant; the place after the constants, and the numbers there
pub record PartsRead : Type 0 where
  pub places : List (Option ℕ)
  pub tail : ℕ
  pub numbers : NumbersRead

unfoldable pub parts_at : Reading → Result (PartsRead × Reading) ParseError
parts_at reading = do
  head ← head_at reading
  pool ← pool_at head.0 head.1
  last ← last_at pool.1
  Ok (record { places = pool.0; tail = pool.1.place; numbers = last.0 }, last.1)
