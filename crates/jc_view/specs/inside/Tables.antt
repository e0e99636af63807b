-- Tables that a cursor reads, and where the tables of a class file are.
use Rattle.std.specs.Prelude.{◌≡◌, ℕ, ◌+◌, List, length, drop, Option, Some, None, Ok, IsSome}
use Rattle.jc_base.specs.Cursor.{Reading, past}
use Rattle.jc_base.specs.Endian.{big_number}
use Rattle.jc_view.specs.declared.entries.Entries.{Entries}
use Rattle.jc_view.specs.declared.layout_reader.ClassParts.{ClassParts}
use Rattle.jc_view.specs.declared.layout_reader.ClassTables.{ClassTables}
use Rattle.jc_view.specs.declared.view.Version.{Version}
use Rattle.jc_view.specs.Reading.{after_each, each_value, fields_at, methods_at, attributes_at, head_at, pool_at}
use Rattle.jc_view.specs.Moves.{KeepsEnd}

-- the entries that are left
abbrev pub entries : {X : Type 0} → (List ℕ → Option (List ℕ)) → (List ℕ → X) → Entries → List X
entries after_one value t = each_value after_one value t.left t.cursor.rest

-- all entries that are left are whole
abbrev pub IsWhole : (List ℕ → Option (List ℕ)) → Entries → Type 0
IsWhole after_one t = IsSome (after_each after_one t.left t.cursor.rest)

-- Some: the table at the old place, and the cursor is at its end; None: the bytes end before the table does
abbrev pub LendsTable : (List ℕ → Option (List ℕ)) → Reading → Option Entries → Reading → Type 0
LendsTable after_it old None new = after_it old.rest ≡ None
LendsTable after_it old (Some t) new =
    (after_it old.rest ≡ Some new.rest) × KeepsEnd old new × (t.left ≡ big_number 2 old.rest) × (t.cursor ≡ past 2 old)

-- the table begins with its count at the front of these bytes, which end at the end of the file
pub record StandsAt (xs : List ℕ) (end : ℕ) (t : Entries) : Type 0 where
  pub count : t.left ≡ big_number 2 xs
  pub rest : t.cursor.rest ≡ drop 2 xs
  pub place : t.cursor.place + length xs ≡ end + 2

-- the version after the magic number
pub record HasVersion (old : Reading) (v : Version) : Type 0 where
  pub major : v.major ≡ big_number 2 (drop 6 old.rest)
  pub minor : v.minor ≡ big_number 2 (drop 4 old.rest)

-- the places of the four tables after the constants
pub record HasTables (tail : Reading) (t : ClassTables) : Type 0 where
  pub interfaces : StandsAt (drop 6 tail.rest) (tail.place + length tail.rest) t.interfaces
  pub fields : StandsAt (fields_at tail.rest) (tail.place + length tail.rest) t.fields
  pub methods : StandsAt (methods_at tail.rest) (tail.place + length tail.rest) t.methods
  pub attributes : StandsAt (attributes_at tail.rest) (tail.place + length tail.rest) t.attributes

-- the tables follow the constants, and the class file begins at the old place
pub record TablesAtTail (old : Reading) (p : ClassParts) : Type 0 where
  pub head : ℕ × Reading
  pub head_is : head_at old ≡ Ok head
  pub pool : List (Option ℕ) × Reading
  pub pool_is : pool_at head.0 head.1 ≡ Ok pool
  pub tail : p.tail ≡ pool.1.place
  pub tables : HasTables pool.1 p.tables
