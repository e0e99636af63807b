-- Which bytes are a readable class file, and why other bytes are refused.
use Rattle.std.specs.Prelude.{◌≡◌, ◌≢◌, ℕ, ◌+◌, ◌-◌, ◌<◌, ◌≤◌}
use Rattle.std.specs.Prelude.{◌⊎◌, List, ◌∷◌, ◌++◌, length, take, drop, Some}
use Rattle.std.specs.List.{flat_map, AllByRecursion}
use Rattle.jc_base.specs.Endian.{big_number}
use Rattle.jc_base.specs.Names.{IsClassName}
use Rattle.jc_view.specs.declared.constant_pool.ConstantIndex.{ConstantIndex}
use Rattle.jc_view.specs.declared.constant_pool.ConstantKind.{ConstantKind}
use Rattle.jc_view.specs.declared.parse_error.ParseError.{ParseError}
use Rattle.jc_view.specs.declared.parse_error.ParseError.TheVariants as errors
use Rattle.jc_view.specs.ConstantPool as pool
use Rattle.jc_view.specs.ConstantPool.{tag_of, constant_bytes, Constant, FitsConstant}
use Rattle.jc_view.specs.ClassFile.{ClassFile, magic, layout, FitsClassFile, IsAcceptedVersion, all_slots, constant_at}

-- the bytes begin with the magic number, an accepted version and a constant_pool_count that is not 0
pub record HasHead (b : List ℕ) : Type 0 where
  pub long : 10 ≤ length b
  pub is_magic : big_number 4 b ≡ magic
  pub version : IsAcceptedVersion (big_number 2 (drop 6 b)) (big_number 2 (drop 4 b))
  pub count : big_number 2 (drop 8 b) ≢ 0

-- ---- refusals, by the contents of the bytes

-- these bytes, which begin at `place` of the file, are whole constants, then a byte at `at` of the file. There another
-- constant must begin, since the constants before it fill fewer than `indexes` indexes
pub record Owes (place : ℕ) (bytes : List ℕ) (indexes at : ℕ) : Type 0 where
  pub constants : List Constant
  pub whole : AllByRecursion FitsConstant constants
  pub tag : ℕ
  pub rest : List ℕ
  pub stand : bytes ≡ flat_map constant_bytes constants ++ tag ∷ rest
  pub here : at ≡ place + length (flat_map constant_bytes constants)
  -- the number of indexes that these constants leave unfilled
  pub left : ℕ
  pub one_at_least : 0 < left
  pub filled : all_slots constants + left ≡ indexes

-- no kind of constant has this tag
abbrev pub IsNoTag : ℕ → Type 0
IsNoTag tag = (kind : ConstantKind) → tag_of kind ≢ tag

-- the tag of a Long or of a Double
abbrev pub IsWideTag : ℕ → Type 0
IsWideTag tag = (tag ≡ 5) ⊎ (tag ≡ 6)

-- the number of indexes that the constants must fill: constant_pool_count - 1 (JVMS 4.1)
abbrev pub pool_size : List ℕ → ℕ
pool_size b = big_number 2 (drop 8 b) - 1

-- the bytes are the layout of this class file
pub record IsLayoutOf (c : ClassFile) (b : List ℕ) : Type 0 where
  pub fits : FitsClassFile c
  pub bytes : layout c ≡ b

-- the constant at this_class is a Class constant whose text is this name, a name of a class and not of an array
-- (JVMS 4.1, 4.2.1, 4.4.1)
pub record IsNamed (c : ClassFile) (name : List ℕ) : Type 0 where
  pub entry : ConstantIndex
  pub class : constant_at c c.this_class ≡ Some (pool.Class entry)
  pub text : constant_at c entry ≡ Some (pool.Utf8 name)
  pub class_name : IsClassName name

abbrev pub IsNameless : ClassFile → Type 0
IsNameless c = (name : List ℕ) → ¬ IsNamed c name

-- the bytes are the layout of a class file whose this_class names a class
abbrev pub IsReadable : List ℕ → Type 0
IsReadable b = (c : ClassFile) × IsLayoutOf c b × ((name : List ℕ) × IsNamed c name)

-- what the bytes contain if a refusal applies to them. At `Tag` and `Wide` a constant must begin at `at`, but no kind
-- has its tag, or it needs two indexes and one is left. `Trailing` applies if a proper beginning of length `at` is the
-- layout of a class file, and `Short` if no beginning is one
abbrev pub Applies : ParseError → List ℕ → Type 0
Applies errors.Magic b = (4 ≤ length b) × (big_number 4 b ≢ magic)
Applies errors.Version b = (8 ≤ length b) × ¬ IsAcceptedVersion (big_number 2 (drop 6 b)) (big_number 2 (drop 4 b))
Applies errors.Count b = (10 ≤ length b) × (big_number 2 (drop 8 b) ≡ 0)
Applies (errors.Tag at) b = (10 ≤ length b) × (o : Owes 10 (drop 10 b) (pool_size b) at) × IsNoTag o.tag
Applies (errors.Wide at) b = (10 ≤ length b) × (o : Owes 10 (drop 10 b) (pool_size b) at) × (o.left ≡ 1) × IsWideTag o.tag
Applies (errors.Trailing at) b = (at < length b) × (c : ClassFile) × IsLayoutOf c (take at b)
Applies errors.Short b = (at : ℕ) (c : ClassFile) → ¬ IsLayoutOf c (take at b)
Applies errors.NoName b = (c : ClassFile) × IsLayoutOf c b × IsNameless c
Applies errors.NoMemory b = ⊥

-- the number of a refusal; a refusal with a smaller number goes first
abbrev pub refusal_number : ParseError → ℕ
refusal_number errors.Magic = 1
refusal_number errors.Version = 2
refusal_number errors.Count = 3
refusal_number (errors.Tag at) = 4
refusal_number (errors.Wide at) = 5
refusal_number (errors.Trailing at) = 6
refusal_number errors.Short = 7
refusal_number errors.NoName = 8
refusal_number errors.NoMemory = 9

-- this refusal applies, and no refusal with a smaller number does
pub record IsRefusal (b : List ℕ) (e : ParseError) : Type 0 where
  pub applies : Applies e b
  pub first : (f : ParseError) → refusal_number f < refusal_number e → ¬ Applies f b
