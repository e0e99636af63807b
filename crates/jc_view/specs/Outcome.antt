-- The class file and the class name that bytes have, or the refusal of the bytes, as functions.
use Rattle.std.specs.Prelude.{◌≡◌, ◌<◌, ℕ, List, slice_index, Option, Some}
use Rattle.std.specs.Prelude.{None, Result, Ok, if◌then◌else◌, option_and_then}
use Rattle.jc_base.specs.TextTests.{is_class_text}
use Rattle.jc_view.specs.declared.parse_error.ParseError.{ParseError}
use Rattle.jc_view.specs.declared.parse_error.ParseError.TheVariants as errors
use Rattle.jc_view.specs.ClassFile.{ClassFile, class_text_at}
use Rattle.jc_view.specs.Reading.{◌>>=◌, or_refusal, parts_at, class_value}
use Rattle.jc_view.specs.Refusal.{IsLayoutOf, IsNamed}

-- each number is below 256
abbrev pub AreBytes : List ℕ → Type 0
AreBytes b = (i : ℕ) → slice_index b i < 256

-- the bytes are a readable class file of the class with this name
abbrev pub NamesClass : List ℕ → List ℕ → Type 0
NamesClass b name = (c : ClassFile) × IsLayoutOf c b × IsNamed c name

-- the text, if it is the name of a class and not of an array (JVMS 4.2.1)
abbrev pub class_text : List ℕ → Option (List ℕ)
class_text name = if is_class_text name then Some name else None

-- the text of the Class constant at this_class, if it is the name of a class
unfoldable pub name_in : ClassFile → Option (List ℕ)
name_in c = option_and_then class_text (class_text_at c c.this_class)

-- the name of the class that the bytes are, or the first refusal that applies, as the law `outcomes_are_exact` says
unfoldable pub class_named : List ℕ → Result (List ℕ) ParseError
class_named b = do
  found ← parts_at (record { place = 0; rest = b })
  or_refusal (name_in (class_value b found.0.places found.0.tail)) errors.NoName

-- the class file that the bytes are if they are readable, or else the first refusal that applies
unfoldable pub class_read : List ℕ → Result ClassFile ParseError
class_read b = do
  found ← parts_at (record { place = 0; rest = b })
  name ← or_refusal (name_in (class_value b found.0.places found.0.tail)) errors.NoName
  Ok (class_value b found.0.places found.0.tail)

-- if the bytes are the layout of this class file, and this is its name, then `class_read` returns it
abbrev pub IsReadAs : List ℕ → ClassFile → List ℕ → Type 0
IsReadAs b c name = IsLayoutOf c b → IsNamed c name → class_read b ≡ Ok c
