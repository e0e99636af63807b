-- Access flags (JVMS 4.1, 4.5, 4.6). Other bits have no meaning.
use Rattle.std.specs.Prelude.{ℕ, Bool, not, ◌&&◌, ◌||◌, bit_and, ◌==◌, List, [], ◌∷◌, codes}
use Rattle.jc_file.specs.declared.access_flag.AccessFlag.{AccessFlag}
use Rattle.jc_file.specs.declared.access_flag.AccessFlag.TheVariants as flags

abbrev pub public : ℕ
public = 0x0001

abbrev pub private : ℕ
private = 0x0002

abbrev pub protected : ℕ
protected = 0x0004

abbrev pub static : ℕ
static = 0x0008

abbrev pub final : ℕ
final = 0x0010

-- a flag of classes
abbrev pub super : ℕ
super = 0x0020

-- a flag of methods
abbrev pub synchronized : ℕ
synchronized = 0x0020

-- a flag of fields
abbrev pub volatile : ℕ
volatile = 0x0040

-- a flag of methods
abbrev pub bridge : ℕ
bridge = 0x0040

-- a flag of fields
abbrev pub transient : ℕ
transient = 0x0080

-- a flag of methods
abbrev pub varargs : ℕ
varargs = 0x0080

abbrev pub native : ℕ
native = 0x0100

abbrev pub interface : ℕ
interface = 0x0200

abbrev pub abstract : ℕ
abstract = 0x0400

abbrev pub strict : ℕ
strict = 0x0800

abbrev pub synthetic : ℕ
synthetic = 0x1000

abbrev pub annotation : ℕ
annotation = 0x2000

abbrev pub enum : ℕ
enum = 0x4000

abbrev pub mask_of : AccessFlag → ℕ
mask_of flags.Public = public
mask_of flags.Private = private
mask_of flags.Protected = protected
mask_of flags.Static = static
mask_of flags.Final = final
mask_of flags.Super = super
mask_of flags.Synchronized = synchronized
mask_of flags.Volatile = volatile
mask_of flags.Bridge = bridge
mask_of flags.Transient = transient
mask_of flags.Varargs = varargs
mask_of flags.Native = native
mask_of flags.Interface = interface
mask_of flags.Abstract = abstract
mask_of flags.Strict = strict
mask_of flags.Synthetic = synthetic
mask_of flags.Annotation = annotation
mask_of flags.Enum = enum

abbrev pub flag_name : AccessFlag → List ℕ
flag_name flags.Public = codes "PUBLIC"
flag_name flags.Private = codes "PRIVATE"
flag_name flags.Protected = codes "PROTECTED"
flag_name flags.Static = codes "STATIC"
flag_name flags.Final = codes "FINAL"
flag_name flags.Super = codes "SUPER"
flag_name flags.Synchronized = codes "SYNCHRONIZED"
flag_name flags.Volatile = codes "VOLATILE"
flag_name flags.Bridge = codes "BRIDGE"
flag_name flags.Transient = codes "TRANSIENT"
flag_name flags.Varargs = codes "VARARGS"
flag_name flags.Native = codes "NATIVE"
flag_name flags.Interface = codes "INTERFACE"
flag_name flags.Abstract = codes "ABSTRACT"
flag_name flags.Strict = codes "STRICT"
flag_name flags.Synthetic = codes "SYNTHETIC"
flag_name flags.Annotation = codes "ANNOTATION"
flag_name flags.Enum = codes "ENUM"

-- the flag is set
abbrev pub has : ℕ → ℕ → Bool
has bits flag = not (bit_and bits flag == 0)

-- at least two of the three hold
abbrev pub two_of : Bool → Bool → Bool → Bool
two_of a b c = a && b || a && c || b && c

-- at least two of PUBLIC, PRIVATE and PROTECTED are set
abbrev pub has_two_accesses : ℕ → Bool
has_two_accesses bits = two_of (has bits public) (has bits private) (has bits protected)

-- ---- the flags that have a meaning, from the lowest bit to the highest

-- the flags of a class (JVMS 4.1)
abbrev pub class_flags : List AccessFlag
class_flags =
    flags.Public ∷ flags.Final ∷ flags.Super ∷ flags.Interface ∷ flags.Abstract
    ∷ flags.Synthetic ∷ flags.Annotation ∷ flags.Enum ∷ []

-- the flags of a field (JVMS 4.5, table 4.5-A)
abbrev pub field_flags : List AccessFlag
field_flags =
    flags.Public ∷ flags.Private ∷ flags.Protected ∷ flags.Static ∷ flags.Final
    ∷ flags.Volatile ∷ flags.Transient ∷ flags.Synthetic ∷ flags.Enum ∷ []

-- the flags of a method (JVMS 4.6, table 4.6-A)
abbrev pub method_flags : List AccessFlag
method_flags =
    flags.Public ∷ flags.Private ∷ flags.Protected ∷ flags.Static ∷ flags.Final ∷ flags.Synchronized ∷ flags.Bridge
    ∷ flags.Varargs ∷ flags.Native ∷ flags.Abstract ∷ flags.Strict ∷ flags.Synthetic ∷ []
