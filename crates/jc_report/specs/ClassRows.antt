-- The rows that a class provides and requires.
use Rattle.std.specs.Prelude.{Bool, true, false, ◌&&◌, ◌||◌, not, List, [], ◌∷◌, ◌++◌, map, codes, if◌then◌else◌}
use Rattle.std.specs.List.{filter}
use Rattle.jc_file.specs.AccessFlags.{has, protected, public}
use Rattle.jc_classes.specs.Facts.{Facts, Member, Reference}
use Rattle.jc_classes.specs.Loading.{Loading}
use Rattle.jc_classes.specs.Loading.{Loading as loading}
use Rattle.jc_classes.specs.Names.{Name, same_name}
use Rattle.jc_classes.specs.Parts.{Part}
use Rattle.jc_classes.specs.Resolution.{Answer}
use Rattle.jc_classes.specs.Resolution.{Answer as answer}
use Rattle.jc_classes.specs.Worlds.{key_of, text_of}
use Rattle.jc_classes.specs.declared.linkage_error.LinkageError.{LinkageError}
use Rattle.jc_classes.specs.declared.linkage_error.LinkageError.TheVariants as errors
use Rattle.jc_classes.specs.declared.reference.ReferenceKind.{ReferenceKind}
use Rattle.jc_classes.specs.declared.reference.ReferenceKind.TheVariants as kinds
use Rattle.jc_report.specs.Rows.{Row}

-- ---- what a class provides

-- a member is PUBLIC or PROTECTED, so classes of other packages may have access to it (JVMS 5.4.4)
abbrev pub is_open : Member → Bool
is_open m = has m.flags public || has m.flags protected

-- the same for a method that is not the class's initializer, which only the virtual machine calls (JVMS 2.9)
abbrev pub is_open_method : Member → Bool
is_open_method m = is_open m && not (same_name m.name (codes "<clinit>"))

abbrev pub class_row : Name → Row
class_row class = record { class = class; kind = kinds.Class; key = record { name = []; descriptor = [] } }

abbrev pub member_row : Name → ReferenceKind → Member → Row
member_row class kind m = record { class = class; kind = kind; key = key_of m }

abbrev pub is_loaded : Loading → Bool
is_loaded loading.Loaded = true
is_loaded loading.Outside = false
is_loaded (loading.Fails e x) = false

abbrev pub open_rows : Facts → List Row
open_rows f =
    class_row f.name ∷ map (member_row f.name kinds.Field) (filter is_open f.fields)
    ++ map (member_row f.name kinds.Method) (filter is_open_method f.methods)

-- a PUBLIC class that loads provides itself and its PUBLIC and PROTECTED members
abbrev pub provided_rows : Facts → Part → List Row
provided_rows f p = if is_loaded p.load && has f.flags public then open_rows f else []

-- ---- what a class requires

-- look-up found no class, no field or no method (JVMS 5.4.3)
abbrev pub is_missing : LinkageError → Bool
is_missing errors.NoClass = true
is_missing errors.Format = false
is_missing errors.Circular = false
is_missing errors.Incompatible = false
is_missing errors.IllegalAccess = false
is_missing errors.NoField = true
is_missing errors.NoMethod = true
is_missing errors.Instantiation = false

-- the reference resolves outside, or its class or member is missing
abbrev pub is_required : Answer → Bool
is_required (answer.ToClass c flags) = false
is_required (answer.ToMember c x) = false
is_required (answer.Outside n) = true
is_required answer.NotLoaded = false
is_required (answer.Error e n) = is_missing e

abbrev pub reference_row : Reference → Row
reference_row r = record { class = text_of r.named; kind = r.kind; key = r.key }

abbrev pub rows_required : List Reference → List Answer → List Row
rows_required [] answers = []
rows_required (r ∷ rs) [] = []
rows_required (r ∷ rs) (a ∷ answers) = if is_required a then reference_row r ∷ rows_required rs answers else rows_required rs answers

-- the rows of the required references; a class that does not load has none, because all its answers are NotLoaded
abbrev pub required_rows : Facts → Part → List Row
required_rows f p = rows_required f.references p.answers
