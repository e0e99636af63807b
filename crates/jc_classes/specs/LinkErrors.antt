-- Errors of instructions: a reference resolves, and an instruction that names it still does not link (JVMS 6.5).
use Rattle.jc_classes.specs.Worlds.{Stands as stands}
use Rattle.std.specs.Prelude.{ℕ, ◌==◌, Bool, ◌&&◌, ◌||◌, not, codes, List, [], ◌∷◌}
use Rattle.std.specs.Prelude.{Option, Some, None, option_and_then, slice_get, if◌then◌else◌}
use Rattle.std.specs.List.{flat_map}
use Rattle.std.specs.Option.{option_map_or, option_to_list}
use Rattle.jc_file.specs.AccessFlags.{abstract, final, has, interface, private, static}
use Rattle.jc_code.specs.declared.insn.LinkKind.{LinkKind}
use Rattle.jc_code.specs.declared.insn.LinkKind.TheVariants as kinds
use Rattle.jc_code.specs.declared.method_use.MethodUse.{MethodUse}
use Rattle.jc_classes.specs.Facts.{Facts, Member, Named, Reference}
use Rattle.jc_classes.specs.Names.{Name, same_name}
use Rattle.jc_classes.specs.Resolution.{Answer}
use Rattle.jc_classes.specs.Resolution.{Answer as answer}
use Rattle.jc_classes.specs.Worlds.{Stands, text_of}
use Rattle.jc_classes.specs.declared.linkage_error.LinkageError.{LinkageError}
use Rattle.jc_classes.specs.declared.linkage_error.LinkageError.TheVariants as errors

-- the class and the method of an instruction, and what its reference names
pub record Site : Type 0 where
  pub class : Name
  -- the name of the method
  pub method : Name
  pub named : Named

-- an error, and the class at fault
abbrev pub ErrorAt : Type 0
ErrorAt = LinkageError × Name

-- an error if its condition applies, and else the result of the conditions after it
abbrev pub line : Bool → LinkageError → Name → Option ErrorAt → Option ErrorAt
line applies error class behind = if applies then Some (error, class) else behind

-- Incompatible if the condition applies: the member is STATIC where it must not be, or the reverse. For invokeinterface
-- a PRIVATE method counts too
abbrev pub static_error : Bool → Name → Option ErrorAt → Option ErrorAt
static_error applies home behind = line applies errors.Incompatible home behind

-- IllegalAccess for a store into a FINAL field, unless the class of the instruction declares the field and its method
-- is named `initializer`
abbrev pub final_error : Site → List ℕ → Name → Member → Option ErrorAt
final_error s initializer home x =
    line (has x.flags final && not (same_name home s.class && same_name s.method initializer)) errors.IllegalAccess home None

abbrev pub is_init : Member → Bool
is_init x = same_name x.name (codes "<init>")

-- the error of an instruction, by its kind, at a member that the class `home` declares (JVMS 6.5)
abbrev pub member_error : Site → LinkKind → Name → Member → Option ErrorAt
member_error s kinds.GetStatic home x = static_error (not (has x.flags static)) home None
member_error s kinds.PutStatic home x = static_error (not (has x.flags static)) home (final_error s (codes "<clinit>") home x)
member_error s kinds.GetField home x = static_error (has x.flags static) home None
member_error s kinds.PutField home x = static_error (has x.flags static) home (final_error s (codes "<init>") home x)
member_error s kinds.InvokeSpecial home x =
    line (is_init x && not (same_name home (text_of s.named))) errors.NoMethod (text_of s.named)
    (static_error (has x.flags static) home None)
member_error s kinds.InvokeVirtual home x = static_error (has x.flags static) home None
member_error s kinds.InvokeStatic home x = static_error (not (has x.flags static)) home None
member_error s kinds.InvokeInterface home x = static_error (has x.flags static || has x.flags private) home None
member_error s kinds.New home x = None

-- the error of an instruction at a class with these access flags
abbrev pub class_error : LinkKind → Name → ℕ → Option ErrorAt
class_error kinds.New class flags = line (has flags interface || has flags abstract) errors.Instantiation class None
class_error kind class flags = None

-- the error of an instruction, by the answer to its reference. There is an error only if the reference resolves
abbrev pub link_error : Site → LinkKind → Answer → Option ErrorAt
link_error s kind (answer.ToClass class flags) = class_error kind class flags
link_error s kind (answer.ToMember home x) = member_error s kind home x
link_error s kind (answer.Outside n) = None
link_error s kind answer.NotLoaded = None
link_error s kind (answer.Error e n) = None

-- ---- the errors of all instructions of a class

-- an error at an instruction
pub record LinkError : Type 0 where
  -- the number of its method, and its offset from the start of the code
  pub method : ℕ
  pub place : ℕ
  pub error : LinkageError
  -- the class at fault
  pub class : Name

-- the reference of the constant at an index, and its answer
abbrev pub answered : ℕ → List Reference → List Answer → Option (Reference × Answer)
answered index [] answers = None
answered index (r ∷ rs) [] = None
answered index (r ∷ rs) (a ∷ answers) = if r.index == index then Some (r, a) else answered index rs answers

-- the name of the method with this number. The facts of a class without a format fault have all its methods, so the
-- number is that of the file
abbrev pub method_name : Facts → ℕ → Name
method_name f number = option_map_or (λ x. x.name) (slice_get f.methods number) []

abbrev pub site_of : Name → Facts → MethodUse → Reference → Site
site_of d f u r = record { class = d; method = method_name f u.method; named = r.named }

abbrev pub link_at : MethodUse → ErrorAt → LinkError
link_at u fault = record { method = u.method; place = u.place; error = fault.0; class = fault.1 }

-- the error of an instruction, by its reference and the answer to the reference
abbrev pub link_by : Name → Facts → MethodUse → Reference × Answer → Option LinkError
link_by d f u r = option_and_then (λ fault. Some (link_at u fault)) (link_error (site_of d f u r.0) u.kind r.1)

-- the error of an instruction
abbrev pub link_of : Name → Facts → List Answer → MethodUse → Option LinkError
link_of d f answers u = option_and_then (link_by d f u) (answered u.index f.references answers)

-- the errors of the instructions, by method, then by offset
abbrev pub links_in : Name → Facts → List Answer → List LinkError
links_in d f answers = flat_map (λ u. option_to_list (link_of d f answers u)) f.uses

-- the errors of the instructions of a class. A class that does not load has none, because all its answers are NotLoaded
abbrev pub links_of : Name → Stands → List Answer → List LinkError
links_of d (stands.Class f) answers = links_in d f answers
links_of d stands.Outside answers = []
links_of d stands.Absent answers = []
