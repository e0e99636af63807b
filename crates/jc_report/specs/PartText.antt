-- The lines of a class's part.
use Rattle.std.specs.Prelude.{ℕ, List, [], ◌∷◌, ◌++◌, codes, decimal}
use Rattle.std.specs.List.{flat_map}
use Rattle.jc_text.specs.Escapes.{shown}
use Rattle.jc_file.specs.declared.fault.Fault.{Fault}
use Rattle.jc_code.specs.declared.code_fault.CodeFault.{CodeFault}
use Rattle.jc_list.specs.FaultLines.{code_fault_line, format_line}
use Rattle.jc_classes.specs.declared.linkage_error.LinkageError.{LinkageError}
use Rattle.jc_classes.specs.declared.reference.ReferenceKind.{ReferenceKind}
use Rattle.jc_classes.specs.declared.reference.ReferenceKind.TheVariants as kinds
use Rattle.jc_classes.specs.LinkageErrors.{error_code, error_name}
use Rattle.jc_classes.specs.LinkErrors.{LinkError}
use Rattle.jc_classes.specs.Names.{Name}
use Rattle.jc_classes.specs.Facts.{Facts, Key, Reference}
use Rattle.jc_classes.specs.Worlds.{key_of, text_of}
use Rattle.jc_classes.specs.Loading.{Loading}
use Rattle.jc_classes.specs.Loading.{Loading as loading}
use Rattle.jc_classes.specs.Resolution.{Answer}
use Rattle.jc_classes.specs.Resolution.{Answer as answer}
use Rattle.jc_classes.specs.Parts.{Part}

-- ---- references

-- a field or method: its class, its name and its descriptor
abbrev pub member_text : Name → Key → List ℕ
member_text class key = shown class ++ codes "." ++ shown key.name ++ codes ":" ++ shown key.descriptor

abbrev pub kind_text : ReferenceKind → List ℕ
kind_text kinds.Class = codes "class"
kind_text kinds.Field = codes "field"
kind_text kinds.Method = codes "method"
kind_text kinds.InterfaceMethod = codes "imethod"

-- what a reference or a row names: a class by its name, or a field or method by its class, name and descriptor
abbrev pub named_text : ReferenceKind → Name → Key → List ℕ
named_text kinds.Class class key = shown class
named_text kinds.Field class key = member_text class key
named_text kinds.Method class key = member_text class key
named_text kinds.InterfaceMethod class key = member_text class key

abbrev pub reference_text : Reference → List ℕ
reference_text r = kind_text r.kind ++ codes " " ++ named_text r.kind (text_of r.named) r.key

-- ---- answers

-- an error: its number, its name, and the name of the class at fault
abbrev pub error_text : LinkageError → Name → List ℕ
error_text error name = codes "error " ++ decimal (error_code error) ++ codes " " ++ error_name error ++ codes " " ++ shown name

-- an answer; a member that is found is shown with the class that declares it
abbrev pub answer_text : Answer → List ℕ
answer_text (answer.ToClass class flags) = codes "To " ++ shown class
answer_text (answer.ToMember class x) = codes "To " ++ member_text class (key_of x)
answer_text (answer.Outside name) = codes "Outside " ++ shown name
answer_text answer.NotLoaded = codes "NotLoaded"
answer_text (answer.Error error name) = error_text error name

abbrev pub load_text : Loading → List ℕ
load_text loading.Loaded = codes "loaded"
load_text loading.Outside = codes "outside"
load_text (loading.Fails error name) = error_text error name

-- ---- lines

-- the first line of a part: the class, and how it loads
abbrev pub load_line : Name → Loading → List ℕ
load_line name load = codes "part " ++ shown name ++ codes ": " ++ load_text load ++ codes "\n"

abbrev pub format_fault_line : Fault → List ℕ
format_fault_line fault = codes "  " ++ format_line fault

-- the line of a fault of code, which is given with the number of its method
abbrev pub method_fault_line : ℕ × CodeFault → List ℕ
method_fault_line fault = codes "  " ++ code_fault_line fault

-- an instruction that does not link: the number of its method, its offset in the code, and its error
abbrev pub link_text : LinkError → List ℕ
link_text link =
    codes "link " ++ decimal link.method ++ codes " " ++ decimal link.place ++ codes " " ++ error_text link.error link.class ++ codes "\n"

abbrev pub link_line : LinkError → List ℕ
link_line link = codes "  " ++ link_text link

-- a reference and the answer to it
abbrev pub answered_text : Reference → Answer → List ℕ
answered_text r a = codes "#" ++ decimal r.index ++ codes " " ++ reference_text r ++ codes " -> " ++ answer_text a

abbrev pub answer_line : Reference → Answer → List ℕ
answer_line r a = codes "  " ++ answered_text r a ++ codes "\n"

-- a line for each reference and the answer to it
abbrev pub answer_lines : List Reference → List Answer → List ℕ
answer_lines [] answers = []
answer_lines (r ∷ rs) [] = []
answer_lines (r ∷ rs) (a ∷ answers) = answer_line r a ++ answer_lines rs answers

-- the lines of the part of the class with these facts: how it loads, its faults, its instructions that do not link, and
-- the answers to its references
unfoldable pub part_text : Facts → Part → List ℕ
part_text f p =
    load_line f.name p.load ++ flat_map format_fault_line p.format_faults ++ flat_map method_fault_line p.code_faults
    ++ flat_map link_line p.links ++ answer_lines f.references p.answers
