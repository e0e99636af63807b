-- The listing of a class file.
use Rattle.std.specs.Prelude.{ℕ, ◌≤◌, List, ◌++◌, length, take, Option, codes}
use Rattle.std.specs.Io.KnownBytes.{Appends}
use Rattle.std.specs.List.{flat_map}
use Rattle.jc_view.specs.ClassFile.{ClassFile}
use Rattle.jc_view.specs.Places.{attributes_in}
use Rattle.jc_file.specs.Faults.{faults}
use Rattle.jc_list.specs.ClassLines.{class_lines}
use Rattle.jc_list.specs.ConstantLines.{constant_lines}
use Rattle.jc_list.specs.AttributeLines.{attribute_lines}
use Rattle.jc_list.specs.MemberLines.{field_lines, method_lines}
use Rattle.jc_list.specs.FaultLines.{format_line, code_fault_line}
use Rattle.jc_code.specs.MethodFaults.{code_faults}

unfoldable pub listing : ClassFile → List ℕ
listing c =
    class_lines c ++ constant_lines c ++ field_lines c ++ method_lines c ++ flat_map (attribute_lines c (codes "")) (attributes_in c)
    ++ flat_map format_line (faults c) ++ flat_map code_fault_line (code_faults c)

-- a prefix of the text, or all of it, was appended to what is known to be written
abbrev pub WritesBeginning : Option (List ℕ) → Option (List ℕ) → List ℕ → Type 0
WritesBeginning old new text = (n : ℕ) × (n ≤ length text) × Appends old new (take n text)
