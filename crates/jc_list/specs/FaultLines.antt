-- A line for each fault of the format, and one for each fault of a method's code.
use Rattle.std.specs.Prelude.{ℕ, ◌==◌, Bool, not, ◌||◌, List, ◌++◌, length, codes, decimal}
use Rattle.jc_view.specs.ClassFile.{ClassFile}
use Rattle.jc_file.specs.declared.fault.Fault.{Fault}
use Rattle.jc_file.specs.FaultOrder as format
use Rattle.jc_file.specs.Faults.{faults}
use Rattle.jc_code.specs.declared.code_fault.CodeFault.{CodeFault}
use Rattle.jc_code.specs.CodeFaultOrder as code
use Rattle.jc_code.specs.MethodFaults.{code_faults}

abbrev pub format_line : Fault → List ℕ
format_line fault = codes "format F" ++ decimal (format.rule_number fault.rule) ++ codes " " ++ decimal fault.place ++ codes "\n"

-- the line of a code fault, by the number of the method
abbrev pub code_fault_line : ℕ × CodeFault → List ℕ
code_fault_line (number, fault) =
    codes "code S" ++ decimal (code.rule_number fault.rule) ++ codes " " ++ decimal number ++ codes " " ++ decimal fault.place ++ codes "\n"

-- whether a class has a fault of the format or a code fault
abbrev pub is_faulty : ClassFile → Bool
is_faulty c = not (length (faults c) == 0) || not (length (code_faults c) == 0)
