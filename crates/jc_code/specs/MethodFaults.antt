-- The faults of the code of all methods of a class.
use Rattle.std.specs.Prelude.{ℕ, ◌+◌, List, [], ◌∷◌, ◌++◌, map}
use Rattle.std.specs.Option.{option_map_or}
use Rattle.jc_view.specs.ClassFile.{ClassFile, Member}
use Rattle.jc_code.specs.declared.code_fault.CodeFault.{CodeFault}
use Rattle.jc_code.specs.CodeFaults.{code_of_member, faults_of}

-- the faults of the code of a method, if it has exactly one well-formed Code
abbrev pub method_faults : ClassFile → Member → List CodeFault
method_faults c m = option_map_or (faults_of c) (code_of_member c m) []

-- these faults, each with the number of the method
abbrev pub numbered_faults : ClassFile → ℕ → Member → List (ℕ × CodeFault)
numbered_faults c number m = map (λ fault. (number, fault)) (method_faults c m)

-- the faults of methods, the first of which has this number
abbrev pub code_faults_from : ClassFile → ℕ → List Member → List (ℕ × CodeFault)
code_faults_from c number [] = []
code_faults_from c number (m ∷ methods) = numbered_faults c number m ++ code_faults_from c (number + 1) methods

unfoldable pub code_faults : ClassFile → List (ℕ × CodeFault)
code_faults c = code_faults_from c 0 c.methods
