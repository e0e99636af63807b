-- How the instructions of a class use references: the instructions that may fail to link although a reference resolves.
use Rattle.std.specs.Prelude.{ℕ, ◌+◌, ◌==◌, List, [], ◌∷◌, ◌++◌, length, Option, option_map, if◌then◌else◌}
use Rattle.std.specs.List.{flat_map}
use Rattle.std.specs.Option.{option_map_or, option_to_list}
use Rattle.jc_view.specs.Attributes.{Code}
use Rattle.jc_view.specs.ClassFile.{ClassFile, Member}
use Rattle.jc_code.specs.declared.insn.Insn.{Insn}
use Rattle.jc_code.specs.declared.method_use.MethodUse.{MethodUse}
use Rattle.jc_code.specs.CodeFaults.{code_of_member, faults_of}
use Rattle.jc_code.specs.InsnReading.{insns_of}
use Rattle.jc_code.specs.Insns.{link_use}

-- how the instruction at a place of a method uses the reference that it names
abbrev pub use_at : ℕ → ℕ × Insn → Option MethodUse
use_at method item = option_map (λ u. record { method = method; place = item.0; kind = u.0; index = u.1 }) (link_use item.1)

-- the uses of several instructions, in their order
abbrev pub uses_among : ℕ → List (ℕ × Insn) → List MethodUse
uses_among method items = flat_map (λ item. option_to_list (use_at method item)) items

-- the uses of a code, if it has no fault
abbrev pub code_uses : ClassFile → ℕ → Code → List MethodUse
code_uses c method k = if length (faults_of c k) == 0 then uses_among method (insns_of k.code) else []

-- the uses of a method, if it has exactly one well-formed Code
abbrev pub method_uses : ClassFile → ℕ → Member → List MethodUse
method_uses c number m = option_map_or (code_uses c number) (code_of_member c m) []

-- the uses of methods, the first of which has this number
abbrev pub uses_from : ClassFile → ℕ → List Member → List MethodUse
uses_from c number [] = []
uses_from c number (m ∷ methods) = method_uses c number m ++ uses_from c (number + 1) methods

unfoldable pub uses : ClassFile → List MethodUse
uses c = uses_from c 0 c.methods
