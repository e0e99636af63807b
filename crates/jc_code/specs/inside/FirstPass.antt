-- What one pass over the instructions of a code finds.
use Rattle.std.specs.Prelude.{◌≡◌, ℕ, Bool, cond, List, [], map}
use Rattle.std.specs.List.{flat_map}
use Rattle.std.specs.Option.{option_to_list}
use Rattle.jc_view.specs.declared.constant_pool.ConstantIndex.{ConstantIndex}
use Rattle.jc_code.specs.declared.method_use.MethodUse.{MethodUse}
use Rattle.jc_code.specs.declared.first_pass.FirstPass.{FirstPass}
use Rattle.jc_code.specs.declared.insn.Insn.{Insn}
use Rattle.jc_code.specs.CodeRules.{Scope}
use Rattle.jc_code.specs.Insns.{IsCode}
use Rattle.jc_code.specs.MethodUses.{use_at}
use Rattle.jc_code.specs.NamedConstants.{named_by_insn}
use Rattle.jc_code.specs.inside.Found.{faults_of_others, jumps_of}

-- the pass has the starts, the jumps and the other faults of the code's instructions
pub record IsFirstPass (s : Scope) (code : List ℕ) (pass : FirstPass) : Type 0 where
  pub items : List (ℕ × Insn)
  pub is_code : IsCode code items pass.end
  pub are_starts : pass.starts ≡ map (λ item. item.0) items
  pub are_jumps : pass.jumps.items ≡ jumps_of items
  pub are_faults : pass.found.items ≡ faults_of_others s items

-- the use of a reference by an instruction, and the constant that the instruction names, if they are wanted
abbrev pub use_if : (are_wanted : Bool) → ℕ → ℕ × Insn → List MethodUse
use_if are_wanted method item = cond are_wanted (option_to_list (use_at method item)) []

abbrev pub name_if : (are_wanted : Bool) → ℕ × Insn → List ConstantIndex
name_if are_wanted item = cond are_wanted (option_to_list (named_by_insn item.1)) []

-- the same for several instructions
abbrev pub uses_if : (are_wanted : Bool) → ℕ → List (ℕ × Insn) → List MethodUse
uses_if are_wanted method items = flat_map (use_if are_wanted method) items

abbrev pub named_if : (are_wanted : Bool) → List (ℕ × Insn) → List ConstantIndex
named_if are_wanted items = flat_map (name_if are_wanted) items
