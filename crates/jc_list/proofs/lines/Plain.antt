-- An instruction that is no switch has no lines of one.
use Rattle.std.proofs.Common.{◌≡◌, [], refl}
use Rattle.jc_code.specs.declared.insn.Insn.{Insn}
use Rattle.jc_code.specs.declared.insn.Insn.TheVariants as insns
use Rattle.jc_code.specs.Switches.{TableSwitch, LookupSwitch}
use Rattle.jc_list.specs.InsnLines.{switch_lines}

pub no_switch : (insn : Insn) → ((x : TableSwitch) → insn ≡ insns.TableSwitch x → ⊥) → ((x : LookupSwitch) → insn ≡ insns.LookupSwitch x → ⊥) → switch_lines insn ≡ []
no_switch (insns.TableSwitch x) no_table no_lookup = absurd (no_table x refl)
no_switch (insns.LookupSwitch x) no_table no_lookup = absurd (no_lookup x refl)
no_switch (insns.Plain opcode) no_table no_lookup = refl
no_switch (insns.Push opcode value) no_table no_lookup = refl
no_switch (insns.Ldc opcode index) no_table no_lookup = refl
no_switch (insns.Local opcode index is_wide) no_table no_lookup = refl
no_switch (insns.Increment index amount is_wide) no_table no_lookup = refl
no_switch (insns.Branch opcode target) no_table no_lookup = refl
no_switch (insns.Field opcode index) no_table no_lookup = refl
no_switch (insns.Invoke opcode index) no_table no_lookup = refl
no_switch (insns.InvokeInterface index count last) no_table no_lookup = refl
no_switch (insns.InvokeDynamic index last) no_table no_lookup = refl
no_switch (insns.Type opcode index) no_table no_lookup = refl
no_switch (insns.NewArray element) no_table no_lookup = refl
no_switch (insns.MultiNewArray index dimensions) no_table no_lookup = refl
