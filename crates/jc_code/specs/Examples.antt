-- Examples of codes and their instructions.
use Rattle.std.specs.Prelude.{ℕ, pos, true, List, [], ◌∷◌}
use Rattle.jc_code.specs.declared.insn.Insn.{Insn}
use Rattle.jc_code.specs.Switches.{TableSwitch}
use Rattle.jc_code.specs.declared.insn.Insn.TheVariants as insns

-- aload_0, invokespecial #1, return
abbrev pub plain_code : List ℕ
plain_code = 0x2a ∷ 0xb7 ∷ 0 ∷ 1 ∷ 0xb1 ∷ []

abbrev pub plain_insns : List (ℕ × Insn)
plain_insns = (0, insns.Plain 0x2a) ∷ (1, insns.Invoke 0xb7 (record { 0 = 1 })) ∷ (4, insns.Plain 0xb1) ∷ []

-- nop, and the reserved opcode breakpoint, which a class file must not contain (JVMS 6.2)
abbrev pub cut_code : List ℕ
cut_code = 0 ∷ 0xca ∷ []

abbrev pub cut_insns : List (ℕ × Insn)
cut_insns = (0, insns.Plain 0) ∷ []

-- nop, and a tableswitch whose lowest value 3 is above its highest value 2
abbrev pub falling_code : List ℕ
falling_code = 0 ∷ 0xaa ∷ 0 ∷ 0 ∷ 0 ∷ 0 ∷ 0 ∷ 0x10 ∷ 0 ∷ 0 ∷ 0 ∷ 3 ∷ 0 ∷ 0 ∷ 0 ∷ 2 ∷ []

abbrev pub falling_insns : List (ℕ × Insn)
falling_insns = (0, insns.Plain 0) ∷ []

-- wide iload 1, pop, return
abbrev pub wide_code : List ℕ
wide_code = 0xc4 ∷ 0x15 ∷ 0 ∷ 1 ∷ 0x57 ∷ 0xb1 ∷ []

abbrev pub wide_insns : List (ℕ × Insn)
wide_insns = (0, insns.Local 0x15 1 true) ∷ (4, insns.Plain 0x57) ∷ (5, insns.Plain 0xb1) ∷ []

-- a tableswitch from 1 to 2, whose targets are the return after it
abbrev pub switch_code : List ℕ
switch_code =
    0xaa ∷ 0 ∷ 0 ∷ 0 ∷ 0 ∷ 0 ∷ 0 ∷ 0x18 ∷ 0 ∷ 0 ∷ 0 ∷ 1 ∷ 0 ∷ 0 ∷ 0 ∷ 2
    ∷ 0 ∷ 0 ∷ 0 ∷ 0x18 ∷ 0 ∷ 0 ∷ 0 ∷ 0x18 ∷ 0xb1 ∷ []

abbrev pub one_or_two : TableSwitch
one_or_two = record {
  default = pos 24;
  low = pos 1;
  high = pos 2;
  targets = record { place = 0; left = pos 24 ∷ pos 24 ∷ [] };
}

abbrev pub switch_insns : List (ℕ × Insn)
switch_insns = (0, insns.TableSwitch one_or_two) ∷ (24, insns.Plain 0xb1) ∷ []
