use Rattle.std.proofs.Common.{refl}
use Rattle.jc_view.specs.Reading.{each_value}
use Rattle.jc_code.specs.Opcodes.{groups, opcodes}
use Rattle.jc_code.specs.Examples.{plain_code, plain_insns, cut_code, cut_insns, falling_code, falling_insns, wide_code, wide_insns, switch_code, switch_insns}
use Rattle.jc_code.specs.InsnReading.{after_insn, insn_value, insns_within, end_within, insns_from, end_from}
use Rattle.jc_code.proofs.decoding.Standing.{is_code}
use Rattle.jc_code.proofs.laws.decoding_examples.Goals as goal

pub returns-clause-plain : goal.returns-clause-plain
unfolding insns_from end_from insns_within end_within after_insn insn_value groups opcodes
returns-clause-plain c = is_code plain_code plain_insns 5 refl refl refl

pub returns-clause-cut : goal.returns-clause-cut
unfolding insns_from end_from insns_within end_within after_insn insn_value groups opcodes
returns-clause-cut c = is_code cut_code cut_insns 1 refl refl refl

pub returns-clause-falling : goal.returns-clause-falling
unfolding insns_from end_from insns_within end_within after_insn insn_value groups opcodes
returns-clause-falling c = is_code falling_code falling_insns 1 refl refl refl

pub returns-clause-wide : goal.returns-clause-wide
unfolding insns_from end_from insns_within end_within after_insn insn_value groups opcodes
returns-clause-wide c = is_code wide_code wide_insns 6 refl refl refl

pub returns-clause-switch : goal.returns-clause-switch
unfolding insns_from end_from insns_within end_within after_insn insn_value each_value groups opcodes
returns-clause-switch c = is_code switch_code switch_insns 25 refl refl refl
