use Rattle.std.proofs.Common.{ap}
use Rattle.jc_file.specs.AccessFlags.{class_flags}
use Rattle.jc_text.proofs.Sending.{◌⟫◌, sends_equal}
use Rattle.jc_list.specs.Texts.{flags_text}
use Rattle.jc_list.proofs.class_lines.write_flags_line.Goals as goal

pub returns : goal.returns
returns g c = c.text.ensures ⟫ sends_equal (ap (flags_text class_flags) c.flags.ensures) c.write_flags.ensures ⟫ c.text-2.ensures
