use Rattle.jc_code.proofs.decoding.Standing.{code_is_read}
use Rattle.jc_code.proofs.laws.codes_are_read.Goals as goal

pub returns : goal.returns
returns c = λ code bytes. code_is_read code bytes
