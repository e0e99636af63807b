use Rattle.std.proofs.Common.{◌≡◌, ◌∷◌, ap}
use Rattle.jc_text.specs.Escapes.{path_text}
use Rattle.jc_text.proofs.Sending.{none_sent, part_sent, all_sent}
use Rattle.jc_text.proofs.texts.PlainRuns.{plain_path_split, is_empty}
use Rattle.jc_text.proofs.text_writer.TextWriter.path.Goals as goal

pub loop-byte-init : goal.loop-byte-init
loop-byte-init g c = none_sent _ _ _ _

pub returns-in_default : goal.returns-in_default
returns-in_default g c =
    let split = plain_path_split c.loop-byte.left.now _ _ c.split_plain.ensures.plain c.split_plain.ensures.escaped in
    all_sent (part_sent c.loop-byte.invariant split c.text.ensures) (ap path_text (is_empty c.split_plain.result.1.now c.in_default.ensures.cases))

pub loop-byte-preserved : goal.loop-byte-preserved
loop-byte-preserved g c =
    let split = plain_path_split c.loop-byte.left.now _ _ c.split_plain.ensures.plain c.split_plain.ensures.escaped in
    let next : c.split_plain.result.1.now ≡ c.in-Some.byte.now ∷ c.in-Some.rest.now = c.in-Some.ensures.cases.0 in
    part_sent (part_sent c.loop-byte.invariant split c.text.ensures) (ap path_text next) c.path_byte.ensures
