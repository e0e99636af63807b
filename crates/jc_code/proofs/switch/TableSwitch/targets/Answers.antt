use Rattle.std.proofs.Common.{◌≡◌, ◌/◌, length, drop, ap, ◌∙◌, arith}
use Rattle.std.proofs.lemmas.List.{length-drop}
use Rattle.jc_view.specs.Reading.{after, after_each}
use Rattle.jc_code.specs.inside.Decoding.{table_count}
use Rattle.jc_code.proofs.decoding.SwitchSizes.{table_is_whole}
use Rattle.jc_code.proofs.switch.TableSwitch.targets.Goals as goal

pub invariant_of-result : goal.invariant_of-result
invariant_of-result c =
    let bytes = c.self.inside.bytes.now in
    let table = c.split_at.result.1.now in
    let is_table : table ≡ drop 12 bytes = c.split_at.ensures.back in
    let size = length-drop 12 bytes in
    let whole = table_is_whole 12 4 (table_count bytes) bytes (length table / 4) c.self.invariant.0 (λ n e. omega (arith, ap length is_table, size)) in
    ap (after_each (after 4) (length table / 4)) (c.new.ensures.rest ∙ is_table) ∙ whole
