use Rattle.std.proofs.Common.{◌≡◌, ◌/◌, length, drop, ap, ◌∙◌, arith}
use Rattle.std.proofs.lemmas.List.{length-drop}
use Rattle.jc_view.specs.Reading.{after, after_each}
use Rattle.jc_code.specs.inside.Decoding.{lookup_count}
use Rattle.jc_code.proofs.decoding.SwitchSizes.{table_is_whole}
use Rattle.jc_code.proofs.switch.LookupSwitch.cases.Goals as goal

pub invariant_of-result : goal.invariant_of-result
invariant_of-result c =
    let bytes = c.self.inside.bytes.now in
    let table = c.split_at.result.1.now in
    let is_table : table ≡ drop 8 bytes = c.split_at.ensures.back in
    let size = length-drop 8 bytes in
    let whole = table_is_whole 8 8 (lookup_count bytes) bytes (length table / 8) c.self.invariant.0 (λ n e. omega (arith, ap length is_table, size)) in
    ap (after_each (after 8) (length table / 8)) (c.new.ensures.rest ∙ is_table) ∙ whole
