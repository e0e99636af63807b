use Rattle.std.proofs.Common.{ℕ, List, ap, subst, ◌∙◌}
use Rattle.std.specs.List.{flat_map}
use Rattle.jc_view.proofs.reading.BigEndian.{IsBytes}
use Rattle.jc_code.specs.Switches.{CasesLeft}
use Rattle.jc_code.specs.Insns.{case_bytes}
use Rattle.jc_code.proofs.decoding.SwitchTables.{reads_case, table_bytes}
use Rattle.jc_code.proofs.switch.Cases.bytes.Goals as goal

pub returns : goal.returns
returns c =
    let inside = c.self.inside in
    let is_rest = c.as_bytes.ensures.same ∙ c.rest.ensures in
    let fits : IsBytes inside.cursor.rest = subst (λ (xs : List ℕ). IsBytes xs) is_rest c.as_bytes.ensures.bytes in
    is_rest
    ∙ table_bytes (reads_case inside.place) inside.left inside.cursor.rest fits c.self.invariant
    ∙ ap (λ (t : CasesLeft). flat_map (case_bytes t.place) t.left) c.self.view_is
