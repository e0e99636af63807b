use Rattle.std.proofs.Common.{◌≡◌, ℕ, ◌∷◌, [], length, rules, refl, sym, ap, ◌∙◌, arith}
use Rattle.jc_base.proofs.Common.{same_pair}
use Rattle.jc_base.specs.Cursor.{Reading}
use Rattle.jc_code.specs.InsnsLeft.{InsnsLeft}
use Rattle.jc_code.specs.declared.insn.Insn.{Insn}
use Rattle.jc_code.specs.InsnReading.{insn_value, insns_from, end_from}
use Rattle.jc_code.proofs.decoding.Steps.{none_from, first_from, behind}
use Rattle.jc_code.proofs.insns.InsnsIterator.next.Goals as goal

abbrev left_at : Reading → InsnsLeft
left_at r = record { place = r.place; left = insns_from r.place r.rest; end = end_from r.place r.rest }

pub returns-in_err-insn-clause-steps : goal.returns-in_err-insn-clause-steps
returns-in_err-insn-clause-steps c =
    let ahead = c.fork-ahead.result in
    let view : left_at ahead ≡ c.args.self.now = ap left_at c.fork-ahead.ensures ∙ c.self.view_is in
    let none = none_from ahead.place ahead.rest c.in_err-insn.ensures in
    let left : c.args.self.now.left ≡ [] = sym (ap (λ (t : InsnsLeft). t.left) view) ∙ none.0 in
    let ended : c.args.self.now.place ≡ c.args.self.now.end = sym (ap (λ (t : InsnsLeft). t.place) view) ∙ sym none.1 ∙ ap (λ (t : InsnsLeft). t.end) view in
    rw c.from_residual.ensures (refl, (left, left, ended, ended))

pub returns-clause-steps : goal.returns-clause-steps
returns-clause-steps c =
    let ahead = c.fork-ahead.result in
    let new = c.read_insn.new.cursor in
    let view : left_at ahead ≡ c.args.self.now = ap left_at c.fork-ahead.ensures ∙ c.self.view_is in
    let first = first_from ahead.place ahead.rest new.rest c.in_ok-insn.ensures.0 in
    let keeps = c.in_ok-insn.ensures.1 in
    let place : behind ahead.place ahead.rest new.rest ≡ new.place = omega arith in
    let here : c.place-place.result ≡ ahead.place = c.place-place.ensures ∙ sym (ap (λ (r : Reading). r.place) c.fork-ahead.ensures) in
    let left =
    sym (ap (λ (t : InsnsLeft). t.left) view)
    ∙ first.0
    ∙ ap (λ (p : ℕ). (ahead.place, insn_value ahead.place ahead.rest) ∷ insns_from p new.rest) place
    ∙ ap (λ (item : ℕ × Insn). item ∷ insns_from new.place new.rest) (same_pair (sym here) (sym c.in_ok-insn.ensures.2)) in
    (ap (λ (p : ℕ). end_from p new.rest) (sym place) ∙ sym first.1 ∙ ap (λ (t : InsnsLeft). t.end) view, (left, here ∙ ap (λ (t : InsnsLeft). t.place) view))

pub returns-clause-goes : goal.returns-clause-goes
returns-clause-goes c = let shorter = ap length (returns-clause-steps c).1.0 in search rules
