use Rattle.std.proofs.Common.{◌≡◌, ◌∷◌, [], length, rules, refl, sym, ap, ◌∙◌}
use Rattle.jc_view.specs.Reading.{after, each_value}
use Rattle.jc_view.proofs.places.Entries.{none_left}
use Rattle.jc_code.specs.declared.switch.Case.{Case}
use Rattle.jc_code.specs.InsnReading.{case_value}
use Rattle.jc_code.proofs.decoding.Tables.{never_cut, next_entry, IsNext}
use Rattle.jc_code.proofs.switch.CasesIterator.next.Goals as goal

pub returns-in_err-self-inside-clause-steps : goal.returns-in_err-self-inside-clause-steps
returns-in_err-self-inside-clause-steps c =
    let none = sym (ap (λ t. t.left) c.self.view_is) ∙ none_left (after 8) (case_value c.self.inside.place) c.self.inside.left c.self.inside.cursor.rest c.in_err-self-inside.ensures in
    rw c.from_residual.ensures (refl, (none, none))

-- a case that is left is whole
cut : (c : goal.After-from_residual-in_err-case) → ⊥
cut c = never_cut (after 8) (case_value c.self.inside.place) c.self.inside.left c.self.inside.cursor.rest [] c.in_ok-self-inside.ensures.0 c.self.invariant c.in_err-case.ensures

pub invariant_of-self : goal.invariant_of-self
invariant_of-self c = absurd (cut c)

pub returns-in_err-case-clause-steps : goal.returns-in_err-case-clause-steps
returns-in_err-case-clause-steps c = absurd (cut c)

-- the case that was read, and those that are left
next_is : (c : goal.In_ok-case) → IsNext (after 8) (case_value c.self.inside.place) c.self.inside.left c.in_ok-self-inside.field-0 c.self.inside.cursor.rest c.read_case.new.cursor.rest []
next_is c = next_entry (after 8) (case_value c.self.inside.place) c.self.inside.left c.in_ok-self-inside.field-0 c.self.inside.cursor.rest c.read_case.new.cursor.rest [] c.in_ok-self-inside.ensures.0 c.in_ok-self-inside.ensures.1 c.self.invariant c.in_ok-case.ensures.0

pub invariant_of-self-2 : goal.invariant_of-self-2
invariant_of-self-2 c = (next_is c).whole

first : (c : goal.In_ok-case) → c.args.self.now.left ≡ c.in_ok-case.case ∷ each_value (after 8) (case_value c.self.inside.place) c.in_ok-self-inside.field-0 c.read_case.new.cursor.rest
first c =
    let left = each_value (after 8) (case_value c.self.inside.place) c.in_ok-self-inside.field-0 c.read_case.new.cursor.rest in
    sym (ap (λ t. t.left) c.self.view_is) ∙ (next_is c).entries ∙ ap (λ (x : Case). x ∷ left) (sym c.in_ok-case.ensures.2)

pub returns-clause-steps : goal.returns-clause-steps
returns-clause-steps c = (ap (λ t. t.place) c.self.view_is, first c)

pub returns-clause-goes : goal.returns-clause-goes
returns-clause-goes c = let shorter = ap length (first c) in search rules
