use Rattle.std.specs.Prelude.{ℤ, pos, ◌+ℤ◌}
use mir.Syntax.{w32, w64}
use mir.Val.{SFits, of_z, to_z}
use Rattle.std.proofs.Common.{◌≡◌, ◌∷◌, [], length, rules, refl, sym, ap, ◌∙◌}
use Rattle.std.proofs.lemmas.Int.{to_z-of_z}
use Rattle.jc_view.specs.Reading.{after, each_value}
use Rattle.jc_view.proofs.places.Entries.{none_left}
use Rattle.jc_code.specs.InsnReading.{target_value}
use Rattle.jc_code.proofs.decoding.Tables.{never_cut, next_entry, IsNext}
use Rattle.jc_code.proofs.switch.TargetsIterator.next.Goals as goal

pub returns-in_err-self-inside-clause-steps : goal.returns-in_err-self-inside-clause-steps
returns-in_err-self-inside-clause-steps c =
    let none = sym (ap (λ t. t.left) c.self.view_is) ∙ none_left (after 4) (target_value c.self.inside.place) c.self.inside.left c.self.inside.cursor.rest c.in_err-self-inside.ensures in
    rw c.from_residual.ensures (refl, (none, none))

-- a target that is left is whole
cut : (c : goal.After-from_residual-in_err-offset) → ⊥
cut c = never_cut (after 4) (target_value c.self.inside.place) c.self.inside.left c.self.inside.cursor.rest [] c.in_ok-self-inside.ensures.0 c.self.invariant c.in_err-offset.ensures

pub invariant_of-self : goal.invariant_of-self
invariant_of-self c = absurd (cut c)

pub returns-in_err-offset-clause-steps : goal.returns-in_err-offset-clause-steps
returns-in_err-offset-clause-steps c = absurd (cut c)

-- the target that was read, and those that are left
next_is : (c : goal.After-target) → IsNext (after 4) (target_value c.self.inside.place) c.self.inside.left c.in_ok-self-inside.field-0 c.self.inside.cursor.rest c.read_int.new.cursor.rest []
next_is c = next_entry (after 4) (target_value c.self.inside.place) c.self.inside.left c.in_ok-self-inside.field-0 c.self.inside.cursor.rest c.read_int.new.cursor.rest [] c.in_ok-self-inside.ensures.0 c.in_ok-self-inside.ensures.1 c.self.invariant c.in_ok-offset.ensures.0

pub invariant_of-self-2 : goal.invariant_of-self-2
invariant_of-self-2 c = (next_is c).whole

-- the target that was read
read : (c : goal.After-target) → to_z w64 (of_z w64 c.target.result) ≡ target_value c.self.inside.place c.self.inside.cursor.rest
read c =
    let fits : SFits w64 c.target.result = search rules in
    let offset_fits : SFits w32 c.in_ok-offset.offset = search rules in
    to_z-of_z w64 c.target.result fits
    ∙ c.target.ensures
    ∙ ap (λ z. pos c.self.inside.place +ℤ z) (to_z-of_z w32 c.in_ok-offset.offset offset_fits ∙ c.in_ok-offset.ensures.2)

first : (c : goal.After-target) → c.args.self.now.left ≡ to_z w64 (of_z w64 c.target.result) ∷ each_value (after 4) (target_value c.self.inside.place) c.in_ok-self-inside.field-0 c.read_int.new.cursor.rest
first c =
    let left = each_value (after 4) (target_value c.self.inside.place) c.in_ok-self-inside.field-0 c.read_int.new.cursor.rest in
    sym (ap (λ t. t.left) c.self.view_is) ∙ (next_is c).entries ∙ ap (λ (z : ℤ). z ∷ left) (sym (read c))

pub returns-clause-steps : goal.returns-clause-steps
returns-clause-steps c = (ap (λ t. t.place) c.self.view_is, first c)

pub returns-clause-goes : goal.returns-clause-goes
returns-clause-goes c = let shorter = ap length (first c) in search rules
