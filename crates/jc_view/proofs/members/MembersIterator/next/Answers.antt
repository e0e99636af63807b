use Rattle.std.proofs.Common.{◌≡◌, [], ◌∷◌, length, rules, refl, sym, ap, ◌∙◌}
use Rattle.jc_view.specs.Places.{PlacedMember}
use Rattle.jc_view.specs.Reading.{after_member, member_value, each_value}
use Rattle.jc_view.specs.Lent.{MembersLeft}
use Rattle.jc_view.specs.inside.Entries.{placed_member, placed_members}
use Rattle.jc_view.proofs.places.Entries.{none_left, one_is_there, IsStep, step, members_step, no_members, placed_first_member}
use Rattle.jc_view.proofs.members.MembersIterator.next.Goals as goal

pub returns-in_err-self-inside-clause-steps : goal.returns-in_err-self-inside-clause-steps
returns-in_err-self-inside-clause-steps c =
    let t = c.self.inside.table in
    let none : c.args.self.now.left ≡ [] =
    ap (λ (s : MembersLeft). s.left) (sym c.self.view_is) ∙ no_members c.self.inside.holder t.cursor.place (each_value after_member member_value t.left t.cursor.rest) (none_left after_member member_value t.left t.cursor.rest c.in_err-self-inside.ensures) in
    rw c.from_residual.ensures (refl, (none, none))

-- a member that is left is whole
never_cut : (c : goal.After-from_residual-in_err-entry) → ⊥
never_cut c = one_is_there after_member member_value c.self.inside.table.left c.self.inside.table.cursor.rest c.in_ok-self-inside.ensures.0 c.self.invariant c.in_err-entry.ensures

pub invariant_of-self : goal.invariant_of-self
invariant_of-self c = absurd (never_cut c)

pub returns-in_err-entry-clause-steps : goal.returns-in_err-entry-clause-steps
returns-in_err-entry-clause-steps c = absurd (never_cut c)

one_step : (c : goal.After-result-1) → IsStep after_member member_value c.self.inside.table.left c.in_ok-self-inside.field-0 c.self.inside.table.cursor.rest c.read_member.new.cursor.rest
one_step c =
    step after_member member_value c.self.inside.table.left c.in_ok-self-inside.field-0 c.self.inside.table.cursor.rest c.read_member.new.cursor.rest c.in_ok-self-inside.ensures.0 c.in_ok-self-inside.ensures.1 c.self.invariant c.in_ok-entry.ensures.0

pub invariant_of-self-2 : goal.invariant_of-self-2
invariant_of-self-2 c = (one_step c).whole

-- the member that was read, and those that are left
first : (c : goal.After-result-1) → c.args.self.now.left ≡ placed_member c.self.inside.holder c.in_ok-entry.entry ∷ placed_members c.self.inside.holder (record { left = c.in_ok-self-inside.field-0; cursor = c.read_member.new.cursor })
first c =
    let read = c.in_ok-entry.ensures in
    let left = placed_members c.self.inside.holder (record { left = c.in_ok-self-inside.field-0; cursor = c.read_member.new.cursor }) in
    ap (λ (s : MembersLeft). s.left) (sym c.self.view_is)
    ∙ members_step c.self.inside.holder c.self.inside.table.left c.in_ok-self-inside.field-0 c.self.inside.table.cursor c.read_member.new.cursor (one_step c) read.0 read.1
    ∙ ap (λ (m : PlacedMember). m ∷ left) (placed_first_member c.self.inside.holder (sym read.3) (sym read.2))

pub returns-clause-steps : goal.returns-clause-steps
returns-clause-steps c =
    let class = ap (λ (s : MembersLeft). s.class) c.self.view_is in
    (class, (first c, class))

pub returns-clause-goes : goal.returns-clause-goes
returns-clause-goes c = let shorter = ap length (first c) in search rules
