use Rattle.std.proofs.Common.{◌≡◌, ◌∷◌, length, rules, sym, ap, ◌∙◌}
use Rattle.jc_view.specs.Reading.{after, each_value}
use Rattle.jc_view.specs.Attributes.{Handler}
use Rattle.jc_view.specs.AttributeReading.{handler_value}
use Rattle.jc_view.specs.Lent.{handler_of}
use Rattle.jc_view.proofs.places.Entries.{none_left, one_is_there, step}
use Rattle.jc_view.proofs.code.HandlersIterator.next.Goals as goal

pub returns-in_err-self-inside-clause-steps : goal.returns-in_err-self-inside-clause-steps
returns-in_err-self-inside-clause-steps c =
    let none = sym c.self.view_is ∙ none_left (after 8) handler_value c.self.inside.table.left c.self.inside.table.cursor.rest c.in_err-self-inside.ensures in
    rw c.from_residual.ensures (none, none)

-- a handler that is left is whole
never_cut : (c : goal.After-from_residual-in_err-handler) → ⊥
never_cut c = one_is_there (after 8) handler_value c.self.inside.table.left c.self.inside.table.cursor.rest c.in_ok-self-inside.ensures.0 c.self.invariant c.in_err-handler.ensures

pub invariant_of-self : goal.invariant_of-self
invariant_of-self c = absurd (never_cut c)

pub returns-in_err-handler-clause-steps : goal.returns-in_err-handler-clause-steps
returns-in_err-handler-clause-steps c = absurd (never_cut c)

pub invariant_of-self-2 : goal.invariant_of-self-2
invariant_of-self-2 c =
    (step (after 8) handler_value c.self.inside.table.left c.in_ok-self-inside.field-0 c.self.inside.table.cursor.rest c.read_handler.new.cursor.rest c.in_ok-self-inside.ensures.0 c.in_ok-self-inside.ensures.1 c.self.invariant c.in_ok-handler.ensures.0).whole

-- the handler that was read, and those that are left
first : (c : goal.In_ok-handler) → c.args.self.now ≡ handler_of c.in_ok-handler.handler ∷ each_value (after 8) handler_value c.in_ok-self-inside.field-0 c.read_handler.new.cursor.rest
first c =
    let left = each_value (after 8) handler_value c.in_ok-self-inside.field-0 c.read_handler.new.cursor.rest in
    sym c.self.view_is
    ∙ (step (after 8) handler_value c.self.inside.table.left c.in_ok-self-inside.field-0 c.self.inside.table.cursor.rest c.read_handler.new.cursor.rest c.in_ok-self-inside.ensures.0 c.in_ok-self-inside.ensures.1 c.self.invariant c.in_ok-handler.ensures.0).entries
    ∙ ap (λ (h : Handler). h ∷ left) (sym c.in_ok-handler.ensures.2)

pub returns-clause-steps : goal.returns-clause-steps
returns-clause-steps c = first c

pub returns-clause-goes : goal.returns-clause-goes
returns-clause-goes c = let shorter = ap length (first c) in search rules
