use Rattle.std.proofs.Common.{◌≡◌, ℕ, [], ◌∷◌, List, Option, map, length, rules, sym, ap, ◌∙◌}
use Rattle.std.specs.Option.{option_copied}
use Rattle.jc_view.specs.declared.constant_pool.ConstantIndex.{ConstantIndex}
use Rattle.jc_view.specs.ClassFile.{class_text_at}
use Rattle.jc_view.specs.Reading.{after, each_value}
use Rattle.jc_view.specs.ConstantPool.{index_value}
use Rattle.jc_view.specs.Lent.{interface_names}
use Rattle.jc_view.proofs.places.Entries.{none_left, one_is_there, IsStep, step}
use Rattle.jc_view.proofs.interfaces.InterfacesIterator.next.Goals as goal

pub returns-in_err-self-inside-clause-steps : goal.returns-in_err-self-inside-clause-steps
returns-in_err-self-inside-clause-steps c =
    let t = c.self.inside.table in
    let none : interface_names c.args.self.now ≡ [] =
    ap interface_names (sym c.self.view_is) ∙ ap (λ (left : List ConstantIndex). map (class_text_at c.self.inside.class.now) left) (none_left (after 2) index_value t.left t.cursor.rest c.in_err-self-inside.ensures) in
    rw c.from_residual.ensures (none, none)

-- an entry that is left is whole
never_cut : (c : goal.After-from_residual-in_err-index) → ⊥
never_cut c = one_is_there (after 2) index_value c.self.inside.table.left c.self.inside.table.cursor.rest c.in_ok-self-inside.ensures.0 c.self.invariant c.in_err-index.ensures

pub invariant_of-self : goal.invariant_of-self
invariant_of-self c = absurd (never_cut c)

pub returns-in_err-index-clause-steps : goal.returns-in_err-index-clause-steps
returns-in_err-index-clause-steps c = absurd (never_cut c)

one_step : (c : goal.After-class_text) → IsStep (after 2) index_value c.self.inside.table.left c.in_ok-self-inside.field-0 c.self.inside.table.cursor.rest c.read_index.new.cursor.rest
one_step c =
    step (after 2) index_value c.self.inside.table.left c.in_ok-self-inside.field-0 c.self.inside.table.cursor.rest c.read_index.new.cursor.rest c.in_ok-self-inside.ensures.0 c.in_ok-self-inside.ensures.1 c.self.invariant c.in_ok-index.ensures.0

pub invariant_of-self-2 : goal.invariant_of-self-2
invariant_of-self-2 c = (one_step c).whole

-- the name of the entry that was read, and those of the entries that are left
first : (c : goal.After-class_text) → interface_names c.args.self.now ≡ option_copied c.class_text.result ∷ map (class_text_at c.self.inside.class.now) (each_value (after 2) index_value c.in_ok-self-inside.field-0 c.read_index.new.cursor.rest)
first c =
    let left = map (class_text_at c.self.inside.class.now) (each_value (after 2) index_value c.in_ok-self-inside.field-0 c.read_index.new.cursor.rest) in
    let name : option_copied c.class_text.result ≡ class_text_at c.self.inside.class.now (index_value c.self.inside.table.cursor.rest) = c.class_text.ensures ∙ ap (class_text_at c.self.inside.class.now) c.in_ok-index.ensures.2 in
    ap interface_names (sym c.self.view_is)
    ∙ ap (λ (indexes : List ConstantIndex). map (class_text_at c.self.inside.class.now) indexes) (one_step c).entries
    ∙ ap (λ (text : Option (List ℕ)). text ∷ left) (sym name)

pub returns-clause-steps : goal.returns-clause-steps
returns-clause-steps c = first c

pub returns-clause-goes : goal.returns-clause-goes
returns-clause-goes c = let shorter = ap length (first c) in search rules
