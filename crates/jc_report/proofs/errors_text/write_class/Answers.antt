use Rattle.std.proofs.Common.{[], ◌∙◌, ap, cond, sym}
use Rattle.std.specs.Prelude.{slice_index_or}
use Rattle.jc_text.proofs.Sending.{sends_equal, sends_nothing}
use Rattle.jc_report.specs.ErrorsText.{is_asked, part_errors, asked_lent}
use Rattle.jc_report.proofs.errors_text.write_class.Goals as goal

pub returns-then-is_asked : goal.returns-then-is_asked
returns-then-is_asked g c =
    let x = c.args.class.now in
    let e = c.args.inheritance.now in
    let methods = slice_index_or c.args.unimplemented.now c.args.place [] in
    let used_only = c.args.asked.used_only in
    let asked = c.is_asked.ensures ∙ ap (is_asked (asked_lent c.args.asked)) (c.name.ensures ∙ ap (λ f. f.name) c.facts.ensures) in
    sends_equal (ap (λ b. cond b (part_errors used_only x.facts x.part e methods) []) (sym c.if-is_asked.true ∙ asked))
    c.write_part_errors.ensures

pub returns-else-is_asked : goal.returns-else-is_asked
returns-else-is_asked g c =
    let x = c.args.class.now in
    let asked = c.is_asked.ensures ∙ ap (is_asked (asked_lent c.args.asked)) (c.name.ensures ∙ ap (λ f. f.name) c.facts.ensures) in
    let methods = slice_index_or c.args.unimplemented.now c.args.place [] in
    sends_equal (ap (λ b. cond b (part_errors c.args.asked.used_only x.facts x.part c.args.inheritance.now methods) []) (sym c.if-is_asked.false ∙ asked))
    (sends_nothing _ _ _)
