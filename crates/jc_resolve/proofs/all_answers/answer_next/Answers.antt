use Rattle.std.proofs.Common.{◌≡◌, ◌<◌, ◌∙◌, length, Some, IfSome, refl, sym, ap, subst, arith}
use Rattle.std.proofs.lemmas.Option.{slice_get-get_or}
use Rattle.std.specs.List.{slice_get}
use Rattle.jc_numbered.specs.inside.Shown.{indexed_of}
use Rattle.jc_resolve.specs.inside.Answered.{IsAnsweredAt}
use Rattle.jc_resolve.proofs.answering.Alike.{alike_set}
use Rattle.jc_resolve.proofs.all_answers.answer_next.Goals as goal

pub returns-clause-answered : goal.returns-clause-answered
returns-clause-answered c =
    let x = indexed_of c.args.look.now.classes.now in
    let refs = c.args.facts.now.references in
    let entries = c.args.entries.now.items in
    let before = c.in-Some.before in
    let entry = c.index.result.now in
    let known = subst (λ o. IfSome o (λ b. (b < length refs) × IsAnsweredAt x c.args.look.now.loads.now c.args.look.now.class refs entries b)) c.in-Some.is c.requires.before in
    let got : slice_get entries before ≡ Some entry = slice_get-get_or entries before entry (omega (arith, known.0, c.requires.size)) ∙ ap Some (sym c.index.ensures) in
    alike_set x c.args.look.now.loads.now c.args.look.now.class refs entries before c.args.number entry (c.if-are_alike.ensures refl) known.0 c.requires.number got known.1
