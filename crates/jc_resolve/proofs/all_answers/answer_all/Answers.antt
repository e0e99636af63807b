use Rattle.jc_resolve.specs.inside.Looks.{reach_of}
use Rattle.jc_resolve.proofs.answering.Entries.{answered_all}
use Rattle.jc_resolve.proofs.all_answers.answer_all.Goals as goal

pub returns-clause-answered : goal.returns-clause-answered
returns-clause-answered c =
    let h = c.in_ok-answer_each.ensures in
    let look = c.args.look.now in
    (h.size, answered_all (reach_of look) look.loads.now look.class c.args.facts.now.references c.answer_each.new.entries.items h.size h.answered)
