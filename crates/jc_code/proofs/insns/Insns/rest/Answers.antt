use Rattle.std.proofs.Common.{ap, ◌∙◌}
use Rattle.jc_code.proofs.decoding.Steps.{ended_from}
use Rattle.jc_code.proofs.insns.Insns.rest.Goals as goal

pub returns-clause-ended : goal.returns-clause-ended
returns-clause-ended c = λ none.
    let cursor = c.self.inside.cursor in
    let ended = ended_from cursor.place cursor.rest (ap (λ t. t.left) c.self.view_is ∙ none) in
    c.place.ensures ∙ ended ∙ ap (λ t. t.end) c.self.view_is
