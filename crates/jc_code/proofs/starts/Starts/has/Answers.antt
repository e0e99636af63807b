use Rattle.std.proofs.Common.{sym, ◌∙◌, ap, ◌==◌}
use Rattle.std.specs.List.{list_any}
use Rattle.jc_code.specs.inside.Marks.{marked}
use Rattle.jc_code.proofs.marks.Marked.{mark_past, mark_within}
use Rattle.jc_code.proofs.starts.Starts.has.Goals as goal

pub returns-in-Some : goal.returns-in-Some
returns-in-Some c =
    c.in-Some.ensures.lookup.1
    ∙ sym (mark_within c.deref.result.now c.args.place c.in-Some.mark.now c.in-Some.ensures.lookup.0)
    ∙ ap (λ marks. list_any (λ start. start == c.args.place) (marked marks)) c.deref.ensures.value
    ∙ ap (list_any (λ start. start == c.args.place)) c.self.view_is

pub returns-in-None : goal.returns-in-None
returns-in-None c =
    sym (mark_past c.deref.result.now c.args.place c.in-None.ensures.lookup.0)
    ∙ ap (λ marks. list_any (λ start. start == c.args.place) (marked marks)) c.deref.ensures.value
    ∙ ap (list_any (λ start. start == c.args.place)) c.self.view_is
