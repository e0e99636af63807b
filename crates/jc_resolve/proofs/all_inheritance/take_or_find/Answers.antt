use Rattle.std.proofs.Common.{◌≡◌, ◌∙◌, None, Some, sym, ⊎_elim}
use Rattle.jc_file.proofs.keys.NumberedTexts.{set_cases}
use Rattle.jc_resolve.proofs.all_inheritance.take_or_find.Goals as goal

no_some : {X A : Type 0} {a : X} → None ≡ Some a → A
no_some e = absurd cc

pub returns-in-Some-clause-found : goal.returns-in-Some-clause-found
returns-in-Some-clause-found c = λ v e h.
    ⊎_elim (c.requires.found v e) (λ q. no_some (sym (c.in-Some.ensures.after) ∙ sym q.1))
    (set_cases c.args.found.now.items c.args.node c.take.new.self v (Some e) h)
