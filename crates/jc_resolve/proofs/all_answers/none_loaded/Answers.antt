use Rattle.std.proofs.Common.{◌∙◌, ap, replicate}
use Rattle.jc_resolve.specs.declared.entry.Entry.TheVariants.{NotLoaded}
use Rattle.jc_resolve.proofs.answering.Asking.{alike}
use Rattle.jc_resolve.proofs.all_answers.none_loaded.Goals as goal

pub returns : goal.returns
returns c = c.in_ok-entries.ensures.items_if_clones_equal (λ y e. e) ∙ ap (λ n. replicate n NotLoaded) c.reference_count.ensures ∙ alike NotLoaded c.args.facts.now.references
