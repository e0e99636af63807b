use Rattle.std.proofs.Common.{◌∙◌, ap, sym}
use Rattle.jc_classes.specs.Facts.{Reference}
use Rattle.jc_classes.specs.Parts.{class_of}
use Rattle.jc_numbered.specs.inside.Indexed.{indexed_name}
use Rattle.jc_numbered.specs.inside.Shown.{indexed_of}
use Rattle.jc_resolve.specs.inside.Entries.{entries_shown}
use Rattle.jc_resolve.specs.inside.Naming.{name_told}
use Rattle.jc_resolve.proofs.answering.Entries.{named_shown}
use Rattle.jc_resolve.proofs.answering.Lists.{nodes_size}
use Rattle.jc_resolve.proofs.answer_list.Answers.of.Goals as goal

pub name_entries-requires : goal.name_entries-requires
name_entries-requires c =
    nodes_size (indexed_name (indexed_of c.args.classes.now)) (λ (r : Reference). class_of r.named) c.args.nodes.now c.args.references c.requires.nodes ∙ sym c.requires.size

pub invariant_of-result : goal.invariant_of-result
invariant_of-result c = c.in_ok-named.ensures.size ∙ c.requires.size

pub returns : goal.returns
returns c =
    let named = c.in_ok-named.named in
    let name = indexed_name (indexed_of c.args.classes.now) in
    ap (λ t. entries_shown (name_told t) c.args.references named.entries.items) c.fitted.ensures
    ∙ named_shown name named.texts c.args.references c.args.nodes.now c.args.entries.now named.entries.items c.requires.nodes c.in_ok-named.ensures.size c.requires.size c.in_ok-named.ensures.named
