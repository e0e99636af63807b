use Rattle.std.proofs.Common.{◌∙◌, None, ap, sym, slice_index_or, subst}
use Rattle.std.specs.FinMap as map
use Rattle.jc_classes.specs.inside.DescriptorClasses.{AreKnown}
use Rattle.jc_classes.proofs.using.DescriptorClasses.{one_known}
use Rattle.jc_classes.proofs.descriptor_classes.names_once.Goals as goal

pub returns-in-Some-clause-names : goal.returns-in-Some-clause-names
returns-in-Some-clause-names c =
    c.requires c.args.index.0 c.in-Some.names (ap (λ known. slice_index_or known c.args.index.0 None) (sym c.deref.ensures.value) ∙ sym c.known_at.ensures ∙ c.in-Some.is)

pub returns-clause-known : goal.returns-clause-known
returns-clause-known c =
    subst (AreKnown (map.contains_key c.args.found.now) c.args.class.now) (sym c.note.ensures)
    (one_known (map.contains_key c.args.found.now) c.args.class.now c.args.known.now.items c.args.index c.names_one-names.result c.requires c.names_one-names.ensures)
