use Rattle.jc_classes.proofs.members.Ordering.{no_members}
use Rattle.jc_classes.proofs.texts.ReferenceIndexes.{no_references, no_uses}
use Rattle.jc_classes.proofs.read_facts.faulty_facts.Goals as goal

pub boxed-requires : goal.boxed-requires
boxed-requires c = record {
  fields = no_members _ _ _ c.new-3.ensures.items c.new-5.ensures.items;
  methods = no_members _ _ _ c.new-4.ensures.items c.new-6.ensures.items;
  references = no_references _ _ c.in_ok-references.ensures;
  uses = no_uses _ cc;
}
