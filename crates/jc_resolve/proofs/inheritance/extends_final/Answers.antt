use Rattle.std.proofs.Common.{◌∙◌, ap, length, sym}
use Rattle.jc_file.specs.AccessFlags.{final, has}
use Rattle.jc_numbered.specs.inside.Shown.{indexed_of}
use Rattle.jc_numbered.proofs.lookups.Chain.{super_node}
use Rattle.jc_resolve.proofs.lookups.InheritanceLemmas.{final_decided}
use Rattle.jc_resolve.proofs.inheritance.extends_final.Goals as goal

pub flags-requires : goal.flags-requires
flags-requires c = super_node (length c.args.classes.now.standing.now) (indexed_of c.args.classes.now) c.args.classes.now.graph c.args.class c.in-Some.above (sym c.in-Some.ensures)

pub returns-in-Some : goal.returns-in-Some
returns-in-Some c = λ m index.
    final_decided (length c.args.classes.now.standing.now) (indexed_of c.args.classes.now) c.args.classes.now.graph m index c.args.class c.requires
    c.in-Some.above c.is_in.result (sym c.in-Some.ensures) (c.is_in.ensures ∙ ap (λ f. has f final) c.flags.ensures)
