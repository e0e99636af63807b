use Rattle.std.proofs.Common.{◌∙◌, length, refl, sym}
use Rattle.jc_classes.specs.Lent.{key_lent}
use Rattle.jc_numbered.specs.inside.Shown.{indexed_of}
use Rattle.jc_numbered.proofs.lookups.Chain.{super_falls, super_good, super_node}
use Rattle.jc_resolve.proofs.lookups.SelectionLemmas.{instance_back, instance_ends, instance_here, instance_on}
use Rattle.jc_resolve.proofs.selection.inherits_instance.Goals as goal

pub loop-class-preserved : goal.loop-class-preserved
loop-class-preserved c =
    let x = indexed_of c.args.classes.now in
    let count = length c.args.classes.now.standing.now in
    let graph = c.args.classes.now.graph in
    let k = key_lent c.args.key in
    let v = c.loop-class.node in
    let s = c.in-Some.above in
    let e = sym c.in-Some.ensures in
    let is = c.loop-class.invariant in
    let none = sym c.declares_instance.ensures ∙ c.if-declares_instance.false in
    record {
      within = super_node count x graph v s e;
      good = super_good count x graph v s is.good e;
      up = λ m h d. instance_on count x graph m h k v s is.within none e (is.up m h d);
      down = λ m h d. is.down m h (instance_back count x graph m h k v s is.within e d);
    }

pub loop-class-smaller : goal.loop-class-smaller
loop-class-smaller c = super_falls (length c.args.classes.now.standing.now) (indexed_of c.args.classes.now) c.args.classes.now.graph c.loop-class.node c.in-Some.above
    c.loop-class.invariant.good (sym c.in-Some.ensures)

pub returns-then-declares_instance : goal.returns-then-declares_instance
returns-then-declares_instance c = λ m h. (
  λ e. c.loop-class.invariant.down m h (instance_here (length c.args.classes.now.standing.now) (indexed_of c.args.classes.now) c.args.classes.now.graph m h
      (key_lent c.args.key) c.loop-class.node c.loop-class.invariant.within (sym c.declares_instance.ensures ∙ c.if-declares_instance.true)),
  λ d. refl,
)

pub returns-in-None : goal.returns-in-None
returns-in-None c = λ m h. (
  λ e. absurd cc,
  λ d. absurd (instance_ends (length c.args.classes.now.standing.now) (indexed_of c.args.classes.now) c.args.classes.now.graph m h
      (key_lent c.args.key) c.loop-class.node c.loop-class.invariant.within (sym c.declares_instance.ensures ∙ c.if-declares_instance.false) (sym c.in-None.ensures)
      (c.loop-class.invariant.up m h d)),
)
