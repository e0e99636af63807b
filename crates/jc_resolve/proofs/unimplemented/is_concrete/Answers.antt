use Rattle.std.proofs.Common.{◌∙◌, length, subst, sym}
use Rattle.jc_numbered.specs.inside.Indexed.{indexed_name}
use Rattle.jc_numbered.specs.inside.Outside.{TellsOutside}
use Rattle.jc_numbered.specs.inside.Shown.{indexed_of}
use Rattle.jc_resolve.proofs.lookups.ConcreteLemmas.{class_loaded, concrete_decided, not_concrete}
use Rattle.jc_resolve.proofs.unimplemented.is_concrete.Goals as goal

pub returns-then-not-is_loaded_class-clause-concrete : goal.returns-then-not-is_loaded_class-clause-concrete
returns-then-not-is_loaded_class-clause-concrete c = λ m h. not_concrete (length c.args.classes.now.standing.now) (indexed_of c.args.classes.now) c.args.classes.now.graph
    c.args.loads.now c.requires.told c.args.node c.requires.node m h c.is_loaded_class.result c.is_loaded_class.ensures c.if-not-is_loaded_class.true

pub returns-clause-concrete : goal.returns-clause-concrete
returns-clause-concrete c = λ m h. concrete_decided (length c.args.classes.now.standing.now) (indexed_of c.args.classes.now) c.args.classes.now.graph
    c.args.loads.now c.requires.told c.args.node c.requires.node m h c.is_loaded_class.result c.is_loaded_class.ensures c.if-not-is_loaded_class.false
    c.outside.result c.is_none.result c.is_none.ensures
    (subst (TellsOutside m (indexed_of c.args.classes.now) (indexed_name (indexed_of c.args.classes.now) c.args.node)) (sym c.outside.ensures) (c.in_ok-see.ensures.seen.outside m h))

pub returns-clause-loaded : goal.returns-clause-loaded
returns-clause-loaded c = λ e. class_loaded (indexed_of c.args.classes.now) c.args.loads.now c.args.node (sym c.is_loaded_class.ensures ∙ c.if-not-is_loaded_class.false)
