use Rattle.std.proofs.Common.{◌∙◌, ap, sym}
use Rattle.jc_classes.specs.Worlds.{methods_of}
use Rattle.jc_numbered.specs.inside.Shown.{indexed_of}
use Rattle.jc_resolve.proofs.lookups.InheritanceLemmas.{no_methods, none_overridden}
use Rattle.jc_resolve.proofs.inheritance.overridden.Goals as goal

pub returns-in_default-clause-told : goal.returns-in_default-clause-told
returns-in_default-clause-told c = none_overridden (indexed_of c.args.classes.now) c.args.class c.new.result.items
    (ap methods_of (sym c.at.ensures) ∙ no_methods c.at.result c.in_default.not-Class) c.new.ensures.items
