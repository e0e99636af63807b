use Rattle.std.proofs.Common.{◌≡◌, ◌∙◌, refl, subst}
use Rattle.std.specs.Prelude.{OnErr, OnOk}
use Rattle.std.proofs.lemmas.Result.{on_ok_weaker}
use Rattle.jc_classes.specs.Names.{Name}
use Rattle.jc_link.specs.Tables.{class_at}
use Rattle.jc_linkage.specs.Linkages.{IsCountedChange, Linkage}
use Rattle.jc_linkage.specs.Steps.{changed}
use Rattle.jc_linkage.proofs.held.Changed.{counted_change, made_classes, made_counts, made_puts, named_behind}
use Rattle.jc_linkage.proofs.linkage.Linkage.change.Goals as goal

pub change_classes-requires-clause-first : goal.change_classes-requires-clause-first
change_classes-requires-clause-first c =
    made_counts (class_at c.self.inside.table) c.args.first c.args.put c.counting-first.result c.putting-second.result c.counting-first.ensures c.putting-second.ensures

pub change_classes-requires-clause-second : goal.change_classes-requires-clause-second
change_classes-requires-clause-second c =
    made_puts (class_at c.self.inside.table) c.args.first c.args.put c.counting-first.result c.putting-second.result c.counting-first.ensures c.putting-second.ensures

pub invariant_of-self : goal.invariant_of-self
invariant_of-self c =
    let m = class_at c.self.inside.table in
    let behind = class_at c.change_classes.new.table in
    let first = c.args.first in
    let put = c.args.put in
    let classes = made_classes m first put c.counting-first.result c.putting-second.result c.counting-first.ensures c.putting-second.ensures in (
      c.change_classes.ensures.held,
      named_behind c.change_classes.result m behind first put
          (on_ok_weaker c.change_classes.result (λ ok n. ok n ∙ classes n) c.change_classes.ensures.ok)
          c.change_classes.ensures.err c.self.invariant.1,
      c.change_classes.ensures.taken,
    )

pub returns-clause-ok : goal.returns-clause-ok
returns-clause-ok c =
    let behind = class_at c.change_classes.new.table in
    let first = c.args.first in
    let put = c.args.put in
    let classes = made_classes (class_at c.self.inside.table) first put c.counting-first.result c.putting-second.result c.counting-first.ensures c.putting-second.ensures in
    subst (λ (a : Linkage). OnOk c.change_classes.result ((n : Name) → behind n ≡ changed (class_at a.classes) first put n)) c.self.view_is
    (on_ok_weaker c.change_classes.result (λ ok n. ok n ∙ classes n) c.change_classes.ensures.ok)

pub returns-clause-err : goal.returns-clause-err
returns-clause-err c =
    let behind = class_at c.change_classes.new.table in
    subst (λ (a : Linkage). OnErr c.change_classes.result ((n : Name) → behind n ≡ class_at a.classes n)) c.self.view_is c.change_classes.ensures.err

pub returns-clause-counted : goal.returns-clause-counted
returns-clause-counted c =
    let old : Linkage = record { classes = c.self.inside.table; prefixes = c.self.inside.outside } in
    let new : Linkage = record { classes = c.change_classes.new.table; prefixes = c.self.inside.outside } in
    let before = c.args.meter.now in
    let behind = c.change_classes.new.meter in
    subst (λ (a : Linkage). OnOk c.change_classes.result (IsCountedChange a new before behind)) c.self.view_is
    (counted_change c.change_classes.result old new c.args.first c.args.put c.counting-first.result c.putting-second.result c.counting-first.ensures c.putting-second.ensures refl before behind
    c.change_classes.ensures.ok c.change_classes.ensures.counted)
