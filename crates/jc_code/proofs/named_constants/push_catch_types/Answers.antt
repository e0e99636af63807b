use Rattle.std.proofs.Common.{◌++◌, ◌∷◌, [], ◌∙◌, ap, append_assoc, map, refl, rules, sym}
use Rattle.jc_view.specs.Attributes.{Handler}
use Rattle.jc_view.specs.declared.constant_pool.ConstantIndex.{ConstantIndex}
use Rattle.jc_code.proofs.appended.Fronts.{begins_longer, begins_same, begins_whole}
use Rattle.jc_code.proofs.named_constants.push_catch_types.Goals as goal

abbrev catch_type : Handler → ConstantIndex
catch_type h = h.catch_type

pub loop-handler-init : goal.loop-handler-init
loop-handler-init c = record { all = refl; kept = begins_whole c.args.names.now.items }

pub loop-handler-preserved : goal.loop-handler-preserved
loop-handler-preserved c = record {
  all =
      ap (λ names. names ++ map catch_type c.next.new.self) c.in_ok-push.ensures.items
      ∙ append_assoc c.loop-handler.names.items (c.in-Some.handler.catch_type ∷ []) (map catch_type c.next.new.self)
      ∙ ap (λ items. c.loop-handler.names.items ++ map catch_type items) (sym c.in-Some.ensures.steps)
      ∙ c.loop-handler.invariant.all;
  kept = begins_longer c.args.names.now.items c.loop-handler.names.items _ _ c.loop-handler.invariant.kept c.in_ok-push.ensures.items;
}

pub returns-clause-ok : goal.returns-clause-ok
returns-clause-ok c = search rules

pub returns-clause-kept : goal.returns-clause-kept
returns-clause-kept c = c.loop-handler.invariant.kept

pub returns-in_err-push-clause-kept : goal.returns-in_err-push-clause-kept
returns-in_err-push-clause-kept c = begins_same c.args.names.now.items c.loop-handler.names.items _ c.loop-handler.invariant.kept c.in_err-push.ensures.items
