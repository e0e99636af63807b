use Rattle.std.proofs.Common.{◌≡◌, ◌++◌, map}
use Rattle.jc_view.specs.Attributes.{Handler}
use Rattle.jc_code.specs.inside.Fronts.{BeginsWith}
use Rattle.jc_code.proofs.named_constants.push_catch_types.Given as goal

-- with what the handlers that are left catch, and what was there stays in front
abbrev pub invariant-loop-handler : goal.invariant-loop-handler
invariant-loop-handler l = record {
  all : l.names.items ++ map (λ (h : Handler). h.catch_type) l.handler-iterator ≡ l.initial.names.items ++ map (λ (h : Handler). h.catch_type) l.initial.handler-iterator;
  kept : BeginsWith l.names.items l.fn.names.items;
}
