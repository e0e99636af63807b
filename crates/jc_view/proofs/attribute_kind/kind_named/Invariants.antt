use Rattle.std.proofs.Common.{◌≡◌, false, take}
use Rattle.std.specs.List.{list_any}
use Rattle.jc_base.specs.Bytes.{same_bytes}
use Rattle.jc_view.specs.Attributes.{attribute_name}
use Rattle.jc_view.proofs.attribute_kind.kind_named.Given as goal

-- no kind so far has the name
abbrev pub invariant-loop-kind : goal.invariant-loop-kind
invariant-loop-kind l = list_any (λ kind. same_bytes l.name (attribute_name kind)) (take l.kind-index l.kind-items) ≡ false
