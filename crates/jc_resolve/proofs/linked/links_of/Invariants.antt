use Rattle.std.proofs.Common.{◌≡◌, map, take}
use Rattle.std.specs.List.{flat_map}
use Rattle.std.specs.Option.{option_to_list}
use Rattle.jc_classes.specs.LinkErrors.{link_of}
use Rattle.jc_resolve.specs.inside.LinkErrors.{link_shown}
use Rattle.jc_resolve.proofs.linked.links_of.Given as goal

-- those of the instructions so far
abbrev pub invariant-loop-one : goal.invariant-loop-one
invariant-loop-one l = map (link_shown l.fn.facts.references l.fn.answers) l.links.items ≡ flat_map (λ u. option_to_list (link_of l.fn.own l.fn.facts l.fn.answers u)) (take l.one-index l.one-items)
