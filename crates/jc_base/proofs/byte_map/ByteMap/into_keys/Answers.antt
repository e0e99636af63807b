use Rattle.std.proofs.lemmas.Grind.{common_steps}
use Rattle.std.proofs.Common.{◌++◌, ap, sym, ◌∙◌, arith}
use Rattle.std.proofs.lemmas.Map.Iter.{rest_all}
use Rattle.std.proofs.lemmas.List.{append-nil}
use Rattle.std.specs.FinMap as fin
use Rattle.jc_base.specs.inside.ByteMap.{bytes_of, byte_keys}
use Rattle.jc_base.proofs.maps.TreeEntries.{keys-finite}
use Rattle.jc_base.proofs.byte_map.ByteMap.into_keys.Goals as goal

pub returns : goal.returns
returns g c =
    let keys = c.loop-key.keys.items in
    let done = rest_all (λ x. x) c.loop-key.key-iterator _ _ c.in-None.is c.next.ensures.steps in
    let all = sym (append-nil keys) ∙ ap (λ t. keys ++ t) (sym done) ∙ c.loop-key.invariant ∙ c.into_iter-key-iterator.ensures.into_iter_gives ∙ c.into_keys-key-items.ensures.rest in
    ap byte_keys all ∙ sym (keys-finite bytes_of c.self.inside.entries.entries c.into_keys-key-items.ensures.ordered) ∙ ap fin.keys c.self.view_is

pub loop-key-init : goal.loop-key-init
loop-key-init g c = grind (arith, common_steps)

pub loop-key-preserved : goal.loop-key-preserved
loop-key-preserved g c = grind (arith, common_steps)
