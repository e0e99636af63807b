use Rattle.std.proofs.Common.{◌≡◌, ◌<◌, length, false, get_or, sym, subst, ◌∙◌, arith}
use Rattle.std.proofs.lemmas.List.{get_or_default}
use Rattle.std.specs.Bool.{Decides}
use Rattle.jc_classes.specs.Numbers.{name_at}
use Rattle.jc_classes.specs.Worlds.{World, Above}
use Rattle.jc_numbered.specs.inside.Shown.{indexed_of}
use Rattle.jc_resolve.specs.Numbered.{Numbered, Agrees, numbered}
use Rattle.jc_resolve.proofs.loading.Held.{index_held}
use Rattle.jc_resolve.proofs.loading.Loadings.{circular_same, circular_back}
use Rattle.jc_resolve.proofs.hierarchy.Hierarchy.is_circular.Goals as goal

pub returns : goal.returns
returns c =
    let i = c.self.inside.classes in
    let x = indexed_of i in
    let v : Numbered = numbered i.names.now i.standing.now i.supertypes.now in
    let count = length i.standing.now in
    let class = c.args.class in
    let held = c.self.invariant.loaded in
    let within : class < length v.names = subst (λ (z : Numbered). class < length z.names) (sym c.self.view_is) c.requires in
    let l : class < count = omega (arith, within, held.net.names) in
    let d = held.rings.tells class l in
    let flag : c.index.result.now ≡ get_or c.self.inside.circular.items class false = c.index.ensures ∙ get_or_default c.self.inside.circular.items class _ false (omega (arith, l, held.rings.size)) in
    subst (λ (z : Numbered). (m : World) → Agrees m z → Decides c.index.result.now (Above m (name_at z.names class) (name_at z.names class))) c.self.view_is
    (λ m agrees. let index = index_held i.names.now i.standing.now i.supertypes.now m i.rank.items i.good.items held.net agrees in (
      (λ q. circular_same m count x i.graph index class l (d.0 (sym flag ∙ q))),
      (λ a. flag ∙ d.1 (circular_back m count x i.graph index class l a)),
    ))
