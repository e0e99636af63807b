use Rattle.std.proofs.Common.{◌||◌, ◌&&◌, not, IsSome, refl, sym, ap, ◌∙◌, subst}
use Rattle.std.specs.FinMap as map
use Rattle.jc_classes.specs.NameLists.{has}
use Rattle.jc_classes.specs.Names.{same_name}
use Rattle.jc_classes.proofs.worlds.NameTests.{same_is}
use Rattle.jc_linkage.specs.Affected.{NoRepeat}
use Rattle.jc_linkage.specs.inside.Kept.{KeptMap, fresh_at, fresh_has, fresh_names, held_in, names_by}
use Rattle.jc_linkage.proofs.equations.LinkTests.{change_over}
use Rattle.jc_linkage.proofs.fresh.FreshLists.{fresh_absent, fresh_at_push, fresh_push, has_front, has_last, once_front, once_last}
use Rattle.jc_linkage.proofs.held.KeptMaps.{held_insert, kept_at, kept_stays}
use Rattle.jc_linkage.proofs.replacement.commit.Goals as goal

pub put_one-requires : goal.put_one-requires
put_one-requires c =
    let x = c.in-Some.one in
    let rest = c.pop.new.self.items in
    record { there = c.loop-one.invariant.there x.name.items (ap (λ z. has (fresh_names z) x.name.items) c.in-Some.ensures.items ∙ has_last rest x) }

pub loop-one-preserved : goal.loop-one-preserved
loop-one-preserved c =
    let x = c.in-Some.one in
    let name = x.name.items in
    let rest = c.pop.new.self.items in
    let items = c.in-Some.ensures.items in
    let kept = c.loop-one.kept in
    let put = c.put_one.ensures.kept in
    let once = subst (λ z. NoRepeat (fresh_names z)) items c.loop-one.invariant.apart in
    record {
      there = λ d h. subst (λ (z : KeptMap). IsSome (map.get z d)) (sym put) (kept_stays kept name x.kept d (c.loop-one.invariant.there d (ap (λ z. has (fresh_names z) d) items ∙ has_front rest x d h)));
      apart = once_front rest x once;
      linked = λ r n d.
          let k = held_in r kept d n in
          let f = fresh_has r rest d n in
          let s = same_name d name in
          let w = has (names_by r x.kept) n in
          c.put_one.ensures.linked r n d
          ∙ ap (λ b. b && not (s && (k && not w))) (c.loop-one.invariant.linked r n d ∙ ap (λ z. k || fresh_has r z d n) items ∙ ap (λ b. k || b) (fresh_push r rest x d n))
          ∙ change_over s k f k w (λ e. refl) (λ e. fresh_absent r rest d n (ap (has (fresh_names rest)) (same_is d name e) ∙ once_last rest x once))
          ∙ ap (λ b. b || f) (sym (ap (λ (z : KeptMap). held_in r z d n) put ∙ held_insert r kept name x.kept d n));
      same = λ d. ap (λ (z : KeptMap). fresh_at rest d (map.get z d)) put ∙ ap (fresh_at rest d) (kept_at kept name x.kept d)
          ∙ sym (fresh_at_push rest x d (map.get kept d)) ∙ ap (λ z. fresh_at z d (map.get kept d)) (sym items) ∙ c.loop-one.invariant.same d;
    }
