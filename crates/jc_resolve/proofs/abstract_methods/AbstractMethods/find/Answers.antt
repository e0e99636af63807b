use Rattle.std.proofs.Common.{◌≡◌, length, subst, sym}
use Rattle.std.proofs.lemmas.List.Filters.{dedup_is}
use Rattle.std.specs.List.{dedup}
use Rattle.std.specs.List.Sorted.{IsStrictlySortedBy}
use Rattle.jc_numbered.specs.inside.Shown.{indexed_of}
use Rattle.jc_resolve.specs.inside.AbstractMethods.{AreAbstract, AreNumbers, entry_cmp}
use Rattle.jc_resolve.proofs.lookups.EntryOrder.{entries_are, entries_rise, entry_eq}
use Rattle.jc_resolve.proofs.abstract_methods.AbstractMethods.find.Goals as goal

pub returns : goal.returns
returns c =
    let x = indexed_of c.args.classes.now in
    let count = length c.args.classes.now.standing.now in
    let old = c.in_ok-all.all.items in
    let sorted = c.sort_unstable.new.self.items in
    let new = c.dedup.new.self.items in
    let e : new ≡ dedup entry_eq sorted = dedup_is _ sorted new c.dedup.ensures.filtered in
    record {
      all = subst (AreAbstract count x) (sym e) (entries_are count x old sorted c.sort_unstable.ensures.permutation c.in_ok-all.ensures);
      rises = subst (IsStrictlySortedBy entry_cmp) (sym e) (entries_rise sorted c.sort_unstable.ensures.sorted);
      of_class = subst (λ z. AreNumbers z (length new) new c.in_ok-of_class.of_class.items) c.len.ensures
          (subst (λ z. AreNumbers c.len.result (length z) z c.in_ok-of_class.of_class.items) c.as_slice.ensures.value c.in_ok-of_class.ensures);
    }
