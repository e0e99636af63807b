use Rattle.std.proofs.Common.{◌≡◌, subst, sym}
use Rattle.std.proofs.Math.Dec.{eqb}
use Rattle.std.proofs.lemmas.Cmp.{nat_cmp_total}
use Rattle.std.proofs.lemmas.List.Filters.{dedup_is}
use Rattle.std.proofs.lemmas.List.Kept.{Contains-dedup_nat, Contains-from_dedup, IsStrictlySortedBy-dedup}
use Rattle.std.proofs.lemmas.List.Sorted.{Contains-permutation, IsPermutation-sym}
use Rattle.std.specs.Cmp.{unsigned_ties}
use Rattle.std.specs.List.{Contains, dedup}
use Rattle.std.specs.List.Sorted.{IsStrictlySortedBy}
use Rattle.std.specs.Ordering.{nat_cmp}
use Rattle.jc_resolve.proofs.unimplemented.sort_one.Goals as goal

pub returns : goal.returns
returns c =
    let old = c.args.list.now.items in
    let sorted = c.sort_unstable.new.self.items in
    let new = c.dedup.new.self.items in
    let e : new ≡ dedup eqb sorted = dedup_is _ sorted new c.dedup.ensures.filtered in
    let moved = c.sort_unstable.ensures.permutation in
    record {
      rises = subst (IsStrictlySortedBy nat_cmp) (sym e) (IsStrictlySortedBy-dedup nat_cmp_total unsigned_ties sorted c.sort_unstable.ensures.sorted);
      kept = λ i h. subst (λ z. Contains z i) (sym e) (Contains-dedup_nat sorted i (Contains-permutation old sorted i moved h));
      sound = λ i h. Contains-permutation sorted old i (IsPermutation-sym old sorted moved) (Contains-from_dedup eqb sorted i (subst (λ z. Contains z i) e h));
    }
