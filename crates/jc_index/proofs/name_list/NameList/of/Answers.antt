use Rattle.std.proofs.Common.{◌≡◌, ℕ, nat_eq}
use Rattle.std.specs.Cmp.Lexicographic.{texts_ties, pointwise}
use Rattle.std.specs.declared.vec.Vec.{Vec}
use Rattle.std.specs.declared.alloc.Global.{Global}
use Rattle.jc_base.proofs.maps.FiniteMaps.{same_bytes_decides}
use Rattle.jc_classes.specs.NameLists.{has}
use Rattle.jc_classes.specs.Names.{Name, name_cmp, names_of}
use Rattle.jc_index.proofs.lists.Ordered.{ordered_has, ordered_rises}
use Rattle.jc_index.proofs.lists.Rising.{same_rising}
use Rattle.std.specs.List.Sorted.{IsStrictlySortedBy}
use Rattle.jc_index.proofs.name_list.NameList.of.Goals as goal

abbrev Text : Type 0
Text = Vec ℕ Global

rises : (c : goal.After-dedup) → IsStrictlySortedBy name_cmp (names_of c.dedup.new.self.items)
rises c = ordered_rises (λ (v : Text). v.items) (λ (a b : Text). pointwise nat_eq a.items b.items) (λ a b. texts_ties a.items b.items) c.sort_unstable.new.self.items c.dedup.new.self.items
    c.sort_unstable.ensures.sorted c.dedup.ensures.filtered

there : (c : goal.After-dedup) → (n : Name) → has (names_of c.dedup.new.self.items) n ≡ has (names_of c.args.names.items) n
there c = ordered_has (λ (v : Text). v.items) (λ (a b : Text). pointwise nat_eq a.items b.items) (λ a b e. (same_bytes_decides a.items b.items).0 e) c.args.names.items c.sort_unstable.new.self.items c.dedup.new.self.items
    c.sort_unstable.ensures.permutation c.dedup.ensures.filtered

pub invariant_of-result : goal.invariant_of-result
invariant_of-result c = rises c

pub returns-clause-same : goal.returns-clause-same
returns-clause-same c = there c

pub returns-clause-kept : goal.returns-clause-kept
returns-clause-kept c = λ up. same_rising (names_of c.dedup.new.self.items) (names_of c.args.names.items) (rises c) up (there c)

pub returns-clause-rises : goal.returns-clause-rises
returns-clause-rises c = rises c
