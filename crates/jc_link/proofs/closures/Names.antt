-- The names of a closure.
use Rattle.std.proofs.Common.{◌≡◌, ◌∙◌, zero, suc, List, [], ◌∷◌, arith, refl, sym, subst}
use Rattle.std.specs.List.{Contains}
use Rattle.std.specs.List.Sorted.{IsStrictlySortedBy}
use Rattle.jc_classes.specs.NameLists.{IsRisingOf, Lists}
use Rattle.jc_classes.specs.Names.{Name, name_cmp}
use Rattle.jc_classes.specs.Parts.{Reach}
use Rattle.jc_classes.specs.Worlds.{World}
use Rattle.jc_classes.proofs.numbering.Rising.{contains_of, has_of}
use Rattle.jc_link.specs.Graphs.{ClassGraph, IsAround}

-- names that rise stay as they are in a list of names
pub rising_list : (rising list names : List Name) → (IsStrictlySortedBy name_cmp rising → list ≡ rising) → IsRisingOf rising names → IsRisingOf list names
rising_list rising list names kept h = subst (λ (ns : List Name). IsRisingOf ns names) (sym (kept h.rises)) h

only_one : (d k : Name) → Contains (d ∷ []) k → k ≡ d
only_one d k (zero, l, e) = sym e
only_one d k (suc i, l, e) = absurd (omega (arith, l))

-- the names of a graph around one class are its reach
pub reach_listed : (m : World) (d : Name) (g : ClassGraph) (list : List Name) → IsAround m g → g.classes ≡ d ∷ [] → IsRisingOf list g.names → Lists list (Reach m d)
reach_listed m d g list around one r =
    let there : Contains g.classes d = subst (λ (cs : List Name). Contains cs d) (sym one) (zero, omega arith, refl) in
    record {
      rises = r.rises;
      sound = λ n e.
          let q = around.reached d n there (contains_of g.names n (sym (r.same n) ∙ e)) in
          subst (λ k. Reach m k n) (only_one d q.0 (subst (λ (cs : List Name). Contains cs q.0) one q.1)) q.2;
      complete = λ n h. r.same n ∙ has_of g.names n (around.whole n (d, there, h));
    }
