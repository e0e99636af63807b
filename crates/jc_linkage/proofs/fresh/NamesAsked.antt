-- A graph's names are those that its classes reach, each once.
use Rattle.std.proofs.Common.{◌≡◌, ◌∙◌, ⊎_elim, suc, true, false, List, [], ◌∷◌, length, arith, subst, sym}
use Rattle.std.proofs.lemmas.Bool.{cases_Bool}
use Rattle.std.proofs.lemmas.List.{get_or_default}
use Rattle.std.specs.List.{Contains}
use Rattle.jc_classes.specs.NameLists.{has}
use Rattle.jc_classes.specs.Names.{Name}
use Rattle.jc_classes.specs.Numbers.{IsOnce}
use Rattle.jc_classes.specs.Worlds.{World}
use Rattle.jc_classes.proofs.numbering.Rising.{contains_of, has_of}
use Rattle.jc_link.specs.Meters.{counted}
use Rattle.jc_link.specs.Graphs.{IsAround, ClassGraph}
use Rattle.jc_link.specs.declared.meter.Meter.{Meter}
use Rattle.jc_linkage.specs.Affected.{NoRepeat}
use Rattle.jc_linkage.specs.inside.Prepared.{HasAskedFor}

once_rest : (x : Name) (xs : List Name) → IsOnce (x ∷ xs) → IsOnce xs
once_rest x xs once = λ i j a b e. let q = once (suc i) (suc j) (omega (arith, a)) (omega (arith, b)) e in omega (arith, q)

no_repeat : (xs : List Name) → IsOnce xs → NoRepeat xs
no_repeat [] once = tt
no_repeat (x ∷ xs) once = (
  ⊎_elim
      (λ (t : has xs x ≡ true). let c = contains_of xs x t in let e = once (suc c.0) 0 (omega (arith, c.1)) (omega arith) (get_or_default xs c.0 [] x c.1 ∙ c.2) in absurd (omega (arith, e)))
      (λ (f : has xs x ≡ false). f)
      (cases_Bool (has xs x)),
  no_repeat xs (once_rest x xs once),
)

pub graph_asked : (m : World) (g : ClassGraph) (classes : List Name) (d : Name) (old new : Meter) → IsAround m g → g.classes ≡ classes
    → Contains classes d → new.asks ≡ counted old.asks (length g.names) → HasAskedFor m classes old new
graph_asked m g classes d old new around same some asks = subst (λ cs. HasAskedFor m cs old new) same (record {
  reached = g.names;
  are_reached = record {
    once = no_repeat g.names around.once;
    sound = λ q e. around.reached d q (subst (λ cs. Contains cs d) (sym same) some) (contains_of g.names q e);
    complete = λ q r. has_of g.names q (around.whole q r);
  };
  asks = asks;
})
