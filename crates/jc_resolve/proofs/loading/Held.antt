-- From what is asked of a hierarchy to the facts that its parts ask for.
use Rattle.std.proofs.Common.{ℕ, ◌<◌, zero, suc, Bool, List, [], ◌∷◌, map, length, get_or, sym, ◌∙◌, arith}
use Rattle.std.proofs.lemmas.List.{length-map}
use Rattle.std.specs.List.{Contains}
use Rattle.std.specs.declared.vec.Vec.{Vec}
use Rattle.std.specs.declared.alloc.Global.{Global}
use Rattle.jc_classes.specs.Lent.{stands_of}
use Rattle.jc_classes.specs.Names.{Name}
use Rattle.jc_classes.specs.Worlds.{World}
use Rattle.jc_classes.specs.declared.standing.Standing.{Standing}
use Rattle.jc_numbered.specs.inside.Indexed.{IsIndexed, filled}
use Rattle.jc_resolve.specs.inside.Gathered.{IsGathered}
use Rattle.jc_resolve.specs.Numbered.{numbered, IsClosed, Agrees}

supertypes_within : (supertypes : List (List ℕ)) (a b : ℕ) → Contains (get_or supertypes a []) b → a < length supertypes
supertypes_within [] a b c = absurd (let l = c.1 in omega arith)
supertypes_within (r ∷ supertypes) zero b c = omega arith
supertypes_within (r ∷ supertypes) (suc a) b c = let l = supertypes_within supertypes a b c in omega arith

module _ (n : List Name) (s : List Standing) (u : List (Vec ℕ Global)) where
  pub net_closed : IsClosed (numbered n s u) → IsGathered (length s) (filled n s u [] [])
  net_closed h =
      let standing = length-map s stands_of in
      record {
        names = sym h.standing ∙ standing;
        standing = standing;
        once = h.once;
        nodes = λ a b c. let l = supertypes_within (map (λ (v : Vec ℕ Global). v.items) u) a b c in let k = h.within a b c in (omega (arith, l, h.size, h.standing, standing), omega (arith, k, h.standing, standing));
        supertypes = h.supertypes;
      }

  pub index_held : (m : World) (rank : List ℕ) (good : List Bool) → IsGathered (length s) (filled n s u rank good) → Agrees m (numbered n s u) → IsIndexed m (filled n s u rank good)
  index_held m rank good net agrees = record { once = net.once; standing = agrees; supertypes = net.supertypes }
