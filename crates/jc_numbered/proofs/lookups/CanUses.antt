-- The four cases of access.
use Rattle.std.proofs.Common.{◌≡◌, Bool, true, false, sym, ◌∙◌}
use Rattle.std.proofs.lemmas.Bool.{false≢true}
use Rattle.std.specs.Bool.{Decides}
use Rattle.jc_classes.specs.Names.{Name}
use Rattle.jc_classes.specs.Worlds.{World, Found}
use Rattle.jc_classes.specs.Facts.{Named}
use Rattle.jc_classes.specs.Access.{CanUse, CanUse as may}
use Rattle.jc_numbered.specs.inside.Access.{is_open_to_all, IsInherited, IsInPackage, IsOwn}

pub from_inherited : (m : World) (d : Name) (t : Named) (f : Found) → IsInherited m d t f → CanUse m d t f
from_inherited m d t f h = may.inherited h.0 h.1 h.2

pub from_package : (m : World) (d : Name) (t : Named) (f : Found) → IsInPackage d f → CanUse m d t f
from_package m d t f h = may.in_package h.0 h.1

no : {P : Type 0} (b : Bool) → Decides b P → b ≡ false → P → ⊥
no b d e p = false≢true (sym e ∙ d.1 p)

cases : {m : World} {d : Name} {t : Named} {f : Found} (G : Type 0) → CanUse m d t f → (is_open_to_all t f ≡ true → G) → (IsInherited m d t f → G) → (IsInPackage d f → G) → (IsOwn d f → G) → G
cases G (may.open_to_all e) a b c x = a e
cases G (may.inherited e i h) a b c x = b (e, i, h)
cases G (may.in_package e i) a b c x = c (e, i)
cases G (may.own e i) a b c x = x (e, i)

-- where the first three do not hold the fourth decides
pub by_own : (m : World) (d : Name) (t : Named) (f : Found) (a b c o : Bool) → a ≡ is_open_to_all t f → Decides b (IsInherited m d t f) → Decides c (IsInPackage d f) → Decides o (IsOwn d f) → a ≡ false → b ≡ false → c ≡ false → Decides o (CanUse m d t f)
by_own m d t f a b c o ea db dc do_ fa fb fc = (
  λ e. let p = do_.0 e in may.own p.0 p.1,
  λ u. cases (o ≡ true) u
      (λ h. absurd (false≢true (sym fa ∙ ea ∙ h)))
      (λ h. absurd (no b db fb h))
      (λ h. absurd (no c dc fc h))
      (λ h. do_.1 h),
)
