-- Names that are the same.
use Rattle.std.proofs.Common.{◌≡◌, true, ap, ◌∙◌, sym}
use Rattle.std.specs.Bool.{Decides}
use Rattle.std.specs.Cmp.{Equal-is, eq_by_cmp_equiv}
use Rattle.std.specs.Cmp.Lexicographic.{nat_list_cmp_total}
use Rattle.std.specs.FinMap.{nat_cmp-IsAntisymmetric, slice_cmp-IsAntisymmetric}
use Rattle.jc_classes.specs.Names.{Name, name_cmp, same_name}

pub same_is : (a b : Name) → same_name a b ≡ true → a ≡ b
same_is a b e = slice_cmp-IsAntisymmetric nat_cmp-IsAntisymmetric a b ((Equal-is (name_cmp a b)).0 e)

pub same_self : (a : Name) → same_name a a ≡ true
same_self a = (eq_by_cmp_equiv nat_list_cmp_total).refl a

pub decides_same : (a b : Name) → Decides (same_name a b) (a ≡ b)
decides_same a b = (same_is a b, λ e. ap (same_name a) (sym e) ∙ same_self a)
