-- The order of rows is total, and rows that tie are equal.
use Rattle.std.proofs.Common.{◌≡◌, ℕ, ◌==◌, refl, ap}
use Rattle.std.specs.Prelude.{if◌then◌else◌}
use Rattle.std.specs.declared.cmp.Ordering.{Ordering}
use Rattle.std.specs.declared.cmp.Ordering.TheVariants.{Less, Equal, Greater}
use Rattle.std.specs.Ordering.{nat_cmp, ordering_then}
use Rattle.std.specs.Cmp.{IsTotalOrder, nat_cmp_total, on_total, then_total}
use Rattle.std.specs.FinMap.{nat_cmp-IsAntisymmetric}
use Rattle.jc_base.proofs.maps.FiniteMaps.{bytes_cmp_total, bytes_cmp-IsAntisymmetric}
use Rattle.jc_classes.specs.declared.reference.ReferenceKind.{ReferenceKind}
use Rattle.jc_classes.specs.declared.reference.ReferenceKind.TheVariants as kinds
use Rattle.jc_report.specs.Rows.{Row, kind_number, row_cmp}

pub row_cmp_total : IsTotalOrder row_cmp
row_cmp_total =
    then_total (on_total (λ (r : Row). r.class) bytes_cmp_total)
    (then_total (on_total (λ (r : Row). kind_number r.kind) nat_cmp_total)
    (then_total (on_total (λ (r : Row). r.key.name) bytes_cmp_total) (on_total (λ (r : Row). r.key.descriptor) bytes_cmp_total)))

-- the kind of its number
pub kind_of : ℕ → ReferenceKind
kind_of number =
    if number == 0 then kinds.Class else (if number == 1 then kinds.Field
    else (if number == 2 then kinds.Method else kinds.InterfaceMethod))

-- a kind's number gives it back
pub kind_back : (k : ReferenceKind) → kind_of (kind_number k) ≡ k
unfolding kind_of
kind_back kinds.Class = refl
kind_back kinds.Field = refl
kind_back kinds.Method = refl
kind_back kinds.InterfaceMethod = refl

both_equal : (o p : Ordering) → ordering_then o p ≡ Equal → (o ≡ Equal) × (p ≡ Equal)
both_equal Less p e = absurd cc
both_equal Equal p e = (refl, e)
both_equal Greater p e = absurd cc

same_kind : (x y : ReferenceKind) → nat_cmp (kind_number x) (kind_number y) ≡ Equal → x ≡ y
same_kind x y e =
    let same = ap kind_of (nat_cmp-IsAntisymmetric (kind_number x) (kind_number y) e) in
    let back_x = kind_back x in
    let back_y = kind_back y in
    cc

-- only a row itself ties with it
pub tied_rows_same : (a b : Row) → row_cmp a b ≡ Equal → a ≡ b
tied_rows_same a b e =
    let first = both_equal _ _ e in
    let second = both_equal _ _ first.1 in
    let third = both_equal _ _ second.1 in
    let class : a.class ≡ b.class = bytes_cmp-IsAntisymmetric a.class b.class first.0 in
    let kind : a.kind ≡ b.kind = same_kind a.kind b.kind second.0 in
    let name : a.key.name ≡ b.key.name = bytes_cmp-IsAntisymmetric a.key.name b.key.name third.0 in
    let descriptor : a.key.descriptor ≡ b.key.descriptor = bytes_cmp-IsAntisymmetric a.key.descriptor b.key.descriptor third.1 in
    λ i. record { class = class i; kind = kind i; key = record { name = name i; descriptor = descriptor i } }
