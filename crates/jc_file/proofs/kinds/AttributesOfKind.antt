-- The attributes of a kind, and how many methods the bootstrap methods tell.
use Rattle.std.proofs.Common.{◌≡◌, ◌∙◌, ℕ, ◌+◌, Bool, true, false, cond, nat_lt, List, [], ◌∷◌, length, map, filter, refl, ap, sym, arith}
use Rattle.jc_view.specs.declared.attribute_kind.AttributeKind.{AttributeKind}
use Rattle.jc_view.specs.declared.attribute_kind.AttributeKind.TheVariants as kinds
use Rattle.jc_view.specs.declared.attribute_kind.Holder.{Holder}
use Rattle.jc_view.specs.declared.attribute_kind.Holder.TheVariants as holders
use Rattle.jc_view.specs.ClassFile.{Attribute, ClassFile, attribute_bytes}
use Rattle.jc_view.specs.Places.{PlacedAttribute, attributes_from, attributes_in, attributes_place}
use Rattle.jc_view.specs.Attributes.{is_recognised, of_kind, bootstrap_attributes}
use Rattle.jc_file.specs.FormatRules.{is_declared}
use Rattle.jc_file.specs.inside.BootstrapsRead.{declared_by}
use Rattle.jc_view.specs.Lent.{AttributesLeft}
use Rattle.jc_file.specs.inside.Recognised.{of_kind_left}

-- a placed attribute, as it is
abbrev pub in_place : PlacedAttribute → Attribute
in_place a = a.attribute

map_cond : {X Y : Type 0} (f : X → Y) (b : Bool) (x : X) (xs : List X) → map f (cond b (x ∷ xs) xs) ≡ cond b (f x ∷ map f xs) (map f xs)
map_cond f true x xs = refl
map_cond f false x xs = refl

-- those of a kind, where they are placed
pub of_kind_placed : (c : ClassFile) (kind : AttributeKind) (holder : Holder) (place : ℕ) (attributes : List Attribute) → map in_place (filter (λ a. is_recognised c kind a.holder a.attribute) (attributes_from holder place attributes)) ≡ of_kind c kind holder attributes
unfolding attributes_from
of_kind_placed c kind holder place [] = refl
of_kind_placed c kind holder place (a ∷ attributes) =
    map_cond in_place (is_recognised c kind holder a) (record { holder = holder; place = place; attribute = a }) (filter (λ a. is_recognised c kind a.holder a.attribute) (attributes_from holder (place + length (attribute_bytes a)) attributes))
    ∙ ap (λ r. cond (is_recognised c kind holder a) (a ∷ r) r) (of_kind_placed c kind holder (place + length (attribute_bytes a)) attributes)

pub bootstraps_placed : (c : ClassFile) → map in_place (filter (λ a. is_recognised c kinds.BootstrapMethods a.holder a.attribute) (attributes_in c)) ≡ bootstrap_attributes c
bootstraps_placed c = of_kind_placed c kinds.BootstrapMethods holders.Class (attributes_place c + 2) c.attributes

-- below the number that is told
pub is_told-told_by : (attributes : List Attribute) (number : ℕ) → is_declared attributes number ≡ nat_lt number (declared_by attributes)
is_told-told_by [] number = grind arith
is_told-told_by (a ∷ []) number = refl
is_told-told_by (a ∷ b ∷ others) number = grind arith

pub bootstraps_are : (c : ClassFile) (it : AttributesLeft) (xs : List PlacedAttribute) → it ≡ record { class = c; left = attributes_in c } → of_kind_left kinds.BootstrapMethods it ≡ xs → map in_place xs ≡ bootstrap_attributes c
bootstraps_are c it xs e k = ap (map in_place) (sym k) ∙ ap (λ r. map in_place (of_kind_left kinds.BootstrapMethods r)) e ∙ bootstraps_placed c

pub told_is : (c : ClassFile) (it : AttributesLeft) (xs : List PlacedAttribute) → it ≡ record { class = c; left = attributes_in c } → of_kind_left kinds.BootstrapMethods it ≡ xs → declared_by (map in_place xs) ≡ declared_by (bootstrap_attributes c)
told_is c it xs e k = ap declared_by (bootstraps_are c it xs e k)
