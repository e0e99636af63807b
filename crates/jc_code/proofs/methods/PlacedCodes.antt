-- The codes of the attributes that are left, one attribute after the other.
use Rattle.std.proofs.Common.{◌≡◌, ◌∙◌, ℕ, ◌+◌, Bool, true, false, cond, List, [], ◌∷◌, ◌++◌, length, Option, Some, None, refl, ap, sym}
use Rattle.std.specs.List.{flat_map}
use Rattle.std.specs.Option.{option_map, option_map_or, is_some}
use Rattle.jc_view.specs.declared.attribute_kind.Holder.TheVariants as holders
use Rattle.jc_view.specs.declared.attribute_kind.AttributeKind.TheVariants as kinds
use Rattle.jc_view.specs.ClassFile.{Attribute, ClassFile, attribute_bytes}
use Rattle.jc_view.specs.Places.{PlacedAttribute, attributes_from}
use Rattle.jc_view.specs.Attributes.{Code, is_recognised, of_kind}
use Rattle.jc_view.specs.AttributeReading.{code_in, code_of}
use Rattle.jc_view.specs.Lent.{LentAttribute, LentCode, lent_code}
use Rattle.jc_code.specs.CodeFaults.{only, well_formed}

-- it alone, or nothing
abbrev pub listed : Option Code → List Code
listed o = option_map_or (λ k. k ∷ []) o []

abbrev pub lent : Option LentCode → List Code
lent o = option_map_or (λ k. k.code ∷ []) o []

abbrev pub codes_left : ClassFile → List PlacedAttribute → List Code
codes_left c attributes = flat_map (λ a. listed (code_of c a)) attributes

first_code : (c : ClassFile) (b : Bool) (a : Attribute) (others : List Attribute) (ks : List Code) → ks ≡ well_formed others → listed (cond b (code_in a.bytes) None) ++ ks ≡ well_formed (cond b (a ∷ others) others)
first_code c true a others ks e = ap (λ r. listed (code_in a.bytes) ++ r) e
first_code c false a others ks e = e

-- of all attributes of a method
pub codes_placed : (c : ClassFile) (place : ℕ) (attributes : List Attribute) → codes_left c (attributes_from holders.Method place attributes) ≡ well_formed (of_kind c kinds.Code holders.Method attributes)
unfolding attributes_from
codes_placed c place [] = refl
codes_placed c place (a ∷ others) =
    first_code c (is_recognised c kinds.Code holders.Method a) a (of_kind c kinds.Code holders.Method others) (codes_left c (attributes_from holders.Method (place + length (attribute_bytes a)) others))
    (codes_placed c (place + length (attribute_bytes a)) others)

lent_is : (a : LentAttribute) (o : Option Code) → lent (option_map (lent_code a) o) ≡ listed o
lent_is a None = refl
lent_is a (Some k) = refl

-- one attribute on
pub codes_step : (c : ClassFile) (a : LentAttribute) (given : Option LentCode) (left rest : List PlacedAttribute) (before all : List Code) → a.class ≡ c → given ≡ option_map (lent_code a) (code_of a.class a.attribute) → left ≡ a.attribute ∷ rest
    → before ++ codes_left c left ≡ all → before ++ (lent given ++ codes_left c rest) ≡ all
codes_step c a given left rest before all same gives is_left so_far =
    let code : lent given ≡ listed (code_of c a.attribute) = ap lent gives ∙ lent_is a (code_of a.class a.attribute) ∙ ap (λ k. listed (code_of k a.attribute)) same in
    ap (λ ks. before ++ (ks ++ codes_left c rest)) code ∙ ap (λ others. before ++ codes_left c others) (sym is_left) ∙ so_far

pub none_found : (o : Option LentCode) → is_some o ≡ false → o ≡ None
none_found None e = refl
none_found (Some k) e = absurd cc

-- a second code, and none is the only one
pub second_found : (o : Option LentCode) (k : Code) (ks all : List Code) → is_some o ≡ true → lent o ++ (k ∷ ks) ≡ all → None ≡ only all
second_found None k ks all e is = absurd cc
second_found (Some j) k ks all e is = ap only is

-- all are passed
pub found_is : (o : Option LentCode) (ks all : List Code) → ks ≡ [] → lent o ++ ks ≡ all → option_map (λ k. k.code) o ≡ only all
found_is None ks all e is = ap only (sym e ∙ is)
found_is (Some k) ks all e is = ap (λ r. only (k.code ∷ r)) (sym e) ∙ ap only is
