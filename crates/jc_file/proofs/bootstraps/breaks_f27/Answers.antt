use Rattle.std.proofs.Common.{◌≡◌, ℕ, ◌∙◌, ◌∷◌, [], List, Bool, true, false, not, ◌||◌, nat_le, Option, Some, None, length, map, refl, ap, arith}
use Rattle.std.specs.List.{list_all, list_any}
use Rattle.jc_view.specs.ClassFile.{Attribute, ClassFile}
use Rattle.jc_view.specs.Lookups.{lacks, passes}
use Rattle.jc_view.specs.AttributeReading.{bootstraps_in}
use Rattle.jc_file.specs.FormatRules.{is_bootstrap}
use Rattle.jc_view.specs.declared.attribute_kind.AttributeKind.TheVariants as kinds
use Rattle.jc_file.specs.inside.Recognised.{of_kind_left}
use Rattle.jc_file.proofs.kinds.AttributesOfKind.{in_place, bootstraps_are}
use Rattle.jc_file.proofs.bootstraps.breaks_f27.Goals as goal

-- the bytes are no table of well-formed methods
abbrev is_amiss : ClassFile → List ℕ → Bool
is_amiss k bytes = lacks (list_all (is_bootstrap k)) (bootstraps_in bytes)

-- the rule, by the attributes that tell bootstrap methods
abbrev is_broken_by : ClassFile → List Attribute → Bool
is_broken_by k attributes = nat_le 2 (length attributes) || list_any (λ a. is_amiss k a.bytes) attributes

by_two : (k : ClassFile) (a b : Attribute) (others : List Attribute) → true ≡ is_broken_by k (a ∷ b ∷ others)
by_two k a b others = grind arith

not_passes : {X : Type 0} (test : X → Bool) (o : Option X) → not (passes test o) ≡ lacks test o
not_passes test None = refl
not_passes test (Some x) = refl

or_false : (b : Bool) → b ≡ b || false
or_false true = refl
or_false false = refl

by_one : (k : ClassFile) (a : Attribute) → not (passes (list_all (is_bootstrap k)) (bootstraps_in a.bytes)) ≡ is_broken_by k (a ∷ [])
by_one k a = not_passes (list_all (is_bootstrap k)) (bootstraps_in a.bytes) ∙ or_false (is_amiss k a.bytes)

pub returns-in_default : goal.returns-in_default
returns-in_default c = ap (is_broken_by c.args.class.now) (bootstraps_are c.args.class.now c.attributes-attributes.result [] c.attributes-attributes.ensures.left c.in_default.ensures.1)

pub returns-in-Some-next_of_kind : goal.returns-in-Some-next_of_kind
returns-in-Some-next_of_kind c =
    by_two c.args.class.now c.in-Some.only.attribute.attribute c.in-Some-next_of_kind.field-0.attribute.attribute (map in_place (of_kind_left kinds.BootstrapMethods c.next_of_kind-2.new.attributes))
    ∙ ap (is_broken_by c.args.class.now)
    (bootstraps_are c.args.class.now c.attributes-attributes.result _ c.attributes-attributes.ensures.left
    (c.in-Some.ensures.1.0 ∙ ap (λ r. c.in-Some.only.attribute ∷ r) c.in-Some-next_of_kind.ensures.1.0))

pub returns-in-None : goal.returns-in-None
returns-in-None c =
    ap not (c.are_bootstraps.ensures ∙ ap (λ (b : List ℕ). passes (list_all (is_bootstrap c.args.class.now)) (bootstraps_in b)) c.bytes.ensures)
    ∙ by_one c.args.class.now c.in-Some.only.attribute.attribute
    ∙ ap (is_broken_by c.args.class.now)
    (bootstraps_are c.args.class.now c.attributes-attributes.result _ c.attributes-attributes.ensures.left
    (c.in-Some.ensures.1.0 ∙ ap (λ r. c.in-Some.only.attribute ∷ r) c.in-None.ensures.1))
