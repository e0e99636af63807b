-- The attributes of a kind, found one after another.
use Rattle.std.specs.Prelude.{◌≡◌, Bool, ◌&&◌, List, [], ◌∷◌, filter, Option}
use Rattle.std.specs.List.{list_any}
use Rattle.std.specs.Option.{MatchOption}
use Rattle.jc_view.specs.declared.attribute_kind.AttributeKind.{AttributeKind}
use Rattle.jc_view.specs.ClassFile.{Attribute, ClassFile}
use Rattle.jc_view.specs.Places.{PlacedAttribute}
use Rattle.jc_view.specs.Attributes.{is_recognised}
use Rattle.jc_view.specs.Lent.{AttributesLeft, LentAttribute}

-- the attributes of a kind that are left
abbrev pub of_kind_left : AttributeKind → AttributesLeft → List PlacedAttribute
of_kind_left kind it = filter (λ a. is_recognised it.class kind a.holder a.attribute) it.left

-- one step: it returns the first attribute of the kind
abbrev pub GivesOfKind : AttributeKind → AttributesLeft → Option LentAttribute → AttributesLeft → Type 0
GivesOfKind kind old result new =
    (new.class ≡ old.class)
    × MatchOption result (of_kind_left kind old ≡ [])
    (λ item. (of_kind_left kind old ≡ item.attribute ∷ of_kind_left kind new) × (item.class ≡ old.class))

-- an attribute of the kind passes the test
abbrev pub any_of : ClassFile → AttributeKind → (Attribute → Bool) → List PlacedAttribute → Bool
any_of c kind test attributes = list_any (λ a. is_recognised c kind a.holder a.attribute && test a.attribute) attributes
