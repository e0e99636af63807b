-- References with the same kind, class and key, by the numbers of their texts.
use Rattle.std.specs.Prelude.{◌≡◌, ℕ, ◌<◌, List, Some, slice_get}
use Rattle.jc_classes.specs.declared.facts.ReferenceEntry.{ReferenceEntry}

pub record AskAlike (a b : ReferenceEntry) : Type 0 where
  pub kind : a.kind ≡ b.kind
  pub class : a.class ≡ b.class
  pub name : a.name ≡ b.name
  pub descriptor : a.descriptor ≡ b.descriptor

-- the reference of number k is before that of `number`, and the names of both classes have the same number
abbrev pub IsOfOneClass : List ReferenceEntry → ℕ → ℕ → Type 0
IsOfOneClass entries number k =
    (k < number) × ((a b : ReferenceEntry) → slice_get entries k ≡ Some a → slice_get entries number ≡ Some b → a.class ≡ b.class)
