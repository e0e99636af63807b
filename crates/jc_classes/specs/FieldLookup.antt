-- Look-up of fields (JVMS 5.4.3.2).
use Rattle.std.specs.Prelude.{◌≡◌, List, [], ◌∷◌, ◌++◌, Option, Some, None}
use Rattle.std.specs.Option.{option_to_list}
use Rattle.jc_classes.specs.Names.{Name}
use Rattle.jc_classes.specs.Worlds.{Stands, World, superclass_of, interfaces_of, fields_of, member, Found}
use Rattle.jc_classes.specs.Facts.{Member, Key}

-- where look-up of a field continues: the direct superinterfaces in file order, then the superclass
abbrev pub onward : Stands → List Name
onward r = interfaces_of r ++ option_to_list (superclass_of r)

mutual
  -- what look-up of a field finds from a class: its own field, or else what is found from the names in `onward`
  pub data FindsField (m : World) (k : Key) : Name → Option Found → Type 0 where
    own : {c : Name} {x : Member} → member (fields_of (m c)) k ≡ Some x → FindsField m k c (Some (record { home = c; member = x }))
    inherited : {c : Name} {a : Option Found} → member (fields_of (m c)) k ≡ None → FindsFirst m k (onward (m c)) a
        → FindsField m k c a

  -- what look-up of a field finds from several names, in their order; the first from which a field is found decides
  pub data FindsFirst (m : World) (k : Key) : List Name → Option Found → Type 0 where
    nowhere : FindsFirst m k [] None
    here : {s : Name} {more : List Name} {f : Found} → FindsField m k s (Some f) → FindsFirst m k (s ∷ more) (Some f)
    later : {s : Name} {more : List Name} {a : Option Found} → FindsField m k s None → FindsFirst m k more a
        → FindsFirst m k (s ∷ more) a
