-- Comparison of facts.
use Rattle.std.specs.Prelude.{◌≡◌, Bool, true, false, ◌&&◌, Option, Some, None, nat_eq}
use Rattle.jc_base.specs.Bytes.{same_bytes}
use Rattle.jc_classes.specs.Facts.{Facts, Member}
use Rattle.jc_classes.specs.Names.{Name, same_name}
use Rattle.jc_classes.specs.declared.reference.Reference.{Reference as LentReference}

-- the two names are the same, or both are absent
abbrev pub same_option : (a b : Option Name) → Bool
same_option None None = true
same_option (Some a) None = false
same_option None (Some b) = false
same_option (Some a) (Some b) = same_name a b

abbrev pub same_head : (f g : Facts) → Bool
same_head f g = same_bytes f.path g.path && same_name f.name g.name && nat_eq f.flags g.flags && same_option f.superclass g.superclass

abbrev pub same_member : (a b : Member) → Bool
same_member a b = same_name a.name b.name && same_name a.descriptor b.descriptor && nat_eq a.flags b.flags

-- whether two references have the same index and the same texts; their kinds are not compared
abbrev pub same_texts : (r s : LentReference) → Bool
same_texts r s =
    nat_eq r.index s.index && same_name r.class.now s.class.now && same_name r.key.name.now s.key.name.now && same_name r.key.descriptor.now s.key.descriptor.now

abbrev pub IsSameUse : (f g : Facts) → Type 0
IsSameUse f g = (f.uses ≡ g.uses) × (f.users ≡ g.users)

abbrev pub AreSameFaults : (f g : Facts) → Type 0
AreSameFaults f g = (f.format_faults ≡ g.format_faults) × (f.code_faults ≡ g.code_faults)
