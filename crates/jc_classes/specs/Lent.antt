-- Borrowed keys, members, references and classes as data.
use Rattle.jc_classes.specs.Worlds.{Stands as stands}
use Rattle.jc_classes.specs.Facts.{Key, Member, Reference}
use Rattle.jc_classes.specs.NamedTexts.{named_by}
use Rattle.jc_classes.specs.Worlds.{Stands}
use Rattle.jc_classes.specs.declared.member.Key.{Key as LentKey}
use Rattle.jc_classes.specs.declared.member.Member.{Member as LentMember}
use Rattle.jc_classes.specs.declared.reference.Reference.{Reference as LentReference}
use Rattle.jc_classes.specs.declared.standing.Standing.{Standing}
use Rattle.jc_classes.specs.declared.standing.Standing.TheVariants as standing

abbrev pub key_lent : LentKey → Key
key_lent k = record { name = k.name.now; descriptor = k.descriptor.now }

abbrev pub member_lent : LentMember → Member
member_lent x = record { name = x.name.now; descriptor = x.descriptor.now; flags = x.flags }

abbrev pub reference_lent : LentReference → Reference
reference_lent r = record { index = r.index; kind = r.kind; named = named_by r.class.now; key = key_lent r.key }

abbrev pub stands_of : Standing → Stands
stands_of (standing.Class facts) = stands.Class facts.now
stands_of standing.Outside = stands.Outside
stands_of standing.Absent = stands.Absent
