-- Borrowed members, with the order in which they are searched.
use Rattle.std.specs.Prelude.{List, map}
use Rattle.jc_classes.specs.Facts.{Member}
use Rattle.jc_classes.specs.declared.member_lookup.OrderedMembers.{OrderedMembers}
use Rattle.jc_classes.specs.inside.FactsShown.{member_shown}

abbrev pub shown : OrderedMembers → List Member
shown ordered = map (member_shown ordered.texts.now) ordered.members.now
