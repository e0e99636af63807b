-- The classes of the code, as data.
use Rattle.jc_classes.specs.Worlds.{Found}
use Rattle.jc_classes.specs.Lent.{member_lent}
use Rattle.jc_numbered.specs.inside.Indexed.{Indexed, filled, indexed_name}
use Rattle.jc_numbered.specs.declared.classes.Classes.{Classes}
use Rattle.jc_numbered.specs.declared.classes.FoundMember.{FoundMember}

abbrev pub indexed_of : Classes → Indexed
indexed_of c = filled c.names.now c.standing.now c.supertypes.now c.rank.items c.good.items

-- the member that was found, with the name of its class
abbrev pub found_at : Indexed → FoundMember → Found
found_at x h = record { home = indexed_name x h.node; member = member_lent h.member }
