use Rattle.std.proofs.Common.{◌≡◌, drop, map}
use Rattle.jc_classes.specs.Lent.{key_lent}
use Rattle.jc_classes.specs.Worlds.{member}
use Rattle.jc_classes.specs.inside.FactsShown.{member_shown}
use Rattle.jc_classes.proofs.member_lookup.OrderedMembers.find_in_turn.Given as goal

abbrev pub invariant-loop-entry : goal.invariant-loop-entry
invariant-loop-entry l = member (map (member_shown l.self.texts.now) (drop l.entry-index l.self.members.now)) (key_lent l.key) ≡ member (map (member_shown l.self.texts.now) l.self.members.now) (key_lent l.key)
