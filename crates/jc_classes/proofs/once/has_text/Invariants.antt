use Rattle.std.proofs.Common.{◌≡◌, drop, map}
use Rattle.jc_classes.specs.NameLists.{has}
use Rattle.jc_classes.specs.inside.FactsShown.{text_at}
use Rattle.jc_classes.proofs.once.has_text.Given as goal

-- those that are left decide
abbrev pub invariant-loop-name : goal.invariant-loop-name
invariant-loop-name l = has (map (text_at l.texts) l.names) l.text ≡ has (map (text_at l.texts) (drop l.name-index l.names)) l.text
