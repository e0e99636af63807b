use Rattle.std.proofs.Common.{◌≡◌, ◌-◌, map}
use Rattle.std.specs.List.{flat_map, range_with_len}
use Rattle.std.specs.Option.{option_to_list}
use Rattle.jc_classes.specs.FactsOf.{reference_at}
use Rattle.jc_classes.specs.inside.ClassTexts.{Tells}
use Rattle.jc_classes.specs.inside.FactsShown.{reference_shown}
use Rattle.jc_classes.proofs.class_texts.ClassTexts.references.Given as goal

abbrev pub invariant-loop-index : goal.invariant-loop-index
invariant-loop-index l = Tells l.fn.self l.self (λ texts. map (reference_shown texts) l.entries.items ≡ flat_map (λ index. option_to_list (reference_at l.fn.self.class index)) (range_with_len 1 (l.index - 1)))
