use Rattle.std.proofs.Common.{◌≡◌, ◌++◌, map}
use Rattle.std.specs.List.{flat_map}
use Rattle.std.specs.Option.{option_to_list}
use Rattle.jc_view.specs.ClassFile.{class_text_at}
use Rattle.jc_classes.specs.FactsOf.{interfaces_in}
use Rattle.jc_classes.specs.inside.ClassTexts.{Tells}
use Rattle.jc_classes.specs.inside.FactsShown.{text_at}
use Rattle.jc_classes.proofs.class_texts.ClassTexts.interfaces.Given as goal

abbrev pub invariant-loop-index : goal.invariant-loop-index
invariant-loop-index l = Tells l.fn.self l.self (λ texts. map (text_at texts) l.names.items ++ flat_map (λ index. option_to_list (class_text_at l.fn.self.class index)) l.index-iterator ≡ interfaces_in l.fn.self.class)
