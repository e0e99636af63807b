use Rattle.std.proofs.Common.{[], ap, ◌∙◌}
use Rattle.std.specs.Option.{option_map_or}
use Rattle.jc_view.specs.ClassFile.{class_text_at}
use Rattle.jc_classes.proofs.texts.ConstantTexts.{no_text}
use Rattle.jc_classes.proofs.read_facts.own_name_index.Goals as goal

pub returns-in-None : goal.returns-in-None
returns-in-None c =
    no_text c.args.class.now
    ∙ ap (λ o. option_map_or (λ name. name) o []) c.in-None.ensures
    ∙ ap (λ index. option_map_or (λ name. name) (class_text_at c.args.class.now index) []) c.this_class.ensures
