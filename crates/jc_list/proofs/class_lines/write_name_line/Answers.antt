use Rattle.std.proofs.Common.{◌∙◌, ◌++◌, ap, codes}
use Rattle.jc_view.specs.ClassFile.{class_text_at}
use Rattle.jc_text.proofs.Sending.{◌⟫◌, sends_equal}
use Rattle.jc_list.specs.Texts.{shown_text}
use Rattle.jc_list.proofs.class_lines.write_name_line.Goals as goal

pub returns : goal.returns
returns g c =
    let name = c.class_text.ensures ∙ ap (class_text_at c.args.class.now) c.this_class.ensures in
    sends_equal (ap (λ t. codes "class " ++ shown_text t) name) c.write_text_behind.ensures ⟫ c.text.ensures
