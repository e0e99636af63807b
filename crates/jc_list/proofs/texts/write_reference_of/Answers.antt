use Rattle.std.proofs.Common.{◌∙◌, ◌++◌, ap, codes, sym}
use Rattle.jc_view.specs.Lent.{constant_of}
use Rattle.jc_text.proofs.Sending.{sends_equal, sends_nothing}
use Rattle.jc_list.specs.Texts.{reference_of, shown_text}
use Rattle.jc_list.proofs.lines.References.{refers_to_nothing}
use Rattle.jc_list.proofs.texts.write_reference_of.Goals as goal

pub returns-in-Class : goal.returns-in-Class
returns-in-Class g c =
    sends_equal (ap (λ t. codes " class " ++ shown_text t) c.utf8-2.ensures ∙ ap (λ k. reference_of c.args.class.now (constant_of k)) (sym c.in-Class.is)) c.write_text_behind.ensures

pub returns-in-Fieldref : goal.returns-in-Fieldref
returns-in-Fieldref g c =
    sends_equal (ap (λ k. reference_of c.args.class.now (constant_of k)) (sym c.in-Fieldref.is)) c.write_member_reference.ensures

pub returns-in-Methodref : goal.returns-in-Methodref
returns-in-Methodref g c =
    sends_equal (ap (λ k. reference_of c.args.class.now (constant_of k)) (sym c.in-Methodref.is)) c.write_member_reference-in-Methodref.ensures

pub returns-in-InterfaceMethodref : goal.returns-in-InterfaceMethodref
returns-in-InterfaceMethodref g c =
    sends_equal (ap (λ k. reference_of c.args.class.now (constant_of k)) (sym c.in-InterfaceMethodref.is))
    c.write_member_reference-in-InterfaceMethodref.ensures

pub returns-in_default : goal.returns-in_default
returns-in_default g c =
    let nothing = refers_to_nothing c.args.class.now c.args.constant c.in_default.not-Class c.in_default.not-Fieldref c.in_default.not-Methodref c.in_default.not-InterfaceMethodref in
    sends_equal (sym nothing) (sends_nothing _ _ _)
