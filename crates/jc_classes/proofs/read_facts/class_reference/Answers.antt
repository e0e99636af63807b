use Rattle.std.proofs.Common.{Some, [], ap, ◌∙◌}
use Rattle.std.specs.Prelude.{option_and_then, ℕ, List}
use Rattle.jc_classes.specs.declared.reference.ReferenceKind.TheVariants as kinds
use Rattle.jc_classes.specs.Facts.{Reference}
use Rattle.jc_classes.specs.NamedTexts.{named_by}
use Rattle.jc_classes.specs.inside.ConstantTexts.{texts_of}
use Rattle.jc_classes.specs.inside.FactsShown.{text_at}
use Rattle.jc_classes.proofs.texts.ConstantTexts.{no_text}
use Rattle.jc_classes.proofs.read_facts.class_reference.Goals as goal

made : ℕ → List ℕ → List ℕ → Reference
made index text empty = record { index = index; kind = kinds.Class; named = named_by text; key = record { name = empty; descriptor = empty } }

pub returns : goal.returns
unfolding made
returns c =
    let text = text_at (texts_of c.args.class.now) c.in_ok-text.text in
    ap (λ empty. Some (made c.args.index text empty)) (no_text c.args.class.now)
    ∙ ap (option_and_then (λ t. Some (made c.args.index t []))) c.in_ok-text.ensures
