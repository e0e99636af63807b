use Rattle.std.proofs.Common.{sym, subst}
use Rattle.std.specs.List.{Contains}
use Rattle.jc_base.proofs.texts.SpelledBytes.{ascii_alike}
use Rattle.jc_base.proofs.modified_utf8.ascii_stands_for_itself.Goals as goal

pub returns : goal.returns
returns c = λ us bytes b spells low high.
    let alike = ascii_alike us b low high in
    (λ h. subst (λ xs. Contains xs b) (sym spells.1) (alike.0 h), λ h. alike.1 (subst (λ xs. Contains xs b) spells.1 h))
