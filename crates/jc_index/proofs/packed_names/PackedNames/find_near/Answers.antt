use Rattle.std.proofs.Common.{◌≡◌, ◌∙◌, ◌<◌, length, arith, ap, sym}
use Rattle.jc_classes.specs.NameLists.{has}
use Rattle.jc_classes.specs.Numbers.{name_at}
use Rattle.jc_classes.proofs.worlds.NameTests.{same_is}
use Rattle.jc_index.proofs.lists.Edited.{stands_has}
use Rattle.jc_index.proofs.packed_names.PackedNames.find_near.Goals as goal

pub returns-then-same : goal.returns-then-same
returns-then-same c =
    let names = c.self.inside.names in
    let name = c.args.name.now in
    let within : c.args.place < length names = omega (arith, c.if-place-len.true, c.len.ensures) in
    let here : name_at names c.args.place ≡ name = sym c.text.ensures ∙ same_is c.text.result.now name (sym c.if-same.ensures) in
    sym (stands_has names name c.args.place (within, here)) ∙ ap (λ l. has l name) c.self.view_is
