use Rattle.std.proofs.Common.{◌≡◌, ◌∙◌, ◌++◌, [], cond, ap, subst, sym}
use Rattle.std.specs.Prelude.{OnOk}
use Rattle.std.proofs.lemmas.List.{append-nil}
use Rattle.jc_classes.specs.UsedConstants.{named_by_table}
use Rattle.jc_classes.proofs.used.add_by_attribute.Goals as goal

pub returns-then-is : goal.returns-then-is
returns-then-is c =
    let names = c.args.names.now.items in
    subst (λ v. OnOk c.add_by_table.result (c.add_by_table.new.names.items ≡ v))
    (ap (λ bytes. names ++ named_by_table bytes) c.bytes.ensures ∙ ap (λ b. names ++ cond b (named_by_table c.args.attribute.now.attribute.attribute.bytes) []) (sym c.if-is.true ∙ c.is.ensures))
    c.add_by_table.ensures

pub returns-else-is : goal.returns-else-is
returns-else-is c =
    let names = c.args.names.now.items in
    sym (append-nil names) ∙ ap (λ b. names ++ cond b (named_by_table c.args.attribute.now.attribute.attribute.bytes) []) (sym c.if-is.false ∙ c.is.ensures)
