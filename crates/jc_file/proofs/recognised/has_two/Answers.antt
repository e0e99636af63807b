use Rattle.std.proofs.Common.{◌∙◌, sym}
use Rattle.jc_file.proofs.kinds.CountOfKind as count
use Rattle.jc_file.proofs.recognised.has_two.Goals as goal

pub returns-then-is_some : goal.returns-then-is_some
returns-then-is_some c =
    let found = rw c.attributes-attributes.ensures at c.next_of_kind.ensures in
    c.is_some-then-is_some.ensures
    ∙ count.has_two c.args.kind c.args.member.now.class c.args.member.now.member c.next_of_kind.new.attributes c.next_of_kind-then-is_some.new.attributes c.next_of_kind.result c.next_of_kind-then-is_some.result
    found (sym c.is_some.ensures ∙ c.if-is_some.true) c.next_of_kind-then-is_some.ensures

pub returns-else-is_some : goal.returns-else-is_some
returns-else-is_some c =
    let found = rw c.attributes-attributes.ensures at c.next_of_kind.ensures in
    c.if-is_some.false ∙ count.has_none c.args.kind c.args.member.now.class c.args.member.now.member c.next_of_kind.new.attributes c.next_of_kind.result found (sym c.is_some.ensures ∙ c.if-is_some.false)
