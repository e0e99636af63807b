use Rattle.std.proofs.Common.{subst, sym}
use Rattle.jc_file.specs.inside.TextNumbers.{IsNumberedKey}
use Rattle.jc_file.proofs.keys.NumberedKeys.{number_is, key_numbered}
use Rattle.jc_file.proofs.repeated.numbered_key.Goals as goal

pub returns-clause-ok : goal.returns-clause-ok
returns-clause-ok c =
    let class = c.args.member.now.class in
    let m = c.args.member.now.member.member in
    subst (IsNumberedKey class c.number-2.new.self m) (sym c.zip.ensures)
    (key_numbered class c.number.new.self c.number-2.new.self m c.in_ok-name.name c.in_ok-descriptor.descriptor
    (number_is class c.number.new.self m.name _ _ c.in_ok-name.name c.class.ensures c.name_index.ensures c.in_ok-name.ensures.ok)
    c.number-2.ensures.keeps
    (number_is class c.number-2.new.self m.descriptor _ _ c.in_ok-descriptor.descriptor c.class-2.ensures c.descriptor_index.ensures c.in_ok-descriptor.ensures.ok))
