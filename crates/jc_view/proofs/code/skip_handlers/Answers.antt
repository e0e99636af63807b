use Rattle.std.proofs.Common.{Some, sym, rules, arith}
use Rattle.std.proofs.lemmas.Grind.{common_steps}
use Rattle.jc_view.specs.AttributeReading.{after_handlers}
use Rattle.jc_view.specs.declared.entries.Entries.{Entries}
use Rattle.jc_view.specs.inside.Tables.{LendsTable}
use Rattle.jc_view.proofs.reading.Tables.{after_all, table_of_size}
use Rattle.jc_view.proofs.places.Entries.{lends_same}
use Rattle.jc_view.proofs.code.skip_handlers.Goals as goal

pub returns-in_err-take : goal.returns-in_err-take
returns-in_err-take c =
    let at_once : LendsTable (after_all 8) c.args.cursor.now c.from_residual-in_err-take.result c.take.new.self = search rules in
    lends_same (after_all 8) after_handlers (λ xs. sym (table_of_size 8 xs)) c.args.cursor.now c.from_residual-in_err-take.result c.take.new.self at_once

pub returns : goal.returns
returns c =
    let table : Entries = record { left = c.in_ok-count.count; cursor = c.fork-first.result } in
    let at_once : LendsTable (after_all 8) c.args.cursor.now (Some table) c.take.new.self = grind (arith, common_steps) in
    lends_same (after_all 8) after_handlers (λ xs. sym (table_of_size 8 xs)) c.args.cursor.now (Some table) c.take.new.self at_once
