use Rattle.std.proofs.Common.{◌∙◌, rules, sym}
use Rattle.jc_list.proofs.fronts.WrittenAtLast.{all_of_written, count_at_exit, count_of_failed, listing_at_exit, front_of_failed, lists_same_reference, on_err, on_ok}
use Rattle.jc_list.proofs.listing.list_class.Goals as goal

pub returns-then-is_err-clause-listing : goal.returns-then-is_err-clause-listing
returns-then-is_err-clause-listing g c =
    let same = lists_same_reference _ _ c.new-text.result c.write_lines-listed.new.out _ c.write_lines-listed.result c.write_lines-listed.ensures.lists in
    front_of_failed _ _ c.new-text.result c.write_lines-listed.new.out c.finish.new.self _ c.args.out.now _ c.new-text.ensures.fresh c.new-text.ensures.unchanged (search rules) c.finish.ensures.sends
    c.write_lines-listed.result c.write_lines-listed.ensures.lists (on_err c.finish.result (sym c.is_err.ensures.value ∙ c.if-is_err.true) c.finish.ensures.err)

pub returns-then-is_err-clause-failures : goal.returns-then-is_err-clause-failures
returns-then-is_err-clause-failures g c =
    let same = lists_same_reference _ _ c.new-text.result c.write_lines-listed.new.out _ c.write_lines-listed.result c.write_lines-listed.ensures.lists in
    count_of_failed _ _ c.new-text.result c.write_lines-listed.new.out c.finish.new.self _ c.args.out.now _ c.new-text.ensures.fresh c.new-text.ensures.unchanged (search rules) c.finish.ensures.sends
    c.write_lines-listed.result c.write_lines-listed.ensures.lists (on_err c.finish.result (sym c.is_err.ensures.value ∙ c.if-is_err.true) c.finish.ensures.err)

pub returns-in_err-listed-clause-listing : goal.returns-in_err-listed-clause-listing
returns-in_err-listed-clause-listing g c =
    let same = lists_same_reference _ _ c.new-text.result c.write_lines-listed.new.out _ c.write_lines-listed.result c.write_lines-listed.ensures.lists in
    listing_at_exit _ _ c.new-text.result c.write_lines-listed.new.out c.finish.new.self _ c.args.out.now _ c.new-text.ensures.fresh c.new-text.ensures.unchanged (search rules) c.finish.ensures.sends
    c.from_residual.result c.from_residual.ensures.1 c.in_err-listed.ensures.lists (on_ok c.finish.result (sym c.is_err.ensures.value ∙ c.if-is_err.false) c.finish.ensures.ok)

pub returns-in_err-listed-clause-failures : goal.returns-in_err-listed-clause-failures
returns-in_err-listed-clause-failures g c =
    let same = lists_same_reference _ _ c.new-text.result c.write_lines-listed.new.out _ c.write_lines-listed.result c.write_lines-listed.ensures.lists in
    count_at_exit _ _ c.new-text.result c.write_lines-listed.new.out c.finish.new.self _ c.args.out.now _ c.new-text.ensures.fresh c.new-text.ensures.unchanged (search rules) c.finish.ensures.sends
    c.from_residual.result c.from_residual.ensures.1 c.in_err-listed.ensures.lists (on_ok c.finish.result (sym c.is_err.ensures.value ∙ c.if-is_err.false) c.finish.ensures.ok)

pub returns-clause-listing : goal.returns-clause-listing
returns-clause-listing g c =
    let same = lists_same_reference _ _ c.new-text.result c.write_lines-listed.new.out _ c.write_lines-listed.result c.write_lines-listed.ensures.lists in
    (all_of_written _ _ c.new-text.result c.write_lines-listed.new.out c.finish.new.self _ c.args.out.now _ c.new-text.ensures.fresh c.new-text.ensures.unchanged (search rules) c.finish.ensures.sends
    c.in_ok-listed.ensures.lists (on_ok c.finish.result (sym c.is_err.ensures.value ∙ c.if-is_err.false) c.finish.ensures.ok)).0

pub returns-clause-failures : goal.returns-clause-failures
returns-clause-failures g c =
    let same = lists_same_reference _ _ c.new-text.result c.write_lines-listed.new.out _ c.write_lines-listed.result c.write_lines-listed.ensures.lists in
    (all_of_written _ _ c.new-text.result c.write_lines-listed.new.out c.finish.new.self _ c.args.out.now _ c.new-text.ensures.fresh c.new-text.ensures.unchanged (search rules) c.finish.ensures.sends
    c.in_ok-listed.ensures.lists (on_ok c.finish.result (sym c.is_err.ensures.value ∙ c.if-is_err.false) c.finish.ensures.ok)).1
