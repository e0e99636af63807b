use Rattle.std.proofs.Common.{◌∙◌, sym}
use Rattle.jc_code.proofs.sizes.FilledLists.{none_more, one_more}
use Rattle.jc_code.proofs.sizes.SizesAt.{no_array}
use Rattle.jc_code.proofs.text_sizes.add_dimensions.Goals as goal

pub returns-in_ok-push : goal.returns-in_ok-push
returns-in_ok-push c = λ at fills is.
    let dims = c.args.dims.now in
    one_more 0 at c.args.index dims.items fills c.resize.new.self.items c.push.new.self.items c.dimensions_of.result _ dims.ok.0 c.in_ok-resize.ensures.items c.in_ok-push.ensures.items
    (is ∙ sym c.dimensions_of.ensures)

pub returns-else-is_array : goal.returns-else-is_array
returns-else-is_array c = λ at fills is.
    none_more 0 at c.args.index c.args.dims.now.items fills (is ∙ no_array c.args.text.now (sym c.is_array.ensures ∙ c.if-is_array.false))
