use Rattle.std.proofs.Common.{[], ◌∙◌, ap, sym}
use Rattle.std.specs.Option.{option_map, option_map_or}
use Rattle.jc_view.specs.Lent.{constant_of}
use Rattle.jc_text.proofs.Sending.{sends_equal, sends_nothing}
use Rattle.jc_list.specs.ConstantLines.{constant_line}
use Rattle.jc_list.proofs.constants.write_line_at.Goals as goal

pub returns-in-Some : goal.returns-in-Some
returns-in-Some g c =
    let stands = ap (option_map constant_of) (sym c.in-Some.is) ∙ c.constant.ensures in
    sends_equal (ap (λ k. option_map_or (constant_line c.args.index) k []) stands) c.write_constant_line.ensures

pub returns-in_default : goal.returns-in_default
returns-in_default g c =
    let stands = ap (option_map constant_of) (sym c.in_default.is) ∙ c.constant.ensures in
    sends_equal (ap (λ k. option_map_or (constant_line c.args.index) k []) stands) (sends_nothing _ _ _)
