use Rattle.std.proofs.Common.{◌≡◌, ◌∙◌, Some, ap, sym}
use Rattle.std.specs.Option.{option_copied}
use Rattle.jc_view.specs.Lookups.{utf8_at}
use Rattle.jc_file.proofs.keys.NumberedTexts.{numbers_more}
use Rattle.jc_file.proofs.text_numbers.TextNumbers.number.Goals as goal

pub returns-clause-sound : goal.returns-clause-sound
returns-clause-sound c =
    let is_at : utf8_at c.args.class.now c.args.index ≡ Some c.in-Some-utf8.text.now = sym c.utf8-2.ensures ∙ ap option_copied c.in-Some-utf8.is in
    numbers_more c.args.class.now c.args.self.now _ c.in-Some-utf8.text.now c.args.index c.in_ok-number.number is_at c.in_ok-number.ensures.number c.in_ok-number.ensures.ok c.requires c.keep.ensures
