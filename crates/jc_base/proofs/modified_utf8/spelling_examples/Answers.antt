use Rattle.std.proofs.Common.{refl, [], ◌∷◌, lit<}
use Rattle.jc_base.specs.ModifiedUtf8.{spelling}
use Rattle.jc_base.specs.FirstUnit.{first_unit, two_byte_unit, three_byte_unit, six_bits}
use Rattle.jc_base.proofs.texts.WellSpelledFronts.{none_stands, longest_front}
use Rattle.jc_base.proofs.modified_utf8.spelling_examples.Goals as goal

pub returns : goal.returns
unfolding spelling first_unit two_byte_unit three_byte_unit six_bits
returns c = record {
  capital_a = refl;
  zero = refl;
  last_of_one = refl;
  last_of_two = refl;
  last_of_three = refl;
  surrogates = refl;
  overlong_two = none_stands _ (lit< tt) refl;
  overlong_three = none_stands _ (lit< tt) refl;
  four_bytes = none_stands _ (lit< tt) refl;
  zero_byte = none_stands _ (lit< tt) refl;
  lone_continuation = none_stands _ (lit< tt) refl;
  cut_short = none_stands _ (lit< tt) refl;
  second_is_wrong = longest_front (0x41 ∷ 0xc1 ∷ 0x81 ∷ []) 1 (lit< tt) (0x41 ∷ [], ((lit< tt, tt), refl)) refl;
}
