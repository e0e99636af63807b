use Rattle.jc_view.specs.ClassFile.{layout}
use Rattle.jc_view.specs.AttributeReading.{all_attributes}
use Rattle.jc_view.specs.Places.{HasBytesAt}
use Rattle.jc_view.proofs.places.ConstantPlaces.{text_lies, class_text_lies}
use Rattle.jc_view.proofs.places.BytesInLayout.{in_all, all_lie, instructions_lie}
use Rattle.jc_view.proofs.laws.texts_lie_in_the_layout.Goals as goal

pub returns : goal.returns
returns c = record {
  texts = λ k fits index text e. text_lies k index text fits e;
  class_texts = λ k fits index text e. class_text_lies k index text fits e;
  codes = λ k fits a code within e. instructions_lie k a code (in_all (HasBytesAt (layout k)) (all_attributes k) a (all_lie k fits) within) e;
  attributes = λ k fits a within. in_all (HasBytesAt (layout k)) (all_attributes k) a (all_lie k fits) within;
}
