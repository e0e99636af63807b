use Rattle.std.proofs.Common.{refl}
use Rattle.jc_base.specs.TextTests.{units_within}
use Rattle.jc_base.specs.FirstUnit.{six_bits, two_byte_unit, three_byte_unit, first_unit}
use Rattle.jc_base.specs.FieldsInFront.{element_len, field_len, fields_of}
use Rattle.jc_base.specs.DescriptorTests.{leading_dims, field_type_of, method_type_of}
use Rattle.jc_view.specs.Places.{attributes_from, members_from}
use Rattle.jc_view.specs.Reading.{after_each, after_attribute}
use Rattle.jc_view.specs.AttributeReading.{after_code, after_bootstrap}
use Rattle.jc_file.specs.Faults.{faults}
use Rattle.jc_file.proofs.fault_laws.fault_examples.Goals as goal

pub returns-clause-none : goal.returns-clause-none
unfolding faults attributes_from members_from units_within first_unit six_bits two_byte_unit three_byte_unit leading_dims field_type_of method_type_of element_len field_len fields_of after_code after_each after_attribute after_bootstrap
returns-clause-none c = refl

pub returns-clause-nameless : goal.returns-clause-nameless
unfolding faults attributes_from members_from units_within first_unit six_bits two_byte_unit three_byte_unit leading_dims field_type_of method_type_of element_len field_len fields_of after_code after_each after_attribute after_bootstrap
returns-clause-nameless c = refl

pub returns-clause-flags : goal.returns-clause-flags
unfolding faults attributes_from members_from units_within first_unit six_bits two_byte_unit three_byte_unit leading_dims field_type_of method_type_of element_len field_len fields_of after_code after_each after_attribute after_bootstrap
returns-clause-flags c = refl

pub returns-clause-code : goal.returns-clause-code
unfolding faults attributes_from members_from units_within first_unit six_bits two_byte_unit three_byte_unit leading_dims field_type_of method_type_of element_len field_len fields_of after_code after_each after_attribute after_bootstrap
returns-clause-code c = refl
