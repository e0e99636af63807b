use Rattle.std.proofs.Common.{◌≡◌, [], ◌∷◌, ◌++◌, take, Ok, Err, refl, codes}
use Rattle.jc_base.specs.TextTests.{units_within}
use Rattle.jc_base.specs.FirstUnit.{first_unit}
use Rattle.jc_view.specs.declared.parse_error.ParseError.TheVariants as errors
use Rattle.jc_view.specs.ConstantPool.{constant_bytes}
use Rattle.jc_view.specs.ClassFile.{layout}
use Rattle.jc_view.specs.Reading.{after_each, each_value, after_attribute, after_member, after_tail, first_constant, entry_at, entries_from, head_at, last_at, parts_at, class_value}
use Rattle.jc_view.specs.Outcome.{name_in, class_named}
use Rattle.jc_view.specs.Examples.{class_a, head, constants, tail}
use Rattle.jc_view.proofs.refusals.ByteTests.{are_bytes}
use Rattle.jc_view.proofs.laws.parsing_examples.Goals as goal

pub returns-clause-layout : goal.returns-clause-layout
unfolding layout constant_bytes
returns-clause-layout c = refl

is_named : class_named class_a ≡ Ok (codes "A")
unfolding class_named parts_at head_at entries_from entry_at first_constant last_at after_tail after_each after_member after_attribute class_value each_value name_in units_within first_unit
is_named = refl

pub returns-clause-named : goal.returns-clause-named
returns-clause-named c = (c.outcomes_are_exact.ensures.named class_a (codes "A") (are_bytes class_a refl)).0 is_named

more : class_named (class_a ++ 0 ∷ []) ≡ Err (errors.Trailing 53)
unfolding class_named parts_at head_at entries_from entry_at first_constant last_at after_tail after_each after_member after_attribute
more = refl

pub returns-clause-more : goal.returns-clause-more
returns-clause-more c = (c.outcomes_are_exact.ensures.refused (class_a ++ 0 ∷ []) (errors.Trailing 53) (are_bytes (class_a ++ 0 ∷ []) refl)).0 more

empty : class_named ([]) ≡ Err (errors.Short)
unfolding class_named parts_at head_at entries_from entry_at first_constant last_at after_tail after_each after_member after_attribute
empty = refl

pub returns-clause-empty : goal.returns-clause-empty
returns-clause-empty c = (c.outcomes_are_exact.ensures.refused ([]) (errors.Short) (are_bytes ([]) refl)).0 empty

cut : class_named (take 52 class_a) ≡ Err (errors.Short)
unfolding class_named parts_at head_at entries_from entry_at first_constant last_at after_tail after_each after_member after_attribute
cut = refl

pub returns-clause-cut : goal.returns-clause-cut
returns-clause-cut c = (c.outcomes_are_exact.ensures.refused (take 52 class_a) (errors.Short) (are_bytes (take 52 class_a) refl)).0 cut

tag : class_named (head 6 ++ constants ++ tail 1) ≡ Err (errors.Tag 39)
unfolding class_named parts_at head_at entries_from entry_at first_constant last_at after_tail after_each after_member after_attribute
tag = refl

pub returns-clause-tag : goal.returns-clause-tag
returns-clause-tag c = (c.outcomes_are_exact.ensures.refused (head 6 ++ constants ++ tail 1) (errors.Tag 39) (are_bytes (head 6 ++ constants ++ tail 1) refl)).0 tag

fewer : class_named (head 4 ++ constants ++ tail 1) ≡ Err (errors.Short)
unfolding class_named parts_at head_at entries_from entry_at first_constant last_at after_tail after_each after_member after_attribute
fewer = refl

pub returns-clause-fewer : goal.returns-clause-fewer
returns-clause-fewer c = (c.outcomes_are_exact.ensures.refused (head 4 ++ constants ++ tail 1) (errors.Short) (are_bytes (head 4 ++ constants ++ tail 1) refl)).0 fewer

wide : class_named (head 2 ++ 5 ∷ []) ≡ Err (errors.Wide 10)
unfolding class_named parts_at head_at entries_from entry_at first_constant last_at after_tail after_each after_member after_attribute
wide = refl

pub returns-clause-wide : goal.returns-clause-wide
returns-clause-wide c = (c.outcomes_are_exact.ensures.refused (head 2 ++ 5 ∷ []) (errors.Wide 10) (are_bytes (head 2 ++ 5 ∷ []) refl)).0 wide

no_tag : class_named (head 2 ++ 2 ∷ []) ≡ Err (errors.Tag 10)
unfolding class_named parts_at head_at entries_from entry_at first_constant last_at after_tail after_each after_member after_attribute
no_tag = refl

pub returns-clause-no_tag : goal.returns-clause-no_tag
returns-clause-no_tag c = (c.outcomes_are_exact.ensures.refused (head 2 ++ 2 ∷ []) (errors.Tag 10) (are_bytes (head 2 ++ 2 ∷ []) refl)).0 no_tag

no_name : class_named (head 5 ++ constants ++ tail 2) ≡ Err (errors.NoName)
unfolding class_named parts_at head_at entries_from entry_at first_constant last_at after_tail after_each after_member after_attribute class_value each_value name_in units_within first_unit
no_name = refl

pub returns-clause-no_name : goal.returns-clause-no_name
returns-clause-no_name c = (c.outcomes_are_exact.ensures.refused (head 5 ++ constants ++ tail 2) (errors.NoName) (are_bytes (head 5 ++ constants ++ tail 2) refl)).0 no_name
