use Rattle.std.proofs.Common.{ℕ, List, ap, codes}
use Rattle.std.specs.List.{flat_map}
use Rattle.jc_view.specs.Lent.{MembersLeft}
use Rattle.jc_view.specs.Places.{attributes_in}
use Rattle.jc_file.specs.declared.access_flag.AccessFlag.{AccessFlag}
use Rattle.jc_file.specs.AccessFlags.{field_flags, method_flags}
use Rattle.jc_file.specs.Faults.{faults}
use Rattle.jc_text.proofs.Sending.{◌⟫◌, sends_equal}
use Rattle.jc_list.specs.AttributeLines.{attribute_lines}
use Rattle.jc_list.specs.FaultLines.{code_fault_line, format_line}
use Rattle.jc_code.specs.MethodFaults.{code_faults}
use Rattle.jc_list.specs.Listing.{listing}
use Rattle.jc_list.specs.MemberLines.{field_lines, member_lines, method_lines}
use Rattle.jc_list.proofs.fronts.OneBehindAnother.{begins_equal, begins_first, begins_second, lists_front}
use Rattle.jc_list.proofs.listing.write_lines.Goals as goal

abbrev lines_left : List ℕ → List AccessFlag → MembersLeft → List ℕ
lines_left word flags members = flat_map (member_lines members.class word flags) members.left

pub returns-in_err-write_members-clause-lists : goal.returns-in_err-write_members-clause-lists
unfolding listing field_lines method_lines
returns-in_err-write_members-clause-lists g c =
    let k = c.args.class.now in
    let methods = method_lines k in
    let attributes = flat_map (attribute_lines k (codes "")) (attributes_in k) in
    let format = flat_map format_line (faults k) in
    let code = flat_map code_fault_line (code_faults k) in
    lists_front c.from_residual.result c.from_residual.ensures.0
    (begins_first _ code (begins_first _ format (begins_first _ attributes (begins_first _ methods (begins_second _ _ (c.write_class_lines.ensures ⟫ c.write_constant_lines.ensures) (begins_equal _ _ (ap (lines_left (codes "field") field_flags) c.fields.ensures.left) c.in_err-write_members.ensures))))))

pub returns-in_err-write_members-2-clause-lists : goal.returns-in_err-write_members-2-clause-lists
unfolding listing field_lines method_lines
returns-in_err-write_members-2-clause-lists g c =
    let of_fields = sends_equal (ap (lines_left (codes "field") field_flags) c.fields.ensures.left) c.in_ok-write_members.ensures in
    let k = c.args.class.now in
    let attributes = flat_map (attribute_lines k (codes "")) (attributes_in k) in
    let format = flat_map format_line (faults k) in
    let code = flat_map code_fault_line (code_faults k) in
    lists_front c.from_residual-in_err-write_members-2.result c.from_residual-in_err-write_members-2.ensures.0
    (begins_first _ code (begins_first _ format (begins_first _ attributes (begins_second _ _ (c.write_class_lines.ensures ⟫ c.write_constant_lines.ensures ⟫ of_fields) (begins_equal _ _ (ap (lines_left (codes "method") method_flags) c.methods.ensures.left) c.in_err-write_members-2.ensures)))))

pub returns-in_err-write_attributes-clause-lists : goal.returns-in_err-write_attributes-clause-lists
unfolding listing field_lines method_lines
returns-in_err-write_attributes-clause-lists g c =
    let of_fields = sends_equal (ap (lines_left (codes "field") field_flags) c.fields.ensures.left) c.in_ok-write_members.ensures in
    let of_methods = sends_equal (ap (lines_left (codes "method") method_flags) c.methods.ensures.left) c.in_ok-write_members-2.ensures in
    let k = c.args.class.now in
    let format = flat_map format_line (faults k) in
    let code = flat_map code_fault_line (code_faults k) in
    lists_front c.from_residual-in_err-write_attributes.result c.from_residual-in_err-write_attributes.ensures.0
    (begins_first _ code (begins_first _ format (begins_second _ _ (c.write_class_lines.ensures ⟫ c.write_constant_lines.ensures ⟫ of_fields ⟫ of_methods) (begins_equal _ _ (ap (λ i. flat_map (attribute_lines i.class (codes "")) i.left) c.attributes.ensures.left) c.in_err-write_attributes.ensures))))

pub returns-in_err-breaks_format-clause-lists : goal.returns-in_err-breaks_format-clause-lists
unfolding listing field_lines method_lines
returns-in_err-breaks_format-clause-lists g c =
    let of_fields = sends_equal (ap (lines_left (codes "field") field_flags) c.fields.ensures.left) c.in_ok-write_members.ensures in
    let of_methods = sends_equal (ap (lines_left (codes "method") method_flags) c.methods.ensures.left) c.in_ok-write_members-2.ensures in
    let of_class = sends_equal (ap (λ i. flat_map (attribute_lines i.class (codes "")) i.left) c.attributes.ensures.left) c.in_ok-write_attributes.ensures in
    let k = c.args.class.now in
    let code = flat_map code_fault_line (code_faults k) in
    lists_front c.from_residual-in_err-breaks_format.result c.from_residual-in_err-breaks_format.ensures.0
    (begins_first _ code (begins_second _ _ (c.write_class_lines.ensures ⟫ c.write_constant_lines.ensures ⟫ of_fields ⟫ of_methods ⟫ of_class) c.in_err-breaks_format.ensures.lists))

pub returns-in_err-breaks_code-clause-lists : goal.returns-in_err-breaks_code-clause-lists
unfolding listing field_lines method_lines
returns-in_err-breaks_code-clause-lists g c =
    let of_fields = sends_equal (ap (lines_left (codes "field") field_flags) c.fields.ensures.left) c.in_ok-write_members.ensures in
    let of_methods = sends_equal (ap (lines_left (codes "method") method_flags) c.methods.ensures.left) c.in_ok-write_members-2.ensures in
    let of_class = sends_equal (ap (λ i. flat_map (attribute_lines i.class (codes "")) i.left) c.attributes.ensures.left) c.in_ok-write_attributes.ensures in
    let k = c.args.class.now in
    lists_front c.from_residual-in_err-breaks_code.result c.from_residual-in_err-breaks_code.ensures.0
    (begins_second _ _ (c.write_class_lines.ensures ⟫ c.write_constant_lines.ensures ⟫ of_fields ⟫ of_methods ⟫ of_class ⟫ c.in_ok-breaks_format.ensures.lists) c.in_err-breaks_code.ensures.lists)

pub returns-then-breaks_format-clause-lists : goal.returns-then-breaks_format-clause-lists
unfolding listing field_lines method_lines
returns-then-breaks_format-clause-lists g c =
    let of_fields = sends_equal (ap (lines_left (codes "field") field_flags) c.fields.ensures.left) c.in_ok-write_members.ensures in
    let of_methods = sends_equal (ap (lines_left (codes "method") method_flags) c.methods.ensures.left) c.in_ok-write_members-2.ensures in
    let of_class = sends_equal (ap (λ i. flat_map (attribute_lines i.class (codes "")) i.left) c.attributes.ensures.left) c.in_ok-write_attributes.ensures in
    c.write_class_lines.ensures ⟫ c.write_constant_lines.ensures ⟫ of_fields ⟫ of_methods ⟫ of_class ⟫ c.in_ok-breaks_format.ensures.lists ⟫ c.in_ok-breaks_code.ensures.lists

pub returns-else-breaks_format-clause-lists : goal.returns-else-breaks_format-clause-lists
unfolding listing field_lines method_lines
returns-else-breaks_format-clause-lists g c =
    let of_fields = sends_equal (ap (lines_left (codes "field") field_flags) c.fields.ensures.left) c.in_ok-write_members.ensures in
    let of_methods = sends_equal (ap (lines_left (codes "method") method_flags) c.methods.ensures.left) c.in_ok-write_members-2.ensures in
    let of_class = sends_equal (ap (λ i. flat_map (attribute_lines i.class (codes "")) i.left) c.attributes.ensures.left) c.in_ok-write_attributes.ensures in
    c.write_class_lines.ensures ⟫ c.write_constant_lines.ensures ⟫ of_fields ⟫ of_methods ⟫ of_class ⟫ c.in_ok-breaks_format.ensures.lists ⟫ c.in_ok-breaks_code.ensures.lists
