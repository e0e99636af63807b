use Rattle.std.proofs.Common.{◌∙◌, ◌++◌, ap, sym, length, decimal, codes}
use Rattle.jc_text.proofs.Sending.{◌⟫◌, sends_equal, sends_nothing}
use Rattle.jc_view.specs.Lookups.{utf8_at}
use Rattle.jc_list.specs.Texts.{shown_text}
use Rattle.jc_list.specs.AttributeLines.{entry_text}
use Rattle.jc_list.proofs.fronts.OneBehindAnother.{begins_equal, begins_first, begins_second, both_behind, lists_front, sends_to}
use Rattle.jc_list.proofs.told.AttributeTexts.{if_not_two, if_two}
use Rattle.jc_list.proofs.attributes.write_attribute_line.Goals.{then-bytes-eq2+in_ok-write_entry, else-bytes-eq2}
use Rattle.jc_list.proofs.attributes.write_attribute_line.Goals as goal

pub returns-in_err-write_entry : goal.returns-in_err-write_entry
returns-in_err-write_entry g c =
    let a = c.args.attribute.now in
    let bytes = a.attribute.attribute.bytes in
    let size = ap length c.bytes-bytes.ensures in
    let entry = begins_equal _ _ (if_two (length bytes) (entry_text a.class a.attribute) (sym size ∙ c.if-bytes-eq2.true)) c.in_err-write_entry.ensures in
    lists_front c.from_residual.result c.from_residual.ensures.0
    (begins_first _ (codes "\n")
    (begins_second _ _ (both_behind (codes " ") (decimal (length bytes)) (both_behind (codes "attribute ") (shown_text (utf8_at a.class a.attribute.attribute.name)) c.text.ensures (sends_equal (ap (λ t. codes "attribute " ++ shown_text t) c.name.ensures) c.write_text_behind.ensures)) (sends_equal (ap (λ n. codes " " ++ decimal n) size) c.write_number.ensures)) entry))

pub returns : goal.returns
returns g c =
    elim c.if-bytes-eq2.branch [
      | then-bytes-eq2+in_ok-write_entry w ↦
          let a = c.args.attribute.now in
          let bytes = a.attribute.attribute.bytes in
          let size = ap length c.bytes-bytes.ensures in
          both_behind (codes " ") (decimal (length bytes)) (both_behind (codes "attribute ") (shown_text (utf8_at a.class a.attribute.attribute.name)) c.text.ensures (sends_equal (ap (λ t. codes "attribute " ++ shown_text t) c.name.ensures) c.write_text_behind.ensures)) (sends_equal (ap (λ n. codes " " ++ decimal n) size) c.write_number.ensures)
          ⟫ sends_equal (if_two (length bytes) (entry_text a.class a.attribute) (sym size ∙ w.if-bytes-eq2.true)) (sends_to w.out-is w.in_ok-write_entry.ensures) ⟫ c.text-2.ensures
      | else-bytes-eq2 w ↦
          let a = c.args.attribute.now in
          let bytes = a.attribute.attribute.bytes in
          let size = ap length c.bytes-bytes.ensures in
          both_behind (codes " ") (decimal (length bytes)) (both_behind (codes "attribute ") (shown_text (utf8_at a.class a.attribute.attribute.name)) c.text.ensures (sends_equal (ap (λ t. codes "attribute " ++ shown_text t) c.name.ensures) c.write_text_behind.ensures)) (sends_equal (ap (λ n. codes " " ++ decimal n) size) c.write_number.ensures)
          ⟫ sends_equal (if_not_two (length bytes) (entry_text a.class a.attribute) (λ e. w.if-bytes-eq2.false (size ∙ e))) (sends_to w.out-is (sends_nothing _ _ _)) ⟫ c.text-2.ensures
    ]
