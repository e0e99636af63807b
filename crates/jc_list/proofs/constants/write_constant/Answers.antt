use Rattle.std.proofs.Common.{rules, w32, w64, ◌∙◌, ◌++◌, ap, codes, sym, decimal}
use Rattle.std.proofs.lemmas.Int.{to_z-of_z}
use Rattle.std.specs.Fmt.{signed_decimal}
use Rattle.jc_text.specs.Numbers.{hexadecimal}
use Rattle.jc_view.specs.Lent.{constant_of}
use Rattle.jc_text.proofs.Sending.{sends_equal}
use Rattle.jc_list.specs.Texts.{index_text}
use Rattle.jc_list.specs.ConstantLines.{constant_text}
use Rattle.jc_list.proofs.constants.write_constant.Goals as goal

pub returns-in-Utf8 : goal.returns-in-Utf8
returns-in-Utf8 g c = sends_equal (ap (λ k. constant_text (constant_of k)) (sym c.in-Utf8.is)) c.shown.ensures

pub returns-in-Integer : goal.returns-in-Integer
returns-in-Integer g c = sends_equal (ap signed_decimal (to_z-of_z w32 c.cast_signed.result (search rules) ∙ c.cast_signed.ensures) ∙ ap (λ k. constant_text (constant_of k)) (sym c.in-Integer.is)) c.decimal.ensures

pub returns-in-Float : goal.returns-in-Float
returns-in-Float g c =
    sends_equal (ap (λ bytes. codes "0x" ++ hexadecimal bytes) c.to_be_bytes.ensures ∙ ap (λ k. constant_text (constant_of k)) (sym c.in-Float.is)) c.write_bits.ensures

pub returns-in-Long : goal.returns-in-Long
returns-in-Long g c =
    sends_equal (ap signed_decimal (to_z-of_z w64 c.cast_signed-in-Long.result (search rules) ∙ c.cast_signed-in-Long.ensures) ∙ ap (λ k. constant_text (constant_of k)) (sym c.in-Long.is)) c.decimal-in-Long.ensures

pub returns-in-Double : goal.returns-in-Double
returns-in-Double g c =
    sends_equal (ap (λ bytes. codes "0x" ++ hexadecimal bytes) c.to_be_bytes-in-Double.ensures ∙ ap (λ k. constant_text (constant_of k)) (sym c.in-Double.is))
    c.write_bits-in-Double.ensures

pub returns-in-MethodHandle : goal.returns-in-MethodHandle
returns-in-MethodHandle g c =
    let kind = ap (λ n. decimal n ++ codes " " ++ index_text c.in-MethodHandle.index) c.from.ensures in
    sends_equal (kind ∙ ap (λ k. constant_text (constant_of k)) (sym c.in-MethodHandle.is)) c.write_numbered.ensures

pub returns-in-InvokeDynamic : goal.returns-in-InvokeDynamic
returns-in-InvokeDynamic g c = sends_equal (ap (λ k. constant_text (constant_of k)) (sym c.in-InvokeDynamic.is)) c.write_numbered-in-InvokeDynamic.ensures

pub returns-in-Fieldref : goal.returns-in-Fieldref
returns-in-Fieldref g c = sends_equal (search rules) c.write_pair.ensures

pub returns-in-Class : goal.returns-in-Class
returns-in-Class g c = sends_equal (search rules) c.write_index.ensures
