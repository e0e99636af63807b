-- A line for each attribute. A method's well-formed Code has its instructions, handlers and attributes instead.
use Rattle.std.specs.Prelude.{ℕ, Bool, List, [], ◌++◌, length, codes, decimal, ◌==◌, if◌then◌else◌}
use Rattle.std.specs.List.{flat_map}
use Rattle.std.specs.Option.{option_map_or}
use Rattle.jc_base.specs.declared.signatures.SigKind.{SigKind}
use Rattle.jc_base.specs.declared.signatures.SigKind.TheVariants as signatures
use Rattle.jc_base.specs.SignatureTests.{is_signature}
use Rattle.jc_text.specs.Escapes.{shown}
use Rattle.jc_view.specs.declared.constant_pool.ConstantIndex.{ConstantIndex}
use Rattle.jc_view.specs.declared.attribute_kind.Holder.{Holder}
use Rattle.jc_view.specs.declared.attribute_kind.Holder.TheVariants as holders
use Rattle.jc_view.specs.declared.attribute_kind.AttributeKind.{AttributeKind}
use Rattle.jc_view.specs.declared.attribute_kind.AttributeKind.TheVariants as kinds
use Rattle.jc_view.specs.ClassFile.{ClassFile}
use Rattle.jc_view.specs.Lookups.{utf8_at}
use Rattle.jc_view.specs.Places.{PlacedAttribute}
use Rattle.jc_view.specs.Attributes.{Code, Handler, code_attributes, first_index, is_recognised}
use Rattle.jc_view.specs.AttributeReading.{code_of}
use Rattle.jc_code.specs.InsnReading.{insns_of, end_of}
use Rattle.jc_list.specs.Texts.{shown_text, index_text, index_with_reference}
use Rattle.jc_list.specs.InsnLines.{insn_lines}

-- ---- attributes of one entry

-- the kind of signature of the holder of the attribute
abbrev pub signatures_of : Holder → SigKind
signatures_of holders.Class = signatures.Class
signatures_of holders.Field = signatures.Field
signatures_of holders.Method = signatures.Method
signatures_of holders.Code = signatures.Method

-- a signature, or `malformed` and the text
abbrev pub signature_text : SigKind → List ℕ → List ℕ
signature_text kind text = if is_signature kind text then shown text else codes "malformed " ++ shown text

abbrev pub is : ClassFile → AttributeKind → PlacedAttribute → Bool
is c kind a = is_recognised c kind a.holder a.attribute

-- the text that a SourceFile or a Signature refers to, or the index in a ConstantValue
abbrev pub entry_text : ClassFile → PlacedAttribute → List ℕ
entry_text c a =
    if is c kinds.SourceFile a then codes " " ++ shown_text (utf8_at c (first_index a))
    else if is c kinds.Signature a
    then codes " " ++ option_map_or (signature_text (signatures_of a.holder)) (utf8_at c (first_index a)) (codes "?")
    else if is c kinds.ConstantValue a then codes " " ++ index_text (first_index a)
    else []

-- the name and the length of an attribute, and after them its entry if the length is 2
abbrev pub attribute_line : ClassFile → List ℕ → PlacedAttribute → List ℕ
attribute_line c indent a =
    indent ++ codes "attribute " ++ shown_text (utf8_at c a.attribute.name) ++ codes " " ++ decimal (length a.attribute.bytes)
    ++ (if length a.attribute.bytes == 2 then entry_text c a else []) ++ codes "\n"

-- ---- code

abbrev pub code_line : Code → List ℕ
code_line k =
    codes "  code stack " ++ decimal k.max_stack ++ codes " locals " ++ decimal k.max_locals
    ++ codes " length " ++ decimal (length k.code) ++ codes "\n"

-- a line if the instructions end before the code does
abbrev pub cut_line : Code → List ℕ
cut_line k = if end_of k.code == length k.code then [] else codes "    cut " ++ decimal (end_of k.code) ++ codes "\n"

-- the class that a handler catches, or `any` if it catches all exceptions (JVMS 4.7.3)
abbrev pub catch_text : ClassFile → ConstantIndex → List ℕ
catch_text c index = if index.0 == 0 then codes "any" else index_with_reference c index

abbrev pub handler_line : ClassFile → Handler → List ℕ
handler_line c h =
    codes "    catch " ++ decimal h.start_pc ++ codes " " ++ decimal h.end_pc ++ codes " " ++ decimal h.handler_pc
    ++ codes " " ++ catch_text c h.catch_type ++ codes "\n"

unfoldable pub code_lines : ClassFile → PlacedAttribute → Code → List ℕ
code_lines c a k =
    code_line k ++ flat_map (insn_lines c) (insns_of k.code) ++ cut_line k ++ flat_map (handler_line c) k.handlers
    ++ flat_map (attribute_line c (codes "    ")) (code_attributes a k)

-- ---- an attribute

-- the lines of a well-formed Code of a method, or the line of another attribute
abbrev pub attribute_lines : ClassFile → List ℕ → PlacedAttribute → List ℕ
attribute_lines c indent a = option_map_or (code_lines c a) (code_of c a) (attribute_line c indent a)
