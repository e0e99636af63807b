-- What is told of an attribute, by the tests that choose it.
use Rattle.std.proofs.Common.{◌≡◌, ℕ, true, false, cond, eqb, List, [], ◌++◌, Option, Some, None, codes, refl, ap, sym, arith, option_map}
use Rattle.std.specs.Option.{option_copied, option_map_or}
use Rattle.std.specs.Borrow.{Bor}
use Rattle.std.proofs.lemmas.Option.{same_Some}
use Rattle.std.proofs.lemmas.Bool.Decides.{nat_tests}
use Rattle.jc_base.specs.declared.signatures.SigKind.{SigKind}
use Rattle.jc_base.specs.SignatureTests.{is_signature}
use Rattle.jc_text.specs.Escapes.{shown}
use Rattle.jc_view.specs.declared.attribute_kind.AttributeKind.TheVariants as kinds
use Rattle.jc_view.specs.ClassFile.{ClassFile}
use Rattle.jc_view.specs.Lookups.{utf8_at}
use Rattle.jc_view.specs.Places.{PlacedAttribute}
use Rattle.jc_view.specs.Attributes.{Code, first_index}
use Rattle.jc_view.specs.AttributeReading.{code_of}
use Rattle.jc_view.specs.Lent.{LentAttribute, LentCode, lent_code}
use Rattle.jc_list.specs.Texts.{index_text, shown_text}
use Rattle.jc_list.specs.AttributeLines.{attribute_line, attribute_lines, code_lines, entry_text, is, signature_text, signatures_of}

-- ---- a code, or none

code_is_given : (a : LentAttribute) (line : List ℕ) (o : Option Code) (k : LentCode) → option_map (lent_code a) o ≡ Some k → code_lines k.class k.attribute k.code ≡ option_map_or (code_lines a.class a.attribute) o line
code_is_given a line None k e = absurd cc
code_is_given a line (Some j) k e = ap (λ l. code_lines l.class l.attribute l.code) (sym (same_Some _ _ e))

none_is_given : (a : LentAttribute) (line : List ℕ) (o : Option Code) → option_map (lent_code a) o ≡ None → line ≡ option_map_or (code_lines a.class a.attribute) o line
none_is_given a line None e = refl
none_is_given a line (Some j) e = absurd cc

pub code_told : (a : LentAttribute) (indent : List ℕ) (k : LentCode) → option_map (lent_code a) (code_of a.class a.attribute) ≡ Some k → code_lines k.class k.attribute k.code ≡ attribute_lines a.class indent a.attribute
code_told a indent k e = code_is_given a (attribute_line a.class indent a.attribute) (code_of a.class a.attribute) k e

pub line_told : (a : LentAttribute) (indent : List ℕ) → option_map (lent_code a) (code_of a.class a.attribute) ≡ None → attribute_line a.class indent a.attribute ≡ attribute_lines a.class indent a.attribute
line_told a indent e = none_is_given a (attribute_line a.class indent a.attribute) (code_of a.class a.attribute) e

-- ---- an entry

pub if_two : (n : ℕ) (text : List ℕ) → n ≡ 2 → text ≡ cond (eqb n 2) text []
if_two n text e = rw e refl

pub if_not_two : (n : ℕ) (text : List ℕ) → (n ≡ 2 → ⊥) → [] ≡ cond (eqb n 2) text []
if_not_two n text e = grind (arith, nat_tests)

pub source_told : (c : ClassFile) (a : PlacedAttribute) → is c kinds.SourceFile a ≡ true → codes " " ++ shown_text (utf8_at c (first_index a)) ≡ entry_text c a
source_told c a source = rw source refl

pub signature_told : (c : ClassFile) (a : PlacedAttribute) → is c kinds.SourceFile a ≡ false → is c kinds.Signature a ≡ true
    → codes " " ++ option_map_or (signature_text (signatures_of a.holder)) (utf8_at c (first_index a)) (codes "?") ≡ entry_text c a
signature_told c a source signature = rw (source, signature) refl

pub constant_told : (c : ClassFile) (a : PlacedAttribute) → is c kinds.SourceFile a ≡ false → is c kinds.Signature a ≡ false → is c kinds.ConstantValue a ≡ true
    → codes " " ++ index_text (first_index a) ≡ entry_text c a
constant_told c a source signature constant = rw (source, signature, constant) refl

pub nothing_told : (c : ClassFile) (a : PlacedAttribute) → is c kinds.SourceFile a ≡ false → is c kinds.Signature a ≡ false → is c kinds.ConstantValue a ≡ false → [] ≡ entry_text c a
nothing_told c a source signature constant = rw (source, signature, constant) refl

-- ---- a signature

abbrev pub signature_shown : SigKind → Option (Bor (List ℕ)) → List ℕ
signature_shown kind text = option_map_or (signature_text kind) (option_copied text) (codes "?")

pub none_shown : (kind : SigKind) (text : Option (Bor (List ℕ))) → text ≡ None → codes "?" ≡ signature_shown kind text
none_shown kind text e = rw e refl

pub good_shown : (kind : SigKind) (text : Option (Bor (List ℕ))) (t : Bor (List ℕ)) → text ≡ Some t → is_signature kind t.now ≡ true → shown t.now ≡ signature_shown kind text
good_shown kind text t e good = rw (e, good) refl

pub bad_shown : (kind : SigKind) (text : Option (Bor (List ℕ))) (t : Bor (List ℕ)) → text ≡ Some t → is_signature kind t.now ≡ false → codes "malformed " ++ shown t.now ≡ signature_shown kind text
bad_shown kind text t e bad = rw (e, bad) refl
