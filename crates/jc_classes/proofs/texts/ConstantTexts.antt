-- The text of a Utf8 constant by its index.
use Rattle.std.proofs.Common.{◌≡◌, ℕ, zero, suc, ◌+◌, ◌-◌, ◌<◌, ◌≤◌, true, false, List, [], ◌∷◌, ◌++◌, length, Option, Some, None, refl, ap, ◌∙◌, arith}
use Rattle.std.specs.Option.{option_map_or}
use Rattle.std.specs.Prelude.{option_and_then}
use Rattle.std.specs.List.{flat_map, range_with_len}
use Rattle.std.proofs.lemmas.List.FromFn.{get_or-map-range_with_len, length-map-range_with_len}
use Rattle.std.proofs.lemmas.Grind.{flat_map-append}
use Rattle.std.proofs.lemmas.List.{append-nil}
use Rattle.jc_view.specs.declared.constant_pool.ConstantIndex.{ConstantIndex}
use Rattle.jc_view.specs.declared.constant_pool.ConstantKind.TheVariants as kinds
use Rattle.jc_view.specs.ConstantPool as pool
use Rattle.jc_view.specs.ConstantPool.{Constant, utf8_text}
use Rattle.jc_view.specs.ClassFile.{ClassFile, all_slots, constant_at}
use Rattle.jc_view.specs.Lookups.{is_entry, is_kind, utf8_at}
use Rattle.jc_file.proofs.violations.Constants.{usable_within}
use Rattle.jc_classes.specs.inside.ConstantTexts.{text_or_empty, texts_of}
use Rattle.jc_classes.specs.inside.FactsShown.{text_at}

within : (c : ClassFile) (index : ConstantIndex) (text : List ℕ) (entry : Option Constant) → constant_at c index ≡ entry → option_and_then utf8_text entry ≡ Some text → index.0 < 1 + all_slots c.constants
within c index text None e h = absurd cc
within c index text (Some entry) e h = (usable_within c index.0 entry e).1

pub text_within : (c : ClassFile) (index : ConstantIndex) (text : List ℕ) → utf8_at c index ≡ Some text → index.0 < 1 + all_slots c.constants
text_within c index text h = within c index text (constant_at c index) refl h

pub text_there : (c : ClassFile) (index : ConstantIndex) (text : List ℕ) → utf8_at c index ≡ Some text → text_at (texts_of c) index.0 ≡ text
unfolding texts_of
text_there c index text h =
    get_or-map-range_with_len (text_or_empty c) 0 (1 + all_slots c.constants) index.0 index.0 [] (text_within c index text h) (omega arith)
    ∙ ap (λ o. option_map_or (λ t. t) o []) h

text_of_kind : (o : Option Constant) → option_map_or (is_kind kinds.Utf8) o false ≡ true → (text : List ℕ) × (option_and_then utf8_text o ≡ Some text)
text_of_kind None e = absurd cc
text_of_kind (Some (pool.Utf8 text)) e = (text, refl)
text_of_kind (Some (pool.Integer bits)) e = absurd cc
text_of_kind (Some (pool.Float bits)) e = absurd cc
text_of_kind (Some (pool.Long bits)) e = absurd cc
text_of_kind (Some (pool.Double bits)) e = absurd cc
text_of_kind (Some (pool.Class name)) e = absurd cc
text_of_kind (Some (pool.String text)) e = absurd cc
text_of_kind (Some (pool.Fieldref class entry)) e = absurd cc
text_of_kind (Some (pool.Methodref class entry)) e = absurd cc
text_of_kind (Some (pool.InterfaceMethodref class entry)) e = absurd cc
text_of_kind (Some (pool.NameAndType name descriptor)) e = absurd cc
text_of_kind (Some (pool.MethodHandle kind reference)) e = absurd cc
text_of_kind (Some (pool.MethodType descriptor)) e = absurd cc
text_of_kind (Some (pool.InvokeDynamic bootstrap entry)) e = absurd cc

-- a Utf8 constant has a text
pub utf8_there : (c : ClassFile) (index : ConstantIndex) → is_entry c kinds.Utf8 index ≡ true → (text : List ℕ) × (utf8_at c index ≡ Some text)
utf8_there c index e = text_of_kind (constant_at c index) e

-- index 0 is of no constant
pub no_text : (c : ClassFile) → text_at (texts_of c) 0 ≡ []
unfolding texts_of
no_text c = get_or-map-range_with_len (text_or_empty c) 0 (1 + all_slots c.constants) 0 0 [] (omega arith) (omega arith)

pub length_texts_of : (c : ClassFile) → length (texts_of c) ≡ 1 + all_slots c.constants
unfolding texts_of
length_texts_of c = length-map-range_with_len (text_or_empty c) 0 (1 + all_slots c.constants)

-- ---- numbers in a row

pub range_more : (from n : ℕ) → range_with_len from (suc n) ≡ range_with_len from n ++ (from + n) ∷ []
range_more from zero = let e : from ≡ from + 0 = omega arith in ap (λ x. x ∷ []) e
range_more from (suc n) =
    let e : from + 1 + n ≡ from + suc n = omega arith in
    ap (λ xs. from ∷ xs) (range_more (from + 1) n ∙ ap (λ x. range_with_len (from + 1) n ++ x ∷ []) e)

pub found_more : {X : Type 0} (f : ℕ → List X) (index : ℕ) → 1 ≤ index → flat_map f (range_with_len 1 (index + 1 - 1)) ≡ flat_map f (range_with_len 1 (index - 1)) ++ f index
found_more f index h =
    let n : index + 1 - 1 ≡ suc (index - 1) = omega arith in
    let e : 1 + (index - 1) ≡ index = omega (arith, h) in
    ap (λ k. flat_map f (range_with_len 1 k)) n
    ∙ ap (flat_map f) (range_more 1 (index - 1) ∙ ap (λ x. range_with_len 1 (index - 1) ++ x ∷ []) e)
    ∙ flat_map-append f (range_with_len 1 (index - 1)) (index ∷ [])
    ∙ ap (λ xs. flat_map f (range_with_len 1 (index - 1)) ++ xs) (append-nil (f index))
