-- The class file that bytes are has the name that they name, and its facts have it and the path.
use Rattle.std.proofs.Common.{◌≡◌, ℕ, Bool, true, false, List, [], Option, Some, None, Result, Ok, Err, refl, sym, ap, ◌∙◌, length, ◌==◌}
use Rattle.std.specs.Prelude.{if◌then◌else◌, option_and_then}
use Rattle.std.specs.Option.{option_map_or}
use Rattle.jc_base.specs.TextTests.{is_class_text}
use Rattle.jc_view.specs.declared.parse_error.ParseError.{ParseError}
use Rattle.jc_view.specs.declared.parse_error.ParseError.TheVariants as errors
use Rattle.jc_view.specs.ClassFile.{ClassFile, class_text_at}
use Rattle.jc_view.specs.Reading.{◌>>=◌, or_refusal, parts_at, PartsRead, class_value}
use Rattle.jc_base.specs.Cursor.{Reading}
use Rattle.jc_view.specs.Outcome.{class_text, name_in, class_named, class_read}
use Rattle.jc_file.specs.Faults.{faults}
use Rattle.jc_classes.specs.FactsOf.{class_name, facts_of, sound_facts, faulty_facts}

-- ---- the name of a class file

text_by : (b : Bool) (text name : List ℕ) → (if b then Some text else None) ≡ Some name → text ≡ name
text_by true text name e = cc
text_by false text name e = absurd cc

name_by : (text : Option (List ℕ)) (name : List ℕ) → option_and_then class_text text ≡ Some name → option_map_or (λ (n : List ℕ). n) text [] ≡ name
name_by None name e = absurd cc
name_by (Some text) name e = text_by (is_class_text text) text name e

named_class : (c : ClassFile) (name : List ℕ) → name_in c ≡ Some name → class_name c ≡ name
unfolding name_in
named_class c name e = name_by (class_text_at c c.this_class) name e

-- ---- what is read and what is named

-- both agree: a class file with its name, or the same refusal
pub record Agrees (read : Result ClassFile ParseError) (named : Result (List ℕ) ParseError) (name : List ℕ) : Type 0 where
  pub class : ClassFile
  pub is_read : read ≡ Ok class
  pub is_name : class_name class ≡ name

name_agrees : (c : ClassFile) (o : Option (List ℕ)) (name : List ℕ) → name_in c ≡ o → or_refusal o errors.NoName ≡ Ok name → Agrees (or_refusal o errors.NoName >>= λ _. Ok c) (or_refusal o errors.NoName) name
name_agrees c None name is e = absurd cc
name_agrees c (Some n) name is e = record { class = c; is_read = refl; is_name = named_class c name (is ∙ (let same : n ≡ name = cc in ap (λ (x : List ℕ). Some x) same)) }

parts_agree : (b : List ℕ) (parts : Result (PartsRead × Reading) ParseError) (name : List ℕ)
    → (parts >>= λ found. or_refusal (name_in (class_value b found.0.places found.0.tail)) errors.NoName) ≡ Ok name
    → Agrees (parts >>= λ found. or_refusal (name_in (class_value b found.0.places found.0.tail)) errors.NoName >>= λ _. Ok (class_value b found.0.places found.0.tail)) (parts >>= λ found. or_refusal (name_in (class_value b found.0.places found.0.tail)) errors.NoName) name
parts_agree b (Ok found) name e = name_agrees (class_value b found.0.places found.0.tail) (name_in (class_value b found.0.places found.0.tail)) name refl e
parts_agree b (Err refusal) name e = absurd cc

-- bytes that name a class are a class file of that name
pub class_of_name : (b name : List ℕ) → class_named b ≡ Ok name → Agrees (class_read b) (class_named b) name
unfolding class_named class_read
class_of_name b name e = parts_agree b (parts_at (record { place = 0; rest = b })) name e

-- and the name is a class name
text_is : (b : Bool) (text name : List ℕ) → is_class_text text ≡ b → (if b then Some text else None) ≡ Some name → is_class_text name ≡ true
text_is true text name is e = let same : text ≡ name = cc in ap is_class_text (sym same) ∙ is
text_is false text name is e = absurd cc

text_there : (text : Option (List ℕ)) (name : List ℕ) → option_and_then class_text text ≡ Some name → is_class_text name ≡ true
text_there None name e = absurd cc
text_there (Some text) name e = text_is (is_class_text text) text name refl e

is_text : (c : ClassFile) (o : Option (List ℕ)) (name : List ℕ) → name_in c ≡ o → or_refusal o errors.NoName ≡ Ok name → is_class_text name ≡ true
unfolding name_in
is_text c None name is e = absurd cc
is_text c (Some n) name is e = text_there (class_text_at c c.this_class) name (is ∙ (let same : n ≡ name = cc in ap (λ (x : List ℕ). Some x) same))

text_of_parts : (b : List ℕ) (parts : Result (PartsRead × Reading) ParseError) (name : List ℕ)
    → (parts >>= λ found. or_refusal (name_in (class_value b found.0.places found.0.tail)) errors.NoName) ≡ Ok name → is_class_text name ≡ true
text_of_parts b (Ok found) name e = is_text (class_value b found.0.places found.0.tail) (name_in (class_value b found.0.places found.0.tail)) name refl e
text_of_parts b (Err refusal) name e = absurd cc

pub name_is_text : (b name : List ℕ) → class_named b ≡ Ok name → is_class_text name ≡ true
unfolding class_named
name_is_text b name e = text_of_parts b (parts_at (record { place = 0; rest = b })) name e

-- and those that name none are none
err_name : (c : ClassFile) (o : Option (List ℕ)) (refusal : ParseError) → or_refusal o errors.NoName ≡ Err refusal → (or_refusal o errors.NoName >>= λ _. Ok c) ≡ Err refusal
err_name c None refusal e = ap Err (let same : errors.NoName ≡ refusal = cc in same)
err_name c (Some n) refusal e = absurd cc

parts_refused : (b : List ℕ) (parts : Result (PartsRead × Reading) ParseError) (refusal : ParseError)
    → (parts >>= λ found. or_refusal (name_in (class_value b found.0.places found.0.tail)) errors.NoName) ≡ Err refusal
    → (parts >>= λ found. or_refusal (name_in (class_value b found.0.places found.0.tail)) errors.NoName >>= λ _. Ok (class_value b found.0.places found.0.tail)) ≡ Err refusal
parts_refused b (Ok found) refusal e = err_name (class_value b found.0.places found.0.tail) (name_in (class_value b found.0.places found.0.tail)) refusal e
parts_refused b (Err other) refusal e = ap Err (let same : other ≡ refusal = cc in same)

pub class_of_refusal : (b : List ℕ) (refusal : ParseError) → class_named b ≡ Err refusal → class_read b ≡ Err refusal
unfolding class_named class_read
class_of_refusal b refusal e = parts_refused b (parts_at (record { place = 0; rest = b })) refusal e

-- ---- facts

path_by : (b : Bool) (path : List ℕ) (c : ClassFile) → (if b then sound_facts path c else faulty_facts path c).path ≡ path
path_by true path c = refl
path_by false path c = refl

pub facts_path : (path : List ℕ) (c : ClassFile) → (facts_of path c).path ≡ path
facts_path path c = path_by (length (faults c) == 0) path c

facts_name_by : (b : Bool) (path : List ℕ) (c : ClassFile) → (if b then sound_facts path c else faulty_facts path c).name ≡ class_name c
facts_name_by true path c = refl
facts_name_by false path c = refl

pub facts_name : (path : List ℕ) (c : ClassFile) → (facts_of path c).name ≡ class_name c
facts_name path c = facts_name_by (length (faults c) == 0) path c
