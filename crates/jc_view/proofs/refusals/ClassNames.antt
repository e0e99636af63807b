-- The class that bytes name, as a function, is what the definitions say.
use Rattle.std.proofs.Common.{◌≡◌, ℕ, List, true, Some, None, Option, option_and_then, Result, Ok, Err, refl, sym, ap, subst, ◌∙◌, inl, inr}
use Rattle.std.proofs.lemmas.Bool.{cases_Bool}
use Rattle.jc_base.specs.Names.{IsClassName}
use Rattle.jc_base.specs.TextTests.{is_class_text}
use Rattle.jc_view.specs.declared.parse_error.ParseError.{ParseError}
use Rattle.jc_view.specs.declared.parse_error.ParseError.TheVariants as errors
use Rattle.jc_view.specs.ConstantPool as pool
use Rattle.jc_view.specs.ClassFile.{ClassFile, class_text_at}
use Rattle.jc_view.specs.Reading.{◌>>=◌, or_refusal, parts_at, class_value}
use Rattle.jc_view.specs.Refusal.{IsLayoutOf, IsNamed, IsRefusal}
use Rattle.jc_view.specs.Outcome.{NamesClass, class_text, name_in, class_named, class_read}
use Rattle.jc_view.proofs.reading.BigEndian.{IsBytes, then_some}
use Rattle.jc_view.proofs.reading.Steps.{bind_ok, bind_err, or_ok, or_err}
use Rattle.jc_view.proofs.refusals.FirstRefusal.{is_refusal}
use Rattle.jc_view.proofs.refusals.Layouts.{is_read, one_class, one_refusal, none_applies}
use Rattle.jc_view.proofs.refusals.Parsing.{parsed, unnamed}
use Rattle.jc_view.proofs.reading.Heads.{start}
use Rattle.jc_view.proofs.places.ConstantPlaces.{class_text_is, class_text_from}

-- the test for class names, from the base
abbrev pub Decided : Type 0
Decided = (b : List ℕ) → ((is_class_text b ≡ true) → IsClassName b) × (IsClassName b → (is_class_text b ≡ true))

class_text_some : (text name : List ℕ) → class_text text ≡ Some name → (is_class_text text ≡ true) × (text ≡ name)
class_text_some text name e =
    elim (cases_Bool (is_class_text text)) [
      | inl hit ↦ (hit, let e' : Some text ≡ Some name = sym (rw hit refl) ∙ e in cc)
      | inr miss ↦ absurd (let e' : None ≡ Some name = sym (rw miss refl) ∙ e in cc)
    ]

named_from : Decided → (c : ClassFile) (name : List ℕ) → name_in c ≡ Some name → IsNamed c name
unfolding name_in
named_from decided c name e =
    let a = then_some (class_text_at c c.this_class) class_text name e in
    let found = class_text_is c c.this_class a.0 a.1 in
    let n = class_text_some a.0 name a.2 in
    record {
      entry = found.0;
      class = found.1;
      text = found.2 ∙ ap (λ (x : List ℕ). Some (pool.Utf8 x)) n.1;
      class_name = subst IsClassName n.1 ((decided a.0).0 n.0);
    }

name_from : Decided → (c : ClassFile) (name : List ℕ) → IsNamed c name → name_in c ≡ Some name
unfolding name_in
name_from decided c name h =
    let test : is_class_text name ≡ true = (decided name).1 h.class_name in
    let last : class_text name ≡ Some name = rw test refl in
    ap (option_and_then class_text) (class_text_from c c.this_class h.entry name h.class h.text) ∙ last

pub named_is : Decided → (b name : List ℕ) → IsBytes b → class_named b ≡ Ok name → NamesClass b name
unfolding class_named
named_is decided b name fits e =
    let a = bind_ok (parts_at (start b)) (λ found. or_refusal (name_in (class_value b found.0.places found.0.tail)) errors.NoName) name e in
    (class_value b a.0.0.places a.0.0.tail, (parsed b a.0.0 a.0.1 fits a.1).is_layout, named_from decided _ name (or_ok _ _ _ a.2))

pub is_named : Decided → (b name : List ℕ) → IsBytes b → NamesClass b name → class_named b ≡ Ok name
unfolding class_named
is_named decided b name fits h =
    let found = is_read b h.0 h.1 in
    let here = parsed b found.0.0 found.0.1 fits found.1 in
    let same = one_class b h.0 (class_value b found.0.0.places found.0.0.tail) h.1 here.is_layout in
    let named = name_from decided (class_value b found.0.0.places found.0.0.tail) name (subst (λ (c : ClassFile). IsNamed c name) same h.2) in
    ap (λ r. r >>= λ found. or_refusal (name_in (class_value b found.0.places found.0.tail)) errors.NoName) found.1 ∙ ap (λ o. or_refusal o errors.NoName) named

pub refused_is : Decided → (b : List ℕ) (e : ParseError) → IsBytes b → class_named b ≡ Err e → IsRefusal b e
unfolding class_named
refused_is decided b e fits h =
    elim (bind_err (parts_at (start b)) (λ found. or_refusal (name_in (class_value b found.0.places found.0.tail)) errors.NoName) e h) [
      | inl stops ↦ is_refusal b e fits stops
      | inr a ↦
          let o = or_err (name_in (class_value b a.0.0.places a.0.0.tail)) errors.NoName e a.2 in
          let none : (name : List ℕ) → ¬ IsNamed (class_value b a.0.0.places a.0.0.tail) name = λ name named. absurd (let some = name_from decided (class_value b a.0.0.places a.0.0.tail) name named in let nothing = o.0 in cc) in
          subst (λ (x : ParseError). IsRefusal b x) o.1 (unnamed b a.0.0 a.0.1 fits a.1 none)
    ]

is_refused_by : Decided → (b : List ℕ) (e : ParseError) (outcome : Result (List ℕ) ParseError) → IsBytes b → class_named b ≡ outcome → IsRefusal b e → outcome ≡ Err e
is_refused_by decided b e (Ok name) fits h refusal = absurd (let n = named_is decided b name fits h in none_applies b e (n.0, n.1, (name, n.2)) refusal.applies)
is_refused_by decided b e (Err d) fits h refusal = ap (λ (x : ParseError). Err x) (one_refusal b d e (refused_is decided b d fits h) refusal)

pub is_refused : Decided → (b : List ℕ) (e : ParseError) → IsBytes b → IsRefusal b e → class_named b ≡ Err e
is_refused decided b e fits refusal = is_refused_by decided b e (class_named b) fits refl refusal

-- ---- the class file itself

pub layout_read : Decided → (b : List ℕ) (c : ClassFile) (name : List ℕ) → IsBytes b → IsLayoutOf c b → IsNamed c name → class_read b ≡ Ok c
unfolding class_read
layout_read decided b c name fits layout is =
    let found = is_read b c layout in
    let here = parsed b found.0.0 found.0.1 fits found.1 in
    let same = one_class b c (class_value b found.0.0.places found.0.0.tail) layout here.is_layout in
    let named = name_from decided (class_value b found.0.0.places found.0.0.tail) name (subst (λ (x : ClassFile). IsNamed x name) same is) in
    ap (λ r. r >>= λ found. or_refusal (name_in (class_value b found.0.places found.0.tail)) errors.NoName >>= λ _. Ok (class_value b found.0.places found.0.tail)) found.1
    ∙ ap (λ o. or_refusal o errors.NoName >>= λ _. Ok (class_value b found.0.0.places found.0.0.tail)) named
    ∙ ap (λ (x : ClassFile). Ok x) (sym same)

err_behind : {N B : Type 0} (o : Option N) (x : B) (d e : ParseError) → or_refusal o d ≡ Err e → (or_refusal o d >>= λ _. Ok x) ≡ Err e
err_behind None x d e h = ap Err (let f = h in cc)
err_behind (Some n) x d e h = absurd cc

err_kept : {A N B : Type 0} (r : Result A ParseError) (f : A → Option N) (g : A → B) (d e : ParseError) → (r >>= λ x. or_refusal (f x) d) ≡ Err e
    → (r >>= λ x. or_refusal (f x) d >>= λ _. Ok (g x)) ≡ Err e
err_kept (Ok x) f g d e h = err_behind (f x) (g x) d e h
err_kept (Err x) f g d e h = ap Err (let f = h in cc)

pub refusal_read : Decided → (b : List ℕ) (e : ParseError) → IsBytes b → IsRefusal b e → class_read b ≡ Err e
unfolding class_read class_named
refusal_read decided b e fits refusal =
    err_kept (parts_at (start b)) (λ found. name_in (class_value b found.0.places found.0.tail)) (λ found. class_value b found.0.places found.0.tail) errors.NoName e
    (is_refused decided b e fits refusal)
