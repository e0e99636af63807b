-- What is read in a Code attribute is the code that stands there.
use Rattle.std.proofs.Common.{◌<◌, ◌≡◌, ℕ, ◌+◌, ◌*◌, ◌^◌, Bool, true, false, cond, ltb, ◌&&◌, List, ◌++◌, length, take, drop, Option, Some, None, option_and_then, refl, sym, ap, ◌∙◌, arith, length-append}
use Rattle.std.proofs.lemmas.Bool.{ltb-true}
use Rattle.std.proofs.lemmas.List.{length-take, drop-drop}
use Rattle.jc_base.proofs.Common.{both_true}
use Rattle.jc_base.specs.Cursor.{Reading, past}
use Rattle.jc_base.specs.Endian.{big_bytes, big_number}
use Rattle.jc_view.specs.declared.code.CodeBody.{CodeBody}
use Rattle.jc_view.specs.declared.entries.Entries.{Entries}
use Rattle.jc_view.specs.ConstantPool.{index_bytes}
use Rattle.jc_view.specs.ClassFile.{Attribute, counted}
use Rattle.jc_view.specs.Reading.{after, after_each, after_table, table_value, after_attribute, attribute_value}
use Rattle.jc_view.specs.Attributes.{Code, Handler, code_front, handler_bytes}
use Rattle.jc_view.specs.AttributeReading.{handler_value, code_length, after_instructions, after_handlers, after_code, handlers_at, code_attributes_at, code_value}
use Rattle.jc_view.specs.Moves.{Lends}
use Rattle.jc_view.specs.inside.Tables.{entries, IsWhole, LendsTable}
use Rattle.jc_view.specs.inside.Entries.{body_code, instructions, instructions_value, IsCodeBody}
use Rattle.jc_view.proofs.reading.BigEndian.{after_some, then_some, length-big_bytes}
use Rattle.jc_view.proofs.reading.Tables.{table_of_size}
use Rattle.jc_view.proofs.places.Entries.{HasLength, after_length, table_length}

-- ---- the table that was lent

pub lent_whole : (one : List ℕ → Option (List ℕ)) (old new : Reading) (t : Entries) → LendsTable (after_table one) old (Some t) new → IsWhole one t
lent_whole one old new t h =
    let b = then_some (after 2 old.rest) (after_each one (big_number 2 old.rest)) new.rest h.0 in
    let here : drop 2 old.rest ≡ b.0 = (after_some 2 old.rest b.0 b.1).left in
    let rest : t.cursor.rest ≡ b.0 = ap (λ (r : Reading). r.rest) h.3 ∙ here in
    let all : after_each one t.left t.cursor.rest ≡ Some new.rest = ap (λ (n : ℕ). after_each one n t.cursor.rest) h.2 ∙ ap (after_each one (big_number 2 old.rest)) rest ∙ b.2 in
    rw all refl

table_is : (t : Entries) (n : ℕ) (cursor : Reading) → t.left ≡ n → t.cursor ≡ cursor → t ≡ record { left = n; cursor = cursor }
table_is t n cursor e f i = record { left = e i; cursor = f i }

pub lent_entries : {X : Type 0} (after_it one : List ℕ → Option (List ℕ)) (value : List ℕ → X) (old new : Reading) (t : Entries) → LendsTable after_it old (Some t) new → entries one value t ≡ table_value one value old.rest
lent_entries after_it one value old new t h =
    ap (λ (s : Entries). entries one value s) (table_is t (big_number 2 old.rest) (past 2 old) h.2 h.3)

-- ---- the parts of a code

-- what stands before the handlers
pub record AreInstructions (xs rest : List ℕ) : Type 0 where
  pub size : length xs ≡ 8 + code_length xs + length rest
  pub left : drop (8 + code_length xs) xs ≡ rest
  pub code : length (take (code_length xs) (drop 8 xs)) ≡ code_length xs
  pub some : 0 < code_length xs
  pub few : code_length xs < 2 ^ 16

if_some : {A : Type 0} (b : Bool) (o : Option A) (x : A) → cond b o None ≡ Some x → o ≡ Some x
if_some true o x e = e
if_some false o x e = absurd cc

is_passed : {A : Type 0} (b : Bool) (o : Option A) (x : A) → cond b o None ≡ Some x → b ≡ true
is_passed true o x e = refl
is_passed false o x e = absurd cc

pub are_instructions : (xs rest : List ℕ) → after_instructions xs ≡ Some rest → AreInstructions xs rest
are_instructions xs rest e =
    let n = code_length xs in
    let b = then_some (after 8 xs) (λ ys. cond (ltb 0 n && ltb n (2 ^ 16)) (after n ys) None) rest e in
    let f = after_some 8 xs b.0 b.1 in
    let code = if_some (ltb 0 n && ltb n (2 ^ 16)) (after n b.0) rest b.2 in
    let g = after_some n b.0 rest code in
    let bounds = both_true (ltb 0 n) (ltb n (2 ^ 16)) (is_passed (ltb 0 n && ltb n (2 ^ 16)) (after n b.0) rest b.2) in
    record {
      size = omega (arith, after_length 8 xs b.0 b.1, after_length n b.0 rest code);
      left = sym (drop-drop n 8 xs) ∙ ap (drop n) f.left ∙ g.left;
      code = ap (λ (ys : List ℕ). length (take n ys)) f.left ∙ omega (arith, g.long, length-take n b.0);
      some = ltb-true 0 n bounds.0;
      few = ltb-true n (2 ^ 16) bounds.1;
    }

pub handlers_size : (xs rest : List ℕ) → after_handlers xs ≡ Some rest → length xs ≡ 2 + 8 * big_number 2 xs + length rest
handlers_size xs rest e =
    let n = 8 * big_number 2 xs in
    let b = then_some (after 2 xs) (after n) rest (sym (table_of_size 8 xs) ∙ e) in
    omega (arith, after_length 2 xs b.0 b.1, after_length n b.0 rest b.2)

pub handlers_left : (xs rest : List ℕ) → after_handlers xs ≡ Some rest → drop (2 + 8 * big_number 2 xs) xs ≡ rest
handlers_left xs rest e =
    let n = 8 * big_number 2 xs in
    let b = then_some (after 2 xs) (after n) rest (sym (table_of_size 8 xs) ∙ e) in
    sym (drop-drop n 2 xs) ∙ ap (drop n) (after_some 2 xs b.0 b.1).left ∙ (after_some n b.0 rest b.2).left

pub handler_length : HasLength (after 8) handler_value handler_bytes
handler_length xs rest e =
    let h = handler_value xs in
    let start = big_bytes 2 h.start_pc in
    let end = big_bytes 2 h.end_pc in
    let pc = big_bytes 2 h.handler_pc in
    omega (
      arith,
      after_length 8 xs rest e,
      length-append (start ++ end ++ pc) (index_bytes h.catch_type),
      length-append (start ++ end) pc,
      length-append start end,
      length-big_bytes 2 h.start_pc,
      length-big_bytes 2 h.end_pc,
      length-big_bytes 2 h.handler_pc,
      length-big_bytes 2 h.catch_type.0,
    )

pub length-code_front : (k : Code) → length (code_front k) ≡ 8 + length k.code + length (counted handler_bytes k.handlers)
length-code_front k =
    let stack = big_bytes 2 k.max_stack in
    let locals = big_bytes 2 k.max_locals in
    let size = big_bytes 4 (length k.code) in
    omega (
      arith,
      length-append (stack ++ locals ++ size ++ k.code) (counted handler_bytes k.handlers),
      length-append (stack ++ locals ++ size) k.code,
      length-append (stack ++ locals) size,
      length-append stack locals,
      length-big_bytes 2 k.max_stack,
      length-big_bytes 2 k.max_locals,
      length-big_bytes 4 (length k.code),
    )

-- ---- the whole

pub code_is : {a x b y : ℕ} {c z : List ℕ} {d w : List Handler} {e v : List Attribute} → a ≡ x → b ≡ y → c ≡ z → d ≡ w → e ≡ v
    → ◌≡◌ {A = Code} (record { max_stack = a; max_locals = b; code = c; handlers = d; attributes = e }) (record { max_stack = x; max_locals = y; code = z; handlers = w; attributes = v })
code_is f g h k l i = record { max_stack = f i; max_locals = g i; code = h i; handlers = k i; attributes = l i }

module _ (old a b new : Reading) (body : CodeBody) (front : Lends instructions after_instructions instructions_value old (Some body.instructions) a)
    (handlers : LendsTable after_handlers a (Some body.handlers) b) (attributes : LendsTable (after_table after_attribute) b (Some body.attributes) new) where
  at_handlers : handlers_at old.rest ≡ a.rest
  at_handlers = (are_instructions old.rest a.rest front.0).left

  at_attributes : code_attributes_at old.rest ≡ b.rest
  at_attributes = ap (λ (ys : List ℕ). drop (2 + 8 * big_number 2 ys) ys) at_handlers ∙ handlers_left a.rest b.rest handlers.0

  handlers_are : entries (after 8) handler_value body.handlers ≡ table_value (after 8) handler_value a.rest
  handlers_are = lent_entries after_handlers (after 8) handler_value a b body.handlers handlers

  attributes_are : entries after_attribute attribute_value body.attributes ≡ table_value after_attribute attribute_value b.rest
  attributes_are = lent_entries (after_table after_attribute) after_attribute attribute_value b new body.attributes attributes

  body_is : body_code body ≡ code_value old.rest
  body_is =
      code_is (ap (λ p. p.0) front.2) (ap (λ p. p.1) front.2) (ap (λ p. p.2) front.2)
      (handlers_are ∙ ap (table_value (after 8) handler_value) (sym at_handlers))
      (attributes_are ∙ ap (table_value after_attribute attribute_value) (sym at_attributes))

  behind : after_code old.rest ≡ Some new.rest
  unfolding after_code
  behind = ap (λ o. option_and_then (after_table after_attribute) (option_and_then after_handlers o)) front.0 ∙ ap (option_and_then (after_table after_attribute)) handlers.0 ∙ attributes.0

  pub code_read : Lends body_code after_code code_value old (Some body) new
  code_read = (behind, omega (arith, front.1, handlers.1, attributes.1), body_is)

  place : body.attributes.cursor.place ≡ old.place + length (code_front (body_code body)) + 2
  place =
      let here : body.attributes.cursor.place ≡ b.place + 2 = ap (λ (r : Reading). r.place) attributes.3 in
      let instructions_here = are_instructions old.rest a.rest front.0 in
      let code : length body.instructions.bytes.now ≡ code_length old.rest = ap (λ p. length p.2) front.2 ∙ instructions_here.code in
      let table : length (counted handler_bytes (entries (after 8) handler_value body.handlers)) ≡ length (counted handler_bytes (table_value (after 8) handler_value a.rest)) = ap (λ (hs : List Handler). length (counted handler_bytes hs)) handlers_are in
      omega (arith, here, front.1, handlers.1, instructions_here.size, code, table, table_length (after 8) handler_value handler_bytes handler_length a.rest b.rest handlers.0, length-code_front (body_code body))

  pub code_body : IsCodeBody old.place body
  code_body = record {
    handlers = lent_whole (after 8) a b body.handlers handlers;
    attributes = lent_whole after_attribute b new body.attributes attributes;
    attributes_place = place;
    some = let at_front = are_instructions old.rest a.rest front.0 in let long : length body.instructions.bytes.now ≡ code_length old.rest = ap (λ p. length p.2) front.2 ∙ at_front.code in omega (arith, long, at_front.some);
    few = let at_front = are_instructions old.rest a.rest front.0 in let long : length body.instructions.bytes.now ≡ code_length old.rest = ap (λ p. length p.2) front.2 ∙ at_front.code in omega (arith, long, at_front.few);
  }
