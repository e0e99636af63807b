-- A Code that is read is the one that was spelled, and what was spelled is read again.
use Rattle.std.proofs.Common.{◌≡◌, ℕ, ◌+◌, ◌*◌, ◌^◌, Bool, true, false, cond, eqb, ltb, ◌&&◌, List, [], ◌++◌, length, take, drop, Option, Some, None, option_and_then, refl, sym, ap, subst, ◌∙◌, append_assoc, arith, length-append}
use Rattle.std.proofs.lemmas.Bool.{eqb-true, ltb-true, lt-ltb}
use Rattle.std.proofs.lemmas.List.{take_at, drop_at, append-nil, nil_from_length}
use Rattle.std.proofs.lemmas.Option.{same_Some}
use Rattle.jc_base.proofs.Common.{both_true}
use Rattle.jc_base.specs.Endian.{big_bytes, big_number}
use Rattle.jc_view.specs.ConstantPool.{index_bytes}
use Rattle.jc_view.specs.ClassFile.{Attribute, counted, attribute_bytes, FitsTable, FitsAttribute}
use Rattle.jc_view.specs.Reading.{after, after_table, table_value, after_attribute, attribute_value}
use Rattle.jc_view.specs.Attributes.{Handler, Code, handler_bytes, code_bytes, FitsHandler, FitsCode, IsCodeOf}
use Rattle.jc_view.specs.AttributeReading.{whole, handler_value, code_length, after_instructions, after_handlers, after_code, handlers_at, code_attributes_at, code_value, code_in}
use Rattle.jc_view.proofs.reading.BigEndian.{IsBytes, width2, width4, after_some, after_both, then_some, after_text, number_again, Takes, Takes-then, takes_front, takes_number, takes_two, again_two, takes_three, again_three, three_bytes, length-big_bytes}
use Rattle.jc_view.proofs.reading.Tables.{Reads, reads_table, reads_attribute}
use Rattle.jc_view.proofs.places.CodeEntries.{are_instructions, handlers_left, code_is}

-- ---- one handler

handler_is : {a b c d w x y z : ℕ} → a ≡ w → b ≡ x → c ≡ y → d ≡ z
    → ◌≡◌ {A = Handler} (record { start_pc = a; end_pc = b; handler_pc = c; catch_type = record { 0 = d } }) (record { start_pc = w; end_pc = x; handler_pc = y; catch_type = record { 0 = z } })
handler_is e f g h i = record { start_pc = e i; end_pc = f i; handler_pc = g i; catch_type = record { 0 = h i } }

handler_takes : (xs rest : List ℕ) → IsBytes xs → after 8 xs ≡ Some rest → Takes xs (handler_bytes (handler_value xs)) rest × FitsHandler (handler_value xs)
handler_takes xs rest fits e =
    let b = after_both 6 2 xs rest e in
    let three = takes_three xs (drop 6 xs) fits b.0 in
    let last = takes_number 2 width2 (drop 6 xs) rest three.0.rest_fits b.1 in
    let first = three_bytes (big_number 2 xs) (big_number 2 (drop 2 xs)) (big_number 2 (drop 4 xs)) in (
      Takes-then xs first (drop 6 xs) (big_bytes 2 (big_number 2 (drop 6 xs))) rest three.0 last.0,
      record { start_pc = three.1; end_pc = three.2; handler_pc = three.3; catch_type = last.1 },
    )

handler_again : (h : Handler) (rest : List ℕ) → FitsHandler h → (after 8 (handler_bytes h ++ rest) ≡ Some rest) × (handler_value (handler_bytes h ++ rest) ≡ h)
handler_again h rest fits =
    let first = three_bytes h.start_pc h.end_pc h.handler_pc in
    let last = index_bytes h.catch_type in
    let behind = last ++ rest in
    let regrouped : handler_bytes h ++ rest ≡ first ++ behind = append_assoc first last rest in
    let three = again_three h.start_pc h.end_pc h.handler_pc behind fits.start_pc fits.end_pc fits.handler_pc in
    let long : length (handler_bytes h) ≡ 8 = omega (
      arith,
      length-append first last,
      length-append (big_bytes 2 h.start_pc ++ big_bytes 2 h.end_pc) (big_bytes 2 h.handler_pc),
      length-append (big_bytes 2 h.start_pc) (big_bytes 2 h.end_pc),
      length-big_bytes 2 h.start_pc,
      length-big_bytes 2 h.end_pc,
      length-big_bytes 2 h.handler_pc,
      length-big_bytes 2 h.catch_type.0,
    ) in
    let catch : big_number 2 (drop 6 (first ++ behind)) ≡ h.catch_type.0 = ap (big_number 2) three.behind ∙ number_again 2 h.catch_type.0 rest fits.catch_type in (
      after_text (handler_bytes h) rest 8 long,
      ap handler_value regrouped ∙ handler_is three.first three.second three.third catch,
    )

pub reads_handler : Reads handler_bytes FitsHandler (after 8) handler_value
reads_handler = record { takes = handler_takes; again = handler_again }

-- ---- the whole code

-- a Code by its parts
abbrev text_of : ℕ → ℕ → ℕ → List ℕ → List Handler → List Attribute → List ℕ
text_of stack locals size code handlers attributes = (big_bytes 2 stack ++ big_bytes 2 locals ++ big_bytes 4 size ++ code ++ counted handler_bytes handlers) ++ counted attribute_bytes attributes

text_is : (stack locals : ℕ) {m n : ℕ} {a b : List ℕ} {c d : List Handler} {e f : List Attribute} → m ≡ n → a ≡ b → c ≡ d → e ≡ f → text_of stack locals m a c e ≡ text_of stack locals n b d f
text_is stack locals p q r s i = text_of stack locals (p i) (q i) (r i) (s i)

pub test_is : {A : Type 0} (b : Bool) (o : Option A) (x : A) → cond b o None ≡ Some x → (b ≡ true) × (o ≡ Some x)
test_is true o x e = (refl, e)
test_is false o x e = absurd cc

abbrev handlers_of : List ℕ → List Handler
handlers_of xs = table_value (after 8) handler_value xs

abbrev attributes_of : List ℕ → List Attribute
attributes_of xs = table_value after_attribute attribute_value xs

code_takes : (xs rest : List ℕ) → IsBytes xs → after_code xs ≡ Some rest → Takes xs (code_bytes (code_value xs)) rest × FitsCode (code_value xs)
unfolding after_code code_bytes
code_takes xs rest fits e =
    let n = code_length xs in
    let test = ltb 0 n && ltb n (2 ^ 16) in
    let stack = big_number 2 xs in
    let locals = big_number 2 (drop 2 xs) in
    let at_attributes = then_some (option_and_then after_handlers (after_instructions xs)) (after_table after_attribute) rest e in
    let b = at_attributes.0 in
    let at_handlers = then_some (after_instructions xs) after_handlers b at_attributes.1 in
    let a = at_handlers.0 in
    let at_code = then_some (after 8 xs) (λ ys. cond test (after n ys) None) a at_handlers.1 in
    let ys = at_code.0 in
    let tested = test_is test (after n ys) a at_code.2 in
    let range = both_true (ltb 0 n) (ltb n (2 ^ 16)) tested.0 in
    let numbers = after_both 4 4 xs ys at_code.1 in
    let two = takes_two 2 2 width2 width2 xs (drop 4 xs) fits numbers.0 in
    let size = takes_number 4 width4 (drop 4 xs) ys two.0.rest_fits numbers.1 in
    let code = takes_front n ys a size.0.rest_fits tested.1 in
    let handlers = (reads_table reads_handler).takes a b code.0.rest_fits at_handlers.2 in
    let attributes = (reads_table reads_attribute).takes b rest handlers.0.rest_fits at_attributes.2 in
    let first = big_bytes 2 stack ++ big_bytes 2 locals in
    let to_code = Takes-then xs first (drop 4 xs) (big_bytes 4 n) ys two.0 size.0 in
    let to_handlers = Takes-then xs (first ++ big_bytes 4 n) ys (take n ys) a to_code code.0 in
    let to_attributes = Takes-then xs (first ++ big_bytes 4 n ++ take n ys) a (counted handler_bytes (handlers_of a)) b to_handlers handlers.0 in
    let text : Takes xs (text_of stack locals n (take n ys) (handlers_of a) (attributes_of b)) rest =
    Takes-then xs (first ++ big_bytes 4 n ++ take n ys ++ counted handler_bytes (handlers_of a)) b (counted attribute_bytes (attributes_of b)) rest to_attributes attributes.0 in
    let here : drop 8 xs ≡ ys = (after_some 8 xs ys at_code.1).left in
    let instructions = are_instructions xs a at_handlers.1 in
    let is_a : handlers_at xs ≡ a = instructions.left in
    let is_b : code_attributes_at xs ≡ b = ap (λ (zs : List ℕ). drop (2 + 8 * big_number 2 zs) zs) is_a ∙ handlers_left a b at_handlers.2 in
    let same : text_of stack locals n (take n ys) (handlers_of a) (attributes_of b) ≡ code_bytes (code_value xs) =
    text_is stack locals (sym instructions.code) (ap (take n) (sym here)) (ap handlers_of (sym is_a)) (ap attributes_of (sym is_b)) in
    let positive = ltb-true 0 n range.0 in
    let small = ltb-true n (2 ^ 16) range.1 in (
      subst (λ (t : List ℕ). Takes xs t rest) same text,
      record {
        max_stack = two.1;
        max_locals = two.2;
        some = omega (arith, positive, instructions.code);
        few = omega (arith, small, instructions.code);
        handlers = subst (λ (zs : List ℕ). FitsTable FitsHandler (handlers_of zs)) (sym is_a) handlers.1;
        attributes = subst (λ (zs : List ℕ). FitsTable FitsAttribute (attributes_of zs)) (sym is_b) attributes.1;
      },
    )

code_apart : (t z k h a rest : List ℕ) → (t ++ z ++ k ++ h ++ a) ++ rest ≡ t ++ (z ++ (k ++ (h ++ (a ++ rest))))
code_apart t z k h a rest = simp append_assoc

code_again : (k : Code) (rest : List ℕ) → FitsCode k → (after_code (code_bytes k ++ rest) ≡ Some rest) × (code_value (code_bytes k ++ rest) ≡ k)
unfolding after_code code_bytes
code_again k rest fits =
    let n = length k.code in
    let two = big_bytes 2 k.max_stack ++ big_bytes 2 k.max_locals in
    let b = counted attribute_bytes k.attributes ++ rest in
    let a = counted handler_bytes k.handlers ++ b in
    let ys = k.code ++ a in
    let xs = two ++ (big_bytes 4 n ++ ys) in
    let regrouped : code_bytes k ++ rest ≡ xs = code_apart two (big_bytes 4 n) k.code (counted handler_bytes k.handlers) (counted attribute_bytes k.attributes) rest in
    let eight : xs ≡ (two ++ big_bytes 4 n) ++ ys = sym (append_assoc two (big_bytes 4 n) ys) in
    let long_two : length two ≡ 4 = omega (arith, length-append (big_bytes 2 k.max_stack) (big_bytes 2 k.max_locals), length-big_bytes 2 k.max_stack, length-big_bytes 2 k.max_locals) in
    let long : length (two ++ big_bytes 4 n) ≡ 8 = omega (arith, long_two, length-append two (big_bytes 4 n), length-big_bytes 4 n) in
    let few = fits.few in
    let size : code_length xs ≡ n = ap (big_number 4) (drop_at two (big_bytes 4 n ++ ys) 4 long_two) ∙ number_again 4 n ys (omega arith) in
    let to_code : after 8 xs ≡ Some ys = ap (after 8) eight ∙ after_text (two ++ big_bytes 4 n) ys 8 long in
    let instructions : after_instructions xs ≡ Some a = rw (to_code, size, lt-ltb 0 n fits.some, lt-ltb n (2 ^ 16) fits.few) (after_text k.code a n refl) in
    let handlers = (reads_table reads_handler).again k.handlers b fits.handlers in
    let attributes = (reads_table reads_attribute).again k.attributes rest fits.attributes in
    let numbers = again_two 2 2 k.max_stack k.max_locals (big_bytes 4 n ++ ys) fits.max_stack fits.max_locals in
    let at_code : drop 8 xs ≡ ys = ap (drop 8) eight ∙ drop_at (two ++ big_bytes 4 n) ys 8 long in
    let code : take (code_length xs) (drop 8 xs) ≡ k.code = rw (size, at_code) (take_at k.code a n refl) in
    let is_a : handlers_at xs ≡ a = (are_instructions xs a instructions).left in
    let is_b : code_attributes_at xs ≡ b = ap (λ (zs : List ℕ). drop (2 + 8 * big_number 2 zs) zs) is_a ∙ handlers_left a b handlers.0 in (
      ap after_code regrouped
          ∙ ap (λ (o : Option (List ℕ)). option_and_then (after_table after_attribute) (option_and_then after_handlers o)) instructions
          ∙ ap (option_and_then (after_table after_attribute)) handlers.0
          ∙ attributes.0,
      ap code_value regrouped ∙ code_is numbers.1 numbers.2 code (ap handlers_of is_a ∙ handlers.1) (ap attributes_of is_b ∙ attributes.1),
    )

pub reads_code : Reads code_bytes FitsCode after_code code_value
reads_code = record { takes = code_takes; again = code_again }

-- ---- what stands in all of the bytes

module _ {X : Type 0} (bytes : X → List ℕ) (Fits : X → Type 0) (after_it : List ℕ → Option (List ℕ)) (value : List ℕ → X) (reads : Reads bytes Fits after_it value) where
  pub whole_is : (b : List ℕ) (x : X) → IsBytes b → whole after_it value b ≡ Some x → Fits x × (bytes x ≡ b)
  whole_is b x fits e =
      let behind = then_some (after_it b) (λ rest. cond (eqb (length rest) 0) (Some (value b)) None) x e in
      let rest = behind.0 in
      let tested = test_is (eqb (length rest) 0) (Some (value b)) x behind.2 in
      let is_x : value b ≡ x = same_Some (value b) x tested.1 in
      let empty : rest ≡ [] = nil_from_length rest (eqb-true (length rest) 0 tested.0) in
      let read = reads.takes b rest fits behind.1 in (
        subst (λ (y : X). Fits y) is_x read.1,
        sym (read.0.parts ∙ ap (λ (ys : List ℕ). bytes (value b) ++ ys) empty ∙ append-nil (bytes (value b)) ∙ ap bytes is_x),
      )

  pub is_whole : (b : List ℕ) (x : X) → Fits x → bytes x ≡ b → whole after_it value b ≡ Some x
  is_whole b x fits e =
      let again = reads.again x [] fits in
      let text : b ≡ bytes x ++ [] = sym (append-nil (bytes x) ∙ e) in
      let behind : after_it b ≡ Some [] = ap after_it text ∙ again.0 in
      let is_x : value b ≡ x = ap value text ∙ again.1 in
      rw (behind, is_x) refl

pub code_read_is : (b : List ℕ) (k : Code) → IsBytes b → code_in b ≡ Some k → IsCodeOf b k
code_read_is b k fits e = let is = whole_is code_bytes FitsCode after_code code_value reads_code b k fits e in record { fits = is.0; bytes = is.1 }

pub code_is_read : (b : List ℕ) (k : Code) → IsCodeOf b k → code_in b ≡ Some k
code_is_read b k is = is_whole code_bytes FitsCode after_code code_value reads_code b k is.fits is.bytes
