-- Texts that are handed over whole or as far as memory goes, one behind another.
use Rattle.std.proofs.Common.{◌≡◌, ◌+◌, ◌++◌, ℕ, List, [], ◌∷◌, Option, Result, Ok, Err, IsErr, length, sym, ap, ◌∙◌, subst, arith, length-append, append_assoc}
use Rattle.std.proofs.lemmas.List.{take-append-le}
use Rattle.std.specs.List.{flat_map}
use Rattle.std.proofs.Math.Seq.{take-append-add}
use Rattle.jc_text.specs.declared.text_writer.TextWriter.{TextWriter}
use Rattle.jc_text.specs.Sends.{Sends}
use Rattle.jc_text.proofs.Sending.{◌⟫◌, sends_nothing, sends_equal, HasSent, part_sent, all_sent}
use Rattle.jc_list.specs.inside.Fronts.{SendsBeginning, Lists}

-- the second text has two parts
pub both_behind : {W : Type 0} {written : W → Option (List ℕ)} {failures : W → ℕ} {a b c : TextWriter W} {first : List ℕ} (second third : List ℕ)
    → Sends written failures a b first → Sends written failures b c (second ++ third) → Sends written failures a c ((first ++ second) ++ third)
both_behind {first = first} second third p q = sends_equal (sym (append_assoc first second third)) (p ⟫ q)

pub sends_to : {W : Type 0} {written : W → Option (List ℕ)} {failures : W → ℕ} {a b c : TextWriter W} {text : List ℕ} → c ≡ b → Sends written failures a b text → Sends written failures a c text
sends_to {written = written} {failures = failures} {a = a} {text = text} same whole = subst (λ w. Sends written failures a w text) (sym same) whole

pub sends_from : {W : Type 0} {written : W → Option (List ℕ)} {failures : W → ℕ} {a b c : TextWriter W} {text : List ℕ} → b ≡ a → Sends written failures b c text → Sends written failures a c text
sends_from {written = written} {failures = failures} {c = c} {text = text} same whole = subst (λ w. Sends written failures w c text) same whole

-- ---- beginnings

pub begins_nothing : {W : Type 0} (written : W → Option (List ℕ)) (failures : W → ℕ) (a : TextWriter W) (text : List ℕ) → SendsBeginning written failures a a text
begins_nothing written failures a text = (0, omega arith, sends_nothing written failures a)

pub begins_equal : {W : Type 0} {written : W → Option (List ℕ)} {failures : W → ℕ} {a b : TextWriter W} (first second : List ℕ) → first ≡ second
    → SendsBeginning written failures a b first → SendsBeginning written failures a b second
begins_equal {written = written} {failures = failures} {a = a} {b = b} first second same part = subst (SendsBeginning written failures a b) same part

-- a beginning of the first text is one of both
pub begins_first : {W : Type 0} {written : W → Option (List ℕ)} {failures : W → ℕ} {a b : TextWriter W} (first second : List ℕ)
    → SendsBeginning written failures a b first → SendsBeginning written failures a b (first ++ second)
begins_first first second (n, within, part) = (n, omega (arith, within, length-append first second), sends_equal (sym (take-append-le n first second within)) part)

-- the first text, and a beginning of the second
pub begins_second : {W : Type 0} {written : W → Option (List ℕ)} {failures : W → ℕ} {a b c : TextWriter W} (first second : List ℕ)
    → Sends written failures a b first → SendsBeginning written failures b c second → SendsBeginning written failures a c (first ++ second)
begins_second first second whole (n, within, part) =
    (length first + n, omega (arith, within, length-append first second), sends_equal (sym (take-append-add first second n)) (whole ⟫ part))

-- ---- item by item

-- of the text that is left, a beginning of the next part
pub part_begins : {W : Type 0} {written : W → Option (List ℕ)} {failures : W → ℕ} {start now new : TextWriter W} {text left : List ℕ} (part rest : List ℕ)
    → HasSent written failures start now text left → left ≡ part ++ rest → SendsBeginning written failures now new part → SendsBeginning written failures start new text
part_begins {text = text} {left = left} part rest so_far is further =
    begins_equal (so_far.done ++ (part ++ rest)) text (sym (so_far.split ∙ ap (λ l. so_far.done ++ l) is))
    (begins_second so_far.done (part ++ rest) so_far.sends (begins_first part rest further))

pub none_listed : {W X : Type 0} (written : W → Option (List ℕ)) (failures : W → ℕ) (start : TextWriter W) (f : X → List ℕ) {left all : List X} → left ≡ all
    → HasSent written failures start start (flat_map f all) (flat_map f left)
none_listed written failures start f same = record {
  done = [];
  sends = sends_nothing written failures start;
  split = ap (flat_map f) (sym same);
}

pub item_listed : {W X : Type 0} {written : W → Option (List ℕ)} {failures : W → ℕ} {start now new : TextWriter W} (f : X → List ℕ) {text : List ℕ} {left rest : List X} {x : X}
    → HasSent written failures start now text (flat_map f left) → left ≡ x ∷ rest → Sends written failures now new (f x) → HasSent written failures start new text (flat_map f rest)
item_listed f so_far is further = part_sent so_far (ap (flat_map f) is) further

pub item_begins : {W X : Type 0} {written : W → Option (List ℕ)} {failures : W → ℕ} {start now new : TextWriter W} (f : X → List ℕ) {text : List ℕ} {left rest : List X} {x : X}
    → HasSent written failures start now text (flat_map f left) → left ≡ x ∷ rest → SendsBeginning written failures now new (f x) → SendsBeginning written failures start new text
item_begins f {rest = rest} {x = x} so_far is further = part_begins (f x) (flat_map f rest) so_far (ap (flat_map f) is) further

pub all_listed : {W X : Type 0} {written : W → Option (List ℕ)} {failures : W → ℕ} {start now : TextWriter W} (f : X → List ℕ) {text : List ℕ} {left : List X}
    → HasSent written failures start now text (flat_map f left) → left ≡ [] → Sends written failures start now text
all_listed f so_far none = all_sent so_far (ap (flat_map f) none)

-- ---- by an answer

pub lists_equal : {W T E : Type 0} (written : W → Option (List ℕ)) (failures : W → ℕ) (a b : TextWriter W) (r : Result T E) (first second : List ℕ) → first ≡ second
    → Lists written failures r a b first → Lists written failures r a b second
lists_equal written failures a b r first second same part = subst (Lists written failures r a b) same part

-- a text that was sent, and one that was listed
pub lists_behind : {W T E : Type 0} {written : W → Option (List ℕ)} {failures : W → ℕ} {a b : TextWriter W} (c : TextWriter W) (r : Result T E) (first second : List ℕ)
    → Sends written failures a b first → Lists written failures r b c second → Lists written failures r a c (first ++ second)
lists_behind c (Ok x) first second whole others = whole ⟫ others
lists_behind c (Err e) first second whole others = begins_second first second whole others

-- what the exit of a `?` returns
pub lists_front : {W T E : Type 0} {written : W → Option (List ℕ)} {failures : W → ℕ} {a b : TextWriter W} {text : List ℕ} (r : Result T E)
    → IsErr r → SendsBeginning written failures a b text → Lists written failures r a b text
lists_front (Ok x) is part = absurd cc
lists_front (Err e) is part = part
