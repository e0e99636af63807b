-- Numbers of the texts of a class file. The number of a text is the first index that was looked up with this text.
use Rattle.std.specs.Prelude.{◌≡◌, ℕ, Bool, ◌&&◌, cond, nat_eq, List, Option, Some, None, slice_get, unwrap_or}
use Rattle.std.specs.Borrow.{Bor}
use Rattle.std.specs.BTreeMap.{BTreeMap, get_by}
use Rattle.jc_base.specs.Bytes.{bytes_cmp, same_bytes}
use Rattle.jc_view.specs.declared.constant_pool.ConstantIndex.{ConstantIndex}
use Rattle.jc_file.specs.declared.text_numbers.TextNumbers.{TextNumbers}
use Rattle.jc_view.specs.ClassFile.{ClassFile, Member}
use Rattle.jc_view.specs.Lookups.{utf8_at}
use Rattle.jc_file.specs.Faults.{key_of}

-- the number that a map has for a text
abbrev pub number_in : BTreeMap (Bor (List ℕ)) ConstantIndex → List ℕ → Option ConstantIndex
number_in m text = get_by (λ k. bytes_cmp text k.now) m

-- the text keeps its number, or gets this number if it has none; no other text changes
abbrev pub NumbersText : BTreeMap (Bor (List ℕ)) ConstantIndex → BTreeMap (Bor (List ℕ)) ConstantIndex
    → List ℕ → ConstantIndex → Type 0
NumbersText old new text number =
    (q : List ℕ)
    → number_in new q ≡ cond (same_bytes text q) (Some (unwrap_or (number_in old text) number)) (number_in old q)

-- the number of a text
abbrev pub number_of : TextNumbers → List ℕ → Option ConstantIndex
number_of t = number_in t.by_text

-- Some: the number of the text at an index; None: the index has no text
abbrev pub IsNumberAt : ClassFile → TextNumbers → ConstantIndex → Option ConstantIndex → Type 0
IsNumberAt c t index None = utf8_at c index ≡ None
IsNumberAt c t index (Some n) = (text : List ℕ) × (utf8_at c index ≡ Some text) × (number_of t text ≡ Some n)

-- each number is an index of its text, and the number that is kept for an index is that of its text
pub record AreNumbers (c : ClassFile) (t : TextNumbers) : Type 0 where
  pub by_text : (text : List ℕ) (n : ConstantIndex) → number_of t text ≡ Some n → utf8_at c n ≡ Some text
  pub by_index : (i : ℕ) (n : ConstantIndex) → slice_get t.by_index.items i ≡ Some (Some n)
      → IsNumberAt c t (record { 0 = i }) (Some n)

-- each text that has a number keeps it
abbrev pub KeepsNumbers : TextNumbers → TextNumbers → Type 0
KeepsNumbers old new = (text : List ℕ) (n : ConstantIndex) → number_of old text ≡ Some n → number_of new text ≡ Some n

-- ---- the keys of members

-- the numbers of a name and of a descriptor
abbrev pub IsNumbered : TextNumbers → List ℕ × List ℕ → ConstantIndex × ConstantIndex → Type 0
IsNumbered t key numbers = (number_of t key.0 ≡ Some numbers.0) × (number_of t key.1 ≡ Some numbers.1)

-- the same two numbers
abbrev pub same_numbers : ConstantIndex × ConstantIndex → ConstantIndex × ConstantIndex → Bool
same_numbers a b = nat_eq a.0.0 b.0.0 && nat_eq a.1.0 b.1.0

-- Some: the numbers of the name and descriptor of a member; None: one of them is missing
abbrev pub IsNumberedKey : ClassFile → TextNumbers → Member → Option (ConstantIndex × ConstantIndex) → Type 0
IsNumberedKey c t m None = key_of c m ≡ None
IsNumberedKey c t m (Some numbers) = (key : List ℕ × List ℕ) × (key_of c m ≡ Some key) × IsNumbered t key numbers
