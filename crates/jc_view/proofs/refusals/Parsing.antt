-- What `parse` answers, from what going over the bytes answers.
use Rattle.std.proofs.Common.{◌≡◌, ◌⊎◌, ℕ, List, Ok, Option, sym, ap, subst, inl, inr}
use Rattle.jc_base.specs.Cursor.{Reading}
use Rattle.jc_view.specs.declared.parse_error.ParseError.{ParseError}
use Rattle.jc_view.specs.declared.parse_error.ParseError.TheVariants as errors
use Rattle.jc_view.specs.ClassFile.{ClassFile}
use Rattle.jc_view.specs.Reading.{PartsRead, parts_at, class_value}
use Rattle.jc_view.specs.Refusal.{IsLayoutOf, IsNamed, IsReadable, IsRefusal}
use Rattle.jc_view.specs.inside.Outcomes.{Fails}
use Rattle.jc_view.specs.inside.Tables.{HasVersion}
use Rattle.jc_view.specs.declared.view.Version.{Version}
use Rattle.jc_view.specs.inside.ConstantPlaces.{Holds}
use Rattle.jc_view.proofs.reading.BigEndian.{IsBytes}
use Rattle.jc_view.proofs.reading.PoolLoop.{fails_is}
use Rattle.jc_view.proofs.reading.Heads.{start}
use Rattle.jc_view.proofs.refusals.FirstRefusal.{parts_found, is_refusal, no_name}
use Rattle.jc_view.proofs.refusals.Layouts.{none_applies}

pub refused : (b : List ℕ) (e : ParseError) → IsBytes b → Fails e (parts_at (start b)) → (e ≡ errors.NoMemory) ⊎ IsRefusal b e
refused b e fits h =
    elim (fails_is e (parts_at (start b)) h) [
      | inl memory ↦ inl memory
      | inr stops ↦ inr (is_refusal b e fits stops)
    ]

pub no_refusal : (b : List ℕ) (e : ParseError) → IsReadable b → (e ≡ errors.NoMemory) ⊎ IsRefusal b e → e ≡ errors.NoMemory
no_refusal b e readable h =
    elim h [
      | inl memory ↦ memory
      | inr is_refused ↦ absurd (none_applies b e readable is_refused.applies)
    ]

-- what was found in the bytes
pub record IsParsed (b : List ℕ) (found : PartsRead) : Type 0 where
  pub holds : Holds b found.places (class_value b found.places found.tail)
  pub flags : found.numbers.flags ≡ (class_value b found.places found.tail).flags
  pub this_class : found.numbers.this_class ≡ (class_value b found.places found.tail).this_class
  pub super_class : found.numbers.super_class ≡ (class_value b found.places found.tail).super_class
  pub is_layout : IsLayoutOf (class_value b found.places found.tail) b

-- the version is that of the class file
pub version_is : (b : List ℕ) (v : Version) (places : List (Option ℕ)) (tail : ℕ) → HasVersion (start b) v → (v.major ≡ (class_value b places tail).major) × (v.minor ≡ (class_value b places tail).minor)
unfolding class_value
version_is b v places tail h = (h.major, h.minor)

pub parsed : (b : List ℕ) (found : PartsRead) (new : Reading) → IsBytes b → parts_at (start b) ≡ Ok (found, new) → IsParsed b found
unfolding class_value
parsed b found new fits h =
    let f = parts_found b (found, new) fits h in
    record {
      holds = f.holds;
      flags = ap (λ n. n.flags) f.numbers;
      this_class = ap (λ n. n.this_class) f.numbers;
      super_class = ap (λ n. n.super_class) f.numbers;
      is_layout = record { fits = f.holds.fits; bytes = f.holds.layout };
    }

pub unnamed : (b : List ℕ) (found : PartsRead) (new : Reading) → IsBytes b → parts_at (start b) ≡ Ok (found, new)
    → ((name : List ℕ) → ¬ IsNamed (class_value b found.places found.tail) name) → IsRefusal b errors.NoName
unnamed b found new fits h none = no_name b (found, new) h (class_value b found.places found.tail, (parsed b found new fits h).is_layout, none)

pub at_start : (reading : Reading) (b : List ℕ) → reading.place ≡ 0 → reading.rest ≡ b → reading ≡ start b
at_start reading b place rest i = record { place = place i; rest = rest i }

pub holds_at : (b : List ℕ) (places items : List (Option ℕ)) (c : ClassFile) → places ≡ items → Holds b items c → Holds b places c
holds_at b places items c same h = subst (λ (ps : List (Option ℕ)). Holds b ps c) (sym same) h
