-- The first method whose code uses each constant, while the methods are read in file order.
use Rattle.std.specs.Prelude.{◌≡◌, ℕ, ◌+◌, ◌<◌, Bool, true, false, cond, List, length, replicate, slice_index_or, Option, Some, None, IsSome}
use Rattle.std.specs.Option.{option_or}
use Rattle.jc_view.specs.declared.constant_pool.ConstantIndex.{ConstantIndex}
use Rattle.jc_view.specs.ClassFile.{ClassFile, all_slots}
use Rattle.jc_classes.specs.Users.{first_user, names_constant}
use Rattle.jc_classes.specs.inside.Using.{mark_at}
use Rattle.jc_classes.specs.declared.first_users.FirstUsers.{FirstUsers}

abbrev pub first_at : List (Option ℕ) → ℕ → Option ℕ
first_at numbers i = slice_index_or numbers i None

abbrev pub method_if : Bool → ℕ → Option ℕ
method_if is_used method = cond is_used (Some method) None

-- each index that passes the test and has no number got this one
pub record SetsFirst (test : ℕ → Bool) (method : ℕ) (old new : List (Option ℕ)) : Type 0 where
  pub size : length new ≡ length old
  pub sets : (i : ℕ) → i < length old → first_at new i ≡ option_or (first_at old i) (method_if (test i) method)

abbrev pub AddsFirst : (ℕ → Bool) → ℕ → (old new : FirstUsers) → Type 0
AddsFirst test method old new = SetsFirst test method old.numbers.items new.numbers.items

pub record IsEmpty (c : ClassFile) (first : FirstUsers) : Type 0 where
  pub numbers : first.numbers.items ≡ replicate (1 + all_slots c.constants) None
  pub seen : first.seen.items ≡ replicate (1 + all_slots c.constants) false

-- each constant has an entry; each constant that is used through a seen constant has a number
pub record AreSeen (c : ClassFile) (first : FirstUsers) : Type 0 where
  pub size : length first.numbers.items ≡ 1 + all_slots c.constants
  pub marks : length first.seen.items ≡ 1 + all_slots c.constants
  pub seen : (index : ConstantIndex) (i : ℕ) → mark_at first.seen.items index.0 ≡ true → names_constant c i index ≡ true
      → i < 1 + all_slots c.constants → IsSome (first_at first.numbers.items i)

-- each constant has the number of its first method
abbrev pub AreFirst : ClassFile → List (Option ℕ) → Type 0
AreFirst c numbers = (i : ℕ) → i < 1 + all_slots c.constants → first_at numbers i ≡ first_user c i
