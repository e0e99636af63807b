-- The places of numbered names.
use Rattle.std.specs.Prelude.{◌≡◌, ℕ, ◌<◌, cond, List, length, Option, Some, None, IsSome}
use Rattle.std.specs.BTreeMap.{BTreeMap, get, is_at}
use Rattle.std.specs.FinMap as fin
use Rattle.std.specs.Hash.FoldHasher.{finish, initial, write}
use Rattle.std.specs.Ordering.{nat_cmp}
use Rattle.jc_classes.specs.Names.{Name, name_cmp, same_name}
use Rattle.jc_classes.specs.Numbers.{name_at}

-- the look-up finds the place of each name, and finds no other name
pub record Finds (find : Name → Option ℕ) (names : List Name) : Type 0 where
  pub there : (n : Name) (i : ℕ) → find n ≡ Some i → (i < length names) × (name_at names i ≡ n)
  pub back : (i : ℕ) → i < length names → find (name_at names i) ≡ Some i

abbrev pub NumberOf : Type 0
NumberOf = fin.FinMap name_cmp ℕ

-- the map has the place of each name, and no other name
pub record IsNumbered (places : NumberOf) (names : List Name) : Type 0 where
  pub finds : Finds (fin.get places) names
  pub count : fin.len places ≡ length names

-- ---- by digests

-- a 64-bit hash of the name; few names have the same hash
abbrev pub digest_of : Name → ℕ
digest_of name = finish (write initial name)

abbrev pub place_at : BTreeMap ℕ ℕ → ℕ → Option ℕ
place_at places digest = get nat_cmp places digest

-- the place of the name, if the name at `place` is this one; and else its other place
abbrev pub number_at : List Name → Name → (place other : Option ℕ) → Option ℕ
number_at names name None other = None
number_at names name (Some i) other = cond (same_name (name_at names i) name) (Some i) other

-- the first name of each digest is found by the digest, and other names by their bytes
abbrev pub number_in : (places : ℕ → Option ℕ) → (others : NumberOf) → List Name → Name → Option ℕ
number_in places others names name = number_at names name (places (digest_of name)) (fin.get others name)

pub record IsDigested (places : ℕ → Option ℕ) (others : NumberOf) (names : List Name) : Type 0 where
  pub finds : Finds (number_in places others names) names
  pub within : (d i : ℕ) → places d ≡ Some i → i < length names
  pub behind : (n : Name) (i : ℕ) → fin.get others n ≡ Some i → IsSome (places (digest_of n))

-- the name got its number under its digest, or under its bytes if another name has the digest
pub data AddsPlace (places places2 : ℕ → Option ℕ) (others others2 : NumberOf) (name : Name) (number : ℕ) : Type 0 where
  first : places (digest_of name) ≡ None
      → ((d : ℕ) → places2 d ≡ cond (is_at (nat_cmp (digest_of name)) d) (Some number) (places d))
      → others2 ≡ others → AddsPlace places places2 others others2 name number
  other : IsSome (places (digest_of name)) → ((d : ℕ) → places2 d ≡ places d) → others2 ≡ fin.insert others name number
      → AddsPlace places places2 others others2 name number
