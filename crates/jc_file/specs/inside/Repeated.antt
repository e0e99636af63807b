-- Members that repeat an earlier one, found in one pass.
use Rattle.std.specs.Prelude.{ℕ, ◌+◌, Bool, false, ◌||◌, cond, List, [], ◌∷◌, ◌++◌, map, Option}
use Rattle.std.specs.Option.{option_map_or}
use Rattle.std.specs.Borrow.{Bor}
use Rattle.jc_view.specs.Lent.{MembersLeft}
use Rattle.jc_file.specs.Faults.{key_of, repeated}

-- the numbers, from n on, of the keys that were seen or that are equal to an earlier key of the list
abbrev pub repeats : {K : Type 0} → (K → K → Bool) → (K → Bool) → ℕ → List (Option K) → List ℕ
repeats same seen n [] = []
repeats same seen n (key ∷ keys) =
    cond (option_map_or seen key false) (n ∷ []) []
    ++ repeats same (λ q. seen q || option_map_or (same q) key false) (n + 1) keys

-- the keys of the members that are left
abbrev pub keys_left : MembersLeft → List (Option (List ℕ × List ℕ))
keys_left members = map (λ m. key_of members.class m.member) members.left

-- the numbers of the members that are left which have the name and descriptor of an earlier one
abbrev pub repeated_left : MembersLeft → List ℕ
repeated_left members = repeated members.class (map (λ m. m.member) members.left)

-- a name and a descriptor that are borrowed
abbrev pub key_now : Bor (List ℕ) × Bor (List ℕ) → List ℕ × List ℕ
key_now key = (key.0.now, key.1.now)
