-- A map with byte strings as keys, as a finite map.
use Rattle.std.specs.Prelude.{ℕ, List, map}
use Rattle.std.specs.declared.vec.Vec.{Vec}

-- the bytes of a key
abbrev pub bytes_of : {A : Type 0} → Vec ℕ A → List ℕ
bytes_of key = key.items

-- the entries, with the bytes of each key
abbrev pub byte_entries : {A V : Type 0} → List (Vec ℕ A × V) → List (List ℕ × V)
byte_entries es = map (λ e. (e.0.items, e.1)) es

-- the bytes of each key
abbrev pub byte_keys : {A : Type 0} → List (Vec ℕ A) → List (List ℕ)
byte_keys ks = map (λ k. k.items) ks
