-- The names of a folder's entries, by bytes in which each name of the folder is ended by a NUL.
use Rattle.std.specs.Prelude.{ℕ, Bool, not, List, [], codes, ◌||◌, ◌&&◌, ◌==◌}
use Rattle.std.specs.List.{list_any, slice_split}
use Rattle.jc_base.specs.Bytes.{same_bytes}
use Rattle.jc_classes.specs.Names.{Name}

-- whether a name is neither empty nor `.` nor `..`
abbrev pub is_entry_name : Name → Bool
is_entry_name n = not (same_bytes n [] || same_bytes n (codes ".") || same_bytes n (codes ".."))

-- whether the bytes contain this name, and it is that of an entry
abbrev pub is_name_in : List ℕ → Name → Bool
is_name_in bytes n = is_entry_name n && list_any (same_bytes n) (slice_split (λ b. b == 0) bytes)
