-- The rows of the PUBLIC and PROTECTED members of a class, by the numbers of the members.
use Rattle.std.specs.Prelude.{ℕ, Bool, false, ◌&&◌, List, [], ◌∷◌, ◌++◌, map, Option, Some, None, slice_get, if◌then◌else◌}
use Rattle.std.specs.List.{flat_map}
use Rattle.std.specs.Option.{option_to_list}
use Rattle.jc_classes.specs.Facts.{Facts, Key, Member}
use Rattle.jc_classes.specs.Names.{Name, same_name}
use Rattle.jc_classes.specs.Worlds.{key_of}
use Rattle.jc_classes.specs.declared.reference.ReferenceKind.{ReferenceKind}
use Rattle.jc_classes.specs.declared.reference.ReferenceKind.TheVariants as kinds
use Rattle.jc_report.specs.ClassRows.{is_open, is_open_method}
use Rattle.jc_report.specs.Rows.{Row}

-- the fields for the kind of fields, and the methods for any other kind
abbrev pub members_by : ReferenceKind → Facts → List Member
members_by kinds.Class f = f.methods
members_by kinds.Field f = f.fields
members_by kinds.Method f = f.methods
members_by kinds.InterfaceMethod f = f.methods

abbrev pub is_open_by : ReferenceKind → Member → Bool
is_open_by kinds.Class m = is_open_method m
is_open_by kinds.Field m = is_open m
is_open_by kinds.Method m = is_open_method m
is_open_by kinds.InterfaceMethod m = is_open_method m

abbrev pub key_if : (Member → Bool) → Option Member → Option Key
key_if keeps None = None
key_if keeps (Some m) = if keeps m then Some (key_of m) else None

-- the name and descriptor of a member, which is given by its number, if it is PUBLIC or PROTECTED
abbrev pub open_key : ReferenceKind → Facts → ℕ → Option Key
open_key kind f number = key_if (is_open_by kind) (slice_get (members_by kind f) number)

abbrev pub open_keys : ReferenceKind → Facts → List ℕ → List Key
open_keys kind f numbers = flat_map (λ n. option_to_list (open_key kind f n)) numbers

abbrev pub is_last : Option Key → Key → Bool
is_last None key = false
is_last (Some last) key = same_name last.name key.name && same_name last.descriptor key.descriptor

-- the keys after a key, without those that repeat the one before
abbrev pub keys_after : Option Key → List Key → List Key
keys_after last [] = []
keys_after last (key ∷ keys) = if is_last last key then keys_after last keys else key ∷ keys_after (Some key) keys

abbrev pub key_row : Name → ReferenceKind → Key → Row
key_row class kind key = record { class = class; kind = kind; key = key }

-- the rows of the PUBLIC and PROTECTED members with these numbers, after a key
abbrev pub rows_after : ReferenceKind → Facts → Option Key → List ℕ → List Row
rows_after kind f last numbers = map (key_row f.name kind) (keys_after last (open_keys kind f numbers))

-- the rows of all of them
abbrev pub rows_by : ReferenceKind → Facts → List ℕ → List Row
rows_by kind f numbers = rows_after kind f None numbers

-- the rows of the fields and of the methods with these numbers
abbrev pub open_rows : Facts → (fields methods : List ℕ) → List Row
open_rows f fields methods = rows_by kinds.Field f fields ++ rows_by kinds.Method f methods
