-- Edits of files and of outside prefixes, as data.
use Rattle.std.specs.Prelude.{ℕ, List}
use Rattle.jc_input.specs.declared.edit.Edit.{Edit}
use Rattle.jc_input.specs.declared.edit.Edit.TheVariants as edits
use Rattle.jc_input.specs.declared.edit.LentEdit.{LentEdit}
use Rattle.jc_input.specs.declared.edit.LentEdit.TheVariants as lent
use Rattle.jc_input.specs.declared.edit.PrefixEdit.{PrefixEdit}
use Rattle.jc_input.specs.declared.edit.PrefixEdit.TheVariants as by_prefix

-- an edit of the files
pub data Change : Type 0 where
  Adds : (path bytes : List ℕ) → Change
  Replaces : (path bytes : List ℕ) → Change
  Removes : (path : List ℕ) → Change

-- an edit of the outside prefixes
pub data PrefixChange : Type 0 where
  AddsPrefix : (prefix : List ℕ) → PrefixChange
  DropsPrefix : (prefix : List ℕ) → PrefixChange

-- an edit of a session
pub data EditChange : Type 0 where
  OfFiles : Change → EditChange
  OfPrefixes : PrefixChange → EditChange

-- an edit that owns its path, bytes or prefix, as data
abbrev pub change_of : Edit → EditChange
change_of (edits.Add path bytes) = OfFiles (Adds path.items bytes.items)
change_of (edits.Replace path bytes) = OfFiles (Replaces path.items bytes.items)
change_of (edits.Remove path) = OfFiles (Removes path.items)
change_of (edits.AddPrefix prefix) = OfPrefixes (AddsPrefix prefix.items)
change_of (edits.DropPrefix prefix) = OfPrefixes (DropsPrefix prefix.items)

-- an edit with a borrowed prefix, as data
abbrev pub prefix_change : PrefixEdit → PrefixChange
prefix_change (by_prefix.Add prefix) = AddsPrefix prefix.now
prefix_change (by_prefix.Drop prefix) = DropsPrefix prefix.now

-- an edit with a borrowed path, as data
abbrev pub change_lent : LentEdit → Change
change_lent (lent.Add path bytes) = Adds path.now bytes.items
change_lent (lent.Replace path bytes) = Replaces path.now bytes.items
change_lent (lent.Remove path) = Removes path.now

abbrev pub path_of : Change → List ℕ
path_of (Adds path bytes) = path
path_of (Replaces path bytes) = path
path_of (Removes path) = path
