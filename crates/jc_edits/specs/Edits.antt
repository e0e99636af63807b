-- Edits of the files and of the outside prefixes of a session: why one is refused, and the files and prefixes after it.
use Rattle.std.specs.Prelude.{nat_lt, List, length, ℕ, Option, Some, None, if◌then◌else◌}
use Rattle.jc_classes.specs.Names.{Name}
use Rattle.jc_input.specs.Changes.{PrefixChange, AddsPrefix, DropsPrefix, EditChange, OfFiles, OfPrefixes}
use Rattle.jc_input.specs.FileEdits.{after, judge, ◌or_else◌}
use Rattle.jc_link.specs.Prefixes.{holds, is_bad_prefix, with_one, without}
use Rattle.jc_edits.specs.SessionState.{Contents}
use Rattle.jc_input.specs.declared.edit.EditError.{EditError}
use Rattle.jc_input.specs.declared.edit.EditError.TheVariants as errors

-- ---- of outside prefixes

-- a prefix that is empty or over 256 bytes is refused
abbrev pub prefix_fault : List ℕ → Option EditError
prefix_fault prefix = if is_bad_prefix prefix then Some errors.BadPrefix else None

-- a prefix that is there cannot be added
abbrev pub held_fault : List Name → Name → Option EditError
held_fault prefixes prefix = if holds prefixes prefix then Some errors.PrefixThere else None

-- a prefix that is not there cannot be dropped
abbrev pub lacking_fault : List Name → Name → Option EditError
lacking_fault prefixes prefix = if holds prefixes prefix then None else Some errors.NoSuchPrefix

-- a prefix can be added only to fewer than 64
abbrev pub full_fault : List Name → Option EditError
full_fault prefixes = if nat_lt (length prefixes) 64 then None else Some errors.TooManyPrefixes

-- the first refusal that applies to an edit of the prefixes
abbrev pub judge_prefix : List Name → PrefixChange → Option EditError
judge_prefix prefixes (AddsPrefix prefix) = prefix_fault prefix or_else (held_fault prefixes prefix or_else full_fault prefixes)
judge_prefix prefixes (DropsPrefix prefix) = prefix_fault prefix or_else lacking_fault prefixes prefix

-- the prefixes after an edit of them that was not refused; a prefix is added at the end
abbrev pub after_prefix : List Name → PrefixChange → List Name
after_prefix prefixes (AddsPrefix prefix) = with_one prefixes prefix
after_prefix prefixes (DropsPrefix prefix) = without prefixes prefix

-- ---- of both

-- the first refusal that applies to an edit
abbrev pub judge_edit : Contents → EditChange → Option EditError
judge_edit h (OfFiles change) = judge h.files change
judge_edit h (OfPrefixes change) = judge_prefix h.prefixes change

-- the files and the prefixes after an edit that was not refused; it changes only one of them
abbrev pub after_edit : Contents → EditChange → Contents
after_edit h (OfFiles change) = record { files = after h.files change; prefixes = h.prefixes }
after_edit h (OfPrefixes change) = record { files = h.files; prefixes = after_prefix h.prefixes change }
