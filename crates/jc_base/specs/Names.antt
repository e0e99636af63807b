-- The names of classes, fields and methods (JVMS 4.2), in modified UTF-8. A character from 0x01 to 0x7f is encoded
-- as its own byte, and that byte occurs in no other encoding.
use Rattle.std.specs.Prelude.{◌≡◌, ◌≢◌, ℕ, ◌⊎◌, List, [], All, Contains, codes}
use Rattle.std.specs.List.{join_with_byte}
use Rattle.jc_base.specs.ModifiedUtf8.{IsWellSpelled}

-- the text contains none of these characters
abbrev pub Lacks : List ℕ → List ℕ → Type 0
Lacks b characters = All (λ c. ¬ Contains characters c) b

-- the characters that an unqualified name must not contain
abbrev pub name_stops : List ℕ
name_stops = codes ".;[/"

-- the characters that a method name must not contain either, except in the two special names
abbrev pub method_name_stops : List ℕ
method_name_stops = codes "<>"

-- an unqualified name (JVMS 4.2.2)
abbrev pub IsUnqualifiedName : List ℕ → Type 0
IsUnqualifiedName b = IsWellSpelled b × (b ≢ []) × Lacks b name_stops

-- the name of an instance or class initialization method (JVMS 2.9)
abbrev pub IsSpecialMethodName : List ℕ → Type 0
IsSpecialMethodName b = (b ≡ codes "<init>") ⊎ (b ≡ codes "<clinit>")

-- the name of a method (JVMS 4.2.2)
abbrev pub IsMethodName : List ℕ → Type 0
IsMethodName b = IsSpecialMethodName b ⊎ (IsUnqualifiedName b × Lacks b method_name_stops)

-- a class or interface name in its internal form (JVMS 4.2.1): unqualified names, separated by `/`
abbrev pub IsClassName : List ℕ → Type 0
IsClassName b =
    (parts : List (List ℕ)) × (parts ≢ []) × All IsUnqualifiedName parts × (b ≡ join_with_byte 47 parts)
