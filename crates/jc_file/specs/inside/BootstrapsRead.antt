-- The judgement of the bootstrap methods in bytes.
use Rattle.std.specs.Prelude.{ℕ, Bool, List, [], ◌∷◌}
use Rattle.std.specs.List.{list_all}
use Rattle.jc_view.specs.ClassFile.{Attribute, ClassFile}
use Rattle.jc_view.specs.Reading.{table_value}
use Rattle.jc_view.specs.AttributeReading.{after_bootstrap, bootstrap_value}
use Rattle.jc_file.specs.FormatRules.{is_bootstrap, declared_count}

-- the bootstrap method at the front of the bytes is well-formed
abbrev pub is_bootstrap_at : ClassFile → List ℕ → Bool
is_bootstrap_at c xs = is_bootstrap c (bootstrap_value xs)

-- all bootstrap methods of the table at the front of the bytes, after its count, are well-formed
abbrev pub are_bootstraps_at : ClassFile → List ℕ → Bool
are_bootstraps_at c xs = list_all (is_bootstrap c) (table_value after_bootstrap bootstrap_value xs)

-- the number of methods of the only attribute, or 0 if there is none or more than one
abbrev pub declared_by : List Attribute → ℕ
declared_by (a ∷ []) = declared_count a
declared_by others = 0
