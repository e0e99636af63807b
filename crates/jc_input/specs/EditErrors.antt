-- The numbers and names of an edit's errors.
use Rattle.std.specs.Prelude.{List, ℕ, codes}
use Rattle.jc_input.specs.declared.edit.EditError.{EditError}
use Rattle.jc_input.specs.declared.edit.EditError.TheVariants as errors

abbrev pub edit_code : EditError → ℕ
edit_code errors.AlreadyThere = 1
edit_code errors.NoSuchFile = 2
edit_code errors.TooLarge = 3
edit_code errors.TooMany = 4
edit_code errors.BadPath = 5
edit_code errors.NoMemory = 6
edit_code errors.BadPrefix = 7
edit_code errors.PrefixThere = 8
edit_code errors.NoSuchPrefix = 9
edit_code errors.TooManyPrefixes = 10

abbrev pub edit_error_name : EditError → List ℕ
edit_error_name errors.AlreadyThere = codes "AlreadyThere"
edit_error_name errors.NoSuchFile = codes "NoSuchFile"
edit_error_name errors.TooLarge = codes "TooLarge"
edit_error_name errors.TooMany = codes "TooMany"
edit_error_name errors.BadPath = codes "BadPath"
edit_error_name errors.NoMemory = codes "NoMemory"
edit_error_name errors.BadPrefix = codes "BadPrefix"
edit_error_name errors.PrefixThere = codes "PrefixThere"
edit_error_name errors.NoSuchPrefix = codes "NoSuchPrefix"
edit_error_name errors.TooManyPrefixes = codes "TooManyPrefixes"
