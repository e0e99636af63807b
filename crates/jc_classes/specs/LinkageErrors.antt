-- The numbers and names of linkage errors in the report.
use Rattle.std.specs.Prelude.{ℕ, List, codes}
use Rattle.jc_classes.specs.declared.linkage_error.LinkageError.{LinkageError}
use Rattle.jc_classes.specs.declared.linkage_error.LinkageError.TheVariants as errors

abbrev pub error_code : LinkageError → ℕ
error_code errors.NoClass = 1
error_code errors.Format = 2
error_code errors.Circular = 3
error_code errors.Incompatible = 4
error_code errors.IllegalAccess = 5
error_code errors.NoField = 6
error_code errors.NoMethod = 7
error_code errors.Instantiation = 8

abbrev pub error_name : LinkageError → List ℕ
error_name errors.NoClass = codes "NoClass"
error_name errors.Format = codes "Format"
error_name errors.Circular = codes "Circular"
error_name errors.Incompatible = codes "Incompatible"
error_name errors.IllegalAccess = codes "IllegalAccess"
error_name errors.NoField = codes "NoField"
error_name errors.NoMethod = codes "NoMethod"
error_name errors.Instantiation = codes "Instantiation"
