-- What is no error.
use Rattle.std.proofs.Common.{◌≡◌, ℕ, [], refl}
use Rattle.std.specs.declared.vec.Vec.{Vec}
use Rattle.std.specs.declared.alloc.Global.{Global}
use Rattle.jc_classes.specs.declared.linkage_error.LinkageError.{LinkageError}
use Rattle.jc_classes.specs.Names.{Name}
use Rattle.jc_resolve.specs.Answers.{loading_of}
use Rattle.jc_resolve.specs.declared.hierarchy.Loading.{Loading}
use Rattle.jc_resolve.specs.declared.hierarchy.Loading.TheVariants as loadings
use Rattle.jc_report.specs.ErrorsText.{load_error}

pub no_load_error : (name : Name) (load : Loading) → ((e : LinkageError) (fault : Vec ℕ Global) → load ≡ loadings.Fails e fault → ⊥) → load_error name (loading_of load) ≡ []
no_load_error name loadings.Loaded not_failed = refl
no_load_error name loadings.Outside not_failed = refl
no_load_error name (loadings.Fails e fault) not_failed = absurd (not_failed e fault refl)
