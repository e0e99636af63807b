-- A text that was written is listed.
use Rattle.std.proofs.Common.{◌≡◌, ℕ, List, Option, Result, Ok, Err, OnOk, OnErr, IfErr, MatchResult, refl}
use Rattle.std.specs.Io.KnownBytes.{Appends}
use Rattle.jc_base.specs.Device.{CountsFault, WritesFront}
use Rattle.jc_list.specs.declared.list_error.ListError.{ListError}
use Rattle.jc_list.specs.declared.list_error.ListError.TheVariants as lists
use Rattle.jc_list.specs.ListErrors.{CountsWrites, WritesListing}

pub text_listed : {E : Type 0} (written : Result (Unit {0}) E) (r : Result (Unit {0}) ListError) (text : List ℕ) (before after : Option (List ℕ)) (old new : ℕ)
    → MatchResult written (λ done. r ≡ Ok done) (λ _. r ≡ Err lists.Write) → OnOk written (Appends before after text) × OnErr written (WritesFront before after text) × CountsFault written old new
    → WritesListing r before after text × CountsWrites r old new
text_listed (Ok done) r text before after old new is (whole, front, count) = rw is (whole, count)
text_listed (Err e) r text before after old new is (whole, front, count) = rw is (front, count)

-- what stopped a listing stops what it was written for
pub same_stop : (T U : Type 0) (e : ListError) (text : List ℕ) (before after : Option (List ℕ)) (old new : ℕ)
    → WritesListing {T = T} (Err e) before after text × CountsWrites {T = T} (Err e) old new → WritesListing {T = U} (Err e) before after text × CountsWrites {T = U} (Err e) old new
same_stop T U lists.Write text before after old new stopped = stopped
same_stop T U lists.NoMemory text before after old new stopped = stopped

pub wants_no_memory : {E : Type 0} (written : Result (Unit {0}) E) (r : Result (Unit {0}) ListError) → MatchResult written (λ done. r ≡ Ok done) (λ _. r ≡ Err lists.Write) → IfErr r (λ e. e ≡ lists.Write)
wants_no_memory (Ok done) r is = rw is tt
wants_no_memory (Err e) r is = rw is refl
