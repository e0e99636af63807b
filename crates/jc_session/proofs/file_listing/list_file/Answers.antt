use Rattle.std.proofs.Common.{◌≡◌, ◌≢◌, ◌⊎◌, ◌∙◌, ◌++◌, ℕ, Bool, List, Ok, Err, ⊎_elim, ap, arith, refl, rules}
use Rattle.std.specs.Prelude.{codes}
use Rattle.std.proofs.lemmas.Result.{err_from_is_err_and}
use Rattle.jc_view.specs.declared.parse_error.ParseError.{ParseError}
use Rattle.jc_view.specs.declared.parse_error.ParseError.TheVariants as errors
use Rattle.jc_view.specs.Outcome.{class_read}
use Rattle.jc_view.specs.Refusal.{IsRefusal}
use Rattle.jc_report.specs.FileRowText.{refusal_text}
use Rattle.jc_session.proofs.listings.TextListed.{same_stop}
use Rattle.jc_session.proofs.file_listing.list_file.Goals as goal

-- with memory the refusal is the file's
refused : (b : List ℕ) (e : ParseError) → e ≢ errors.NoMemory → (e ≡ errors.NoMemory) ⊎ IsRefusal b e → IsRefusal b e
refused b e other is = ⊎_elim (λ none. absurd (other none)) (λ why. why) is

pub returns-in-Ok-clause-faulty : goal.returns-in-Ok-clause-faulty
returns-in-Ok-clause-faulty g c =
    let b = c.args.bytes.now in
    let read : class_read b ≡ Ok c.in-Ok.view =
    c.outcomes_are_exact.ensures.read b c.in-Ok.view c.in-Ok.ensures.named.0 (λ i. omega (arith, c.type_inv.bytes i)) c.in-Ok.ensures.ok c.in-Ok.ensures.named.1 in
    rw read c.list_class.ensures.faulty

pub returns-in-Ok-clause-listing : goal.returns-in-Ok-clause-listing
returns-in-Ok-clause-listing g c =
    let b = c.args.bytes.now in
    let read : class_read b ≡ Ok c.in-Ok.view =
    c.outcomes_are_exact.ensures.read b c.in-Ok.view c.in-Ok.ensures.named.0 (λ i. omega (arith, c.type_inv.bytes i)) c.in-Ok.ensures.ok c.in-Ok.ensures.named.1 in
    rw read c.list_class.ensures.listing

pub returns-in_err-write_unreadable_line-in-Err : goal.returns-in_err-write_unreadable_line-in-Err
returns-in_err-write_unreadable_line-in-Err g c =
    let b = c.args.bytes.now in
    let refusal = c.in-Err.refusal in
    let unread : class_read b ≡ Err refusal =
    c.outcomes_are_exact.ensures.unread b refusal (λ i. omega (arith, c.type_inv.bytes i)) (refused b refusal (search rules) c.in-Err.ensures.refused) in
    let told = c.in_err-write_unreadable_line-in-Err in
    let exit = err_from_is_err_and c.from_residual.result c.from_residual.ensures.1 in
    let stopped : c.from_residual.result ≡ Err told.field-0.0 = exit.1 ∙ ap Err exit.2 in
    let same = same_stop (Unit {0}) Bool told.field-0.0 (codes "unreadable " ++ refusal_text refusal ++ codes "\n") _ _ _ _ (told.ensures.listing, told.ensures.failures) in
    rw (stopped, unread) (record { faulty = tt; listing = same.0; failures = same.1 })

pub returns-in_ok-write_unreadable_line-in-Err : goal.returns-in_ok-write_unreadable_line-in-Err
returns-in_ok-write_unreadable_line-in-Err g c =
    let b = c.args.bytes.now in
    let refusal = c.in-Err.refusal in
    let unread : class_read b ≡ Err refusal =
    c.outcomes_are_exact.ensures.unread b refusal (λ i. omega (arith, c.type_inv.bytes i)) (refused b refusal (search rules) c.in-Err.ensures.refused) in
    let told = c.in_ok-write_unreadable_line-in-Err in
    rw unread (record { faulty = refl; listing = told.ensures.listing; failures = told.ensures.failures })
