-- What the output has when all that waited is written.
use Rattle.std.proofs.Common.{◌≡◌, ◌≤◌, ℕ, true, false, List, [], Option, Result, Ok, Err, IsErrAnd, OnErr, OnOk, is_err, take, sym, ap, ◌∙◌, subst, arith, length-take}
use Rattle.std.proofs.lemmas.List.{append-nil, take-take}
use Rattle.std.specs.Io.KnownBytes.{Appends}
use Rattle.jc_base.specs.Device.{MoreFaults, WritesFront}
use Rattle.jc_text.specs.declared.text_writer.TextWriter.{TextWriter}
use Rattle.jc_text.specs.Sends.{IsFresh, Sends}
use Rattle.jc_text.proofs.Sending.{◌⟫◌, not_sent, sent}
use Rattle.jc_list.specs.declared.list_error.ListError.{ListError}
use Rattle.jc_list.specs.declared.list_error.ListError.TheVariants as errors
use Rattle.jc_list.specs.ListErrors.{CountsWrites, WritesListing}
use Rattle.jc_list.specs.Listing.{WritesBeginning}
use Rattle.jc_list.specs.inside.Fronts.{Lists, SendsBeginning}

-- by what `finish` answered
pub on_ok : {T E : Type 0} {P : Type 0} (r : Result T E) → is_err r ≡ false → OnOk r P → P
on_ok (Ok x) e p = p
on_ok (Err x) e p = absurd cc

pub on_err : {T E : Type 0} {P : Type 0} (r : Result T E) → is_err r ≡ true → OnErr r P → P
on_err (Ok x) e p = absurd cc
on_err (Err x) e p = p

-- it is still the caller's output
pub lists_same_reference : {W T E : Type 0} (written : W → Option (List ℕ)) (failures : W → ℕ) (start mid : TextWriter W) (text : List ℕ) (r : Result T E) → Lists written failures r start mid text
    → mid.out.ghost_name ≡ start.out.ghost_name
lists_same_reference written failures start mid text (Ok x) whole = whole.same_reference
lists_same_reference written failures start mid text (Err e) (n, within, part) = part.same_reference

front_of_front : (written_old written_new : Option (List ℕ)) (m : ℕ) (text : List ℕ) → WritesFront written_old written_new (take m text) → WritesFront written_old written_new text
front_of_front written_old written_new m text (n, within, part) =
    (n, omega (arith, within, length-take m text), subst (Appends written_old written_new) (take-take n m text (omega (arith, within, length-take m text))) part)

module _ {W : Type 0} (written : W → Option (List ℕ)) (failures : W → ℕ) (start mid end : TextWriter W) (text : List ℕ) (old last : W) (from : IsFresh start) (at_first : start.out.now ≡ old) (at_last : last ≡ end.out.now)
    (finish : Sends written failures mid end []) where
  -- ---- a write failed

  failed_by : {T E : Type 0} (r : Result T E) → Lists written failures r start mid text → end.failed ≡ true
      → WritesFront (written start.out.now) (written end.out.now) text × MoreFaults (failures start.out.now) (failures end.out.now) × (failures start.out.now ≤ failures end.out.now)
  failed_by (Ok x) whole failed =
      let all = not_sent from (whole ⟫ finish) failed in
      (subst (WritesFront (written start.out.now) (written end.out.now)) (append-nil text) all.0, all.1, all.2)
  failed_by (Err e) (m, within, part) failed =
      let all = not_sent from (part ⟫ finish) failed in
      let front = subst (WritesFront (written start.out.now) (written end.out.now)) (append-nil (take m text)) all.0 in
      (front_of_front _ _ m text front, all.1, all.2)

  pub front_of_failed : {T E : Type 0} (r : Result T E) → Lists written failures r start mid text → end.failed ≡ true → WritesFront (written old) (written last) text
  front_of_failed r listed failed = subst (λ w. WritesFront (written w) (written last) text) at_first (subst (λ w. WritesFront (written start.out.now) (written w) text) (sym at_last) (failed_by r listed failed).0)

  pub count_of_failed : {T E : Type 0} (r : Result T E) → Lists written failures r start mid text → end.failed ≡ true → MoreFaults (failures old) (failures last) × (failures old ≤ failures last)
  count_of_failed r listed failed =
      let all = failed_by r listed failed in
      subst (λ w. MoreFaults (failures w) (failures last) × (failures w ≤ failures last)) at_first
      (subst (λ w. MoreFaults (failures start.out.now) (failures w) × (failures start.out.now ≤ failures w)) (sym at_last) (all.1, all.2))

  -- ---- none failed

  pub all_of_written : Sends written failures start mid text → IsFresh end → Appends (written old) (written last) text × (failures last ≡ failures old)
  all_of_written whole to =
      let all = sent from (whole ⟫ finish) to in
      let appended = subst (Appends (written start.out.now) (written end.out.now)) (append-nil text) all.0 in (
        subst (λ w. Appends (written w) (written last) text) at_first (subst (λ w. Appends (written start.out.now) (written w) text) (sym at_last) appended),
        ap failures at_last ∙ all.1 ∙ ap failures at_first,
      )

  pub front_of_written : SendsBeginning written failures start mid text → IsFresh end → WritesBeginning (written old) (written last) text × (failures last ≡ failures old)
  front_of_written (m, within, part) to =
      let all = sent from (part ⟫ finish) to in
      let appended = subst (Appends (written start.out.now) (written end.out.now)) (append-nil (take m text)) all.0 in (
        (m, within, subst (λ w. Appends (written w) (written last) (take m text)) at_first (subst (λ w. Appends (written start.out.now) (written w) (take m text)) (sym at_last) appended)),
        ap failures at_last ∙ all.1 ∙ ap failures at_first,
      )

  -- at the exit of a `?`
  pub listing_at_exit : {T : Type 0} (r : Result T ListError) → IsErrAnd r (λ e. e ≡ errors.NoMemory) → SendsBeginning written failures start mid text → IsFresh end → WritesListing r (written old) (written last) text
  listing_at_exit (Ok x) none part to = absurd none
  listing_at_exit (Err errors.Write) none part to = absurd cc
  listing_at_exit (Err errors.NoMemory) none part to = (front_of_written part to).0

  pub count_at_exit : {T : Type 0} (r : Result T ListError) → IsErrAnd r (λ e. e ≡ errors.NoMemory) → SendsBeginning written failures start mid text → IsFresh end → CountsWrites r (failures old) (failures last)
  count_at_exit (Ok x) none part to = absurd none
  count_at_exit (Err errors.Write) none part to = absurd cc
  count_at_exit (Err errors.NoMemory) none part to = (front_of_written part to).1
