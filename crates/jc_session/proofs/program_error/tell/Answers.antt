use Rattle.std.proofs.Common.{ℕ, List, Option, Result, Ok, Err, OnOk, OnErr, inl, inr, rules}
use Rattle.std.proofs.lemmas.List.{append-nil}
use Rattle.std.specs.Io.KnownBytes.{Appends}
use Rattle.jc_base.specs.Device.{CountsFault, WritesFront}
use Rattle.jc_text.proofs.Sending.{◌⟫◌, sends_equal, finished}
use Rattle.jc_session.specs.Statuses.{WritesUnlessFailed, fault_text}
use Rattle.jc_session.specs.inside.LentFaults.{fault_lent}
use Rattle.jc_session.proofs.program_error.tell.Goals as goal

told : {T E : Type 0} (r : Result T E) (text : List ℕ) (before after : Option (List ℕ)) (old new : ℕ)
    → OnOk r (Appends before after text) × OnErr r (WritesFront before after text) × CountsFault r old new → WritesUnlessFailed text before after old new
told (Ok x) text before after old new (whole, front, count) = inl (whole, count)
told (Err e) text before after old new (whole, front, count) = inr (front, count.0, count.1)

pub returns : goal.returns
returns g c =
    let text = fault_text (fault_lent c.args.fault) in
    let all = finished c.finish.result c.new-text.ensures.fresh (sends_equal (append-nil text) (c.write_fault.ensures ⟫ c.finish.ensures.sends)) c.finish.ensures.ok c.finish.ensures.err in
    let line = told c.finish.result text _ _ _ _ all in
    search (rules, line)
