use Rattle.std.proofs.Common.{Err, inl, inr, refl, rules}
use Rattle.std.proofs.KnownBytes.{Keeps-refl}
use Rattle.std.specs.List.Sorted.{IsStrictlySortedBy}
use Rattle.jc_classes.specs.Names.{name_cmp, names_of}
use Rattle.jc_session.specs.Statuses.{NoMemory, Unread, outcome_of_check}
use Rattle.jc_session.proofs.command_line.check_folder.Goals as goal

pub returns-in-Ok : goal.returns-in-Ok
returns-in-Ok g c =
    let did = c.check_files.ensures in
    let sorted : IsStrictlySortedBy name_cmp (names_of c.deref.result.now) = search rules in (
      outcome_of_check did.1,
      λ words asked. inr (inr (c.args.outside.now, c.args.form.now, c.args.folder.now, asked, _, sorted, did.0, did.1, refl, did.3)),
      did.4,
      did.5,
    )

pub returns-in-Err-Unread : goal.returns-in-Err-Unread
returns-in-Err-Unread g c =
    let path = c.deref-in-Err-Unread.result.now in
    (Err (Unread path), λ words asked. inr (inl (path, refl, Keeps-refl (g.W.Output.written c.args.out.now))), refl, c.conclude.ensures)

pub returns-in-Err-NoMemory : goal.returns-in-Err-NoMemory
returns-in-Err-NoMemory g c =
    (Err NoMemory, λ words asked. inl (refl, Keeps-refl (g.W.Output.written c.args.out.now)), refl, c.conclude-in-Err-NoMemory.ensures)
