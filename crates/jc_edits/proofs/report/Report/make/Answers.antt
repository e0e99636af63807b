use Rattle.std.proofs.Common.{◌≡◌, arith, subst, sym, ◌∙◌}
use Rattle.std.proofs.lemmas.Grind.{common_steps}
use Rattle.jc_link.specs.Tables.{class_at}
use Rattle.jc_input.specs.Changes.{change_lent, path_of}
use Rattle.jc_edits.specs.SessionState.{Contents}
use Rattle.jc_edits.specs.inside.Changing.{AreChanges, bytes_of}
use Rattle.jc_edits.specs.inside.Growth.{put_at}
use Rattle.jc_edits.specs.inside.Metered.{MetersChange}
use Rattle.jc_edits.proofs.placing.EditPlaced.{held_after}
use Rattle.jc_edits.proofs.placing.HeldClasses.{change_of_files, nothing_counted}
use Rattle.jc_edits.proofs.report.Report.make.Goals as goal

-- the bytes stand at the path

pub returns-then-is_unchanged-clause-ok : goal.returns-then-is_unchanged-clause-ok
returns-then-is_unchanged-clause-ok c = sym (c.is_unchanged.ensures c.if-is_unchanged.true)

pub returns-then-is_unchanged-clause-counted : goal.returns-then-is_unchanged-clause-counted
returns-then-is_unchanged-clause-counted c = nothing_counted c.args.self.now c.args.meter.now

-- the classes change

pub invariant_of-self-in-Ok : goal.invariant_of-self-in-Ok
invariant_of-self-in-Ok c =
    let f = c.self.inside.held.files in
    let change = change_lent c.args.edit in
    let first = c.in_ok-file.field-0.first in
    let put = c.in_ok-file.field-0.put in
    let path = c.parts_of-bytes.ensures.path in
    let bytes = c.parts_of-bytes.ensures.bytes in
    let changes : AreChanges f (path_of change) (bytes_of change) first put = subst (λ p. AreChanges f p (bytes_of change) first put) path (subst (λ o. AreChanges f c.parts_of-bytes.result.0.now o first put) bytes c.in_ok-file.ensures.changes) in
    let stand : c.commit.new.held.files ≡ put_at f (path_of change) (bytes_of change) =
    c.commit.ensures.files ∙ c.in_ok-grown.ensures.commits ∙ (λ i. put_at f (path i) ((c.in_ok-file.ensures.file ∙ bytes) i)) in
    record {
      claims = c.commit.ensures.claims;
      classes = held_after f c.commit.new.held.files (path_of change) (bytes_of change) first put changes stand (class_at c.self.inside.linkage.classes) (class_at c.change.new.self.classes)
          c.self.invariant.classes c.in-Ok.ensures.ok;
    }

pub returns-in-Ok-clause-counted : goal.returns-in-Ok-clause-counted
returns-in-Ok-clause-counted c =
    let f = c.self.inside.held.files in
    let change = change_lent c.args.edit in
    let first = c.in_ok-file.field-0.first in
    let put = c.in_ok-file.field-0.put in
    let path = c.parts_of-bytes.ensures.path in
    let bytes = c.parts_of-bytes.ensures.bytes in
    let changes : AreChanges f (path_of change) (bytes_of change) first put = subst (λ p. AreChanges f p (bytes_of change) first put) path (subst (λ o. AreChanges f c.parts_of-bytes.result.0.now o first put) bytes c.in_ok-file.ensures.changes) in
    let stand : c.commit.new.held.files ≡ put_at f (path_of change) (bytes_of change) =
    c.commit.ensures.files ∙ c.in_ok-grown.ensures.commits ∙ (λ i. put_at f (path i) ((c.in_ok-file.ensures.file ∙ bytes) i)) in
    let classes = held_after f c.commit.new.held.files (path_of change) (bytes_of change) first put changes stand (class_at c.self.inside.linkage.classes) (class_at c.change.new.self.classes)
    c.self.invariant.classes c.in-Ok.ensures.ok in
    let new : Contents = record { files = c.commit.new.held.files; prefixes = c.change.new.self.prefixes } in
    subst (λ (a : Contents). MetersChange a new c.args.meter.now c.change.new.meter) c.self.view_is
    (change_of_files c.self.inside.linkage c.change.new.self f c.commit.new.held.files c.self.invariant.classes classes c.args.meter.now c.change.new.meter c.in-Ok.ensures.counted)

pub returns-in-Ok-clause-ok : goal.returns-in-Ok-clause-ok
returns-in-Ok-clause-ok c = grind (arith, common_steps)

pub returns-in-Ok-clause-prefixes : goal.returns-in-Ok-clause-prefixes
returns-in-Ok-clause-prefixes c = grind (arith, common_steps)

pub returns-in-Err-clause-err : goal.returns-in-Err-clause-err
returns-in-Err-clause-err c = grind (arith, common_steps)

pub returns-in-Err-clause-prefixes : goal.returns-in-Err-clause-prefixes
returns-in-Err-clause-prefixes c = grind (arith, common_steps)
