use Rattle.std.proofs.Common.{◌||◌, Bool, cond, None, ap, sym, subst, ◌∙◌}
use Rattle.jc_classes.specs.Names.{Name}
use Rattle.jc_link.specs.Tables.{class_at, world}
use Rattle.jc_linkage.specs.Steps.{at_step}
use Rattle.jc_linkage.specs.inside.Holding.{IsHeld, given_in, name_of}
use Rattle.jc_linkage.specs.inside.Users.{is_name}
use Rattle.jc_linkage.specs.inside.Stepping.{AreTaken}
use Rattle.jc_linkage.proofs.changes.SameClasses.{counted_touch, held_same}
use Rattle.jc_linkage.proofs.steps.ClassesStepped.{backs_apart, backs_stay, backs_touch, both_of, both_undone, first_stood, gone_then, second_stands}
use Rattle.jc_linkage.proofs.edit.change_classes.Goals as goal
use Rattle.jc_linkage.specs.Affected.{counts_of}

pub returns-in_err-first-clause-held : goal.returns-in_err-first-clause-held
returns-in_err-first-clause-held c =
    held_same c.args.table.now c.make_both.new.table c.args.outside.now c.args.kept.now c.args.dependants.now c.in_err-first.ensures.err c.requires.held

-- what is asked of the steps that take back

pub remake-requires-clause-gone : goal.remake-requires-clause-gone
remake-requires-clause-gone c = λ n.
    let both = both_of c.args.first c.args.second c.in_ok-first.first c.in_ok-first.second c.args.table.now c.make_both.new.table
    c.requires.first c.requires.second c.in_ok-first.ensures.ok c.in_ok-first.ensures.first c.in_ok-first.ensures.second in
    ap (λ o. is_name o n) (c.removed_name-gone.ensures ∙ ap (λ b. cond b (name_of c.in_ok-first.first) None) c.is_removal-leaves.ensures) ∙ gone_then both n

pub remake-requires-clause-second : goal.remake-requires-clause-second
remake-requires-clause-second c =
    let both = both_of c.args.first c.args.second c.in_ok-first.first c.in_ok-first.second c.args.table.now c.make_both.new.table
    c.requires.first c.requires.second c.in_ok-first.ensures.ok c.in_ok-first.ensures.first c.in_ok-first.ensures.second in
    second_stands both

pub unmake_both-requires-clause-apart : goal.unmake_both-requires-clause-apart
unmake_both-requires-clause-apart c =
    let both = both_of c.args.first c.args.second c.in_ok-first.first c.in_ok-first.second c.args.table.now c.make_both.new.table
    c.requires.first c.requires.second c.in_ok-first.ensures.ok c.in_ok-first.ensures.first c.in_ok-first.ensures.second in
    backs_apart both

-- the steps taken back

pub returns-in-Err-clause-err : goal.returns-in-Err-clause-err
returns-in-Err-clause-err c = λ n.
    let both = both_of c.args.first c.args.second c.in_ok-first.first c.in_ok-first.second c.args.table.now c.make_both.new.table
    c.requires.first c.requires.second c.in_ok-first.ensures.ok c.in_ok-first.ensures.first c.in_ok-first.ensures.second in
    c.unmake_both.ensures.classes n ∙ both_undone both (c.remake.new.table) (λ k. ap (λ t. class_at t k) c.in-Err.ensures.err) n

pub returns-in-Err-clause-held : goal.returns-in-Err-clause-held
returns-in-Err-clause-held c =
    let both = both_of c.args.first c.args.second c.in_ok-first.first c.in_ok-first.second c.args.table.now c.make_both.new.table
    c.requires.first c.requires.second c.in_ok-first.ensures.ok c.in_ok-first.ensures.first c.in_ok-first.ensures.second in
    held_same c.args.table.now c.unmake_both.new.table c.args.outside.now c.remake.new.kept c.remake.new.dependants
    (λ n. c.unmake_both.ensures.classes n ∙ both_undone both (c.remake.new.table) (λ k. ap (λ t. class_at t k) c.in-Err.ensures.err) n)
    (subst (λ k. IsHeld c.args.table.now c.args.outside.now k c.remake.new.dependants) (sym c.in-Err.ensures.kept_err)
    (record { parts = c.requires.held.parts; linked = c.in-Err.ensures.linked_err }))

-- the edit

pub returns-in-Ok-clause-ok : goal.returns-in-Ok-clause-ok
returns-in-Ok-clause-ok c = λ n. c.in-Ok.ensures.ok n ∙ c.in_ok-first.ensures.ok n

pub returns-in-Ok-clause-held : goal.returns-in-Ok-clause-held
returns-in-Ok-clause-held c =
    let both = both_of c.args.first c.args.second c.in_ok-first.first c.in_ok-first.second c.args.table.now c.make_both.new.table
    c.requires.first c.requires.second c.in_ok-first.ensures.ok c.in_ok-first.ensures.first c.in_ok-first.ensures.second in
    (c.in-Ok.ensures.held c.args.table.now c.requires.held (first_stood both) (backs_stay both)).0

pub returns-in-Ok-clause-counted : goal.returns-in-Ok-clause-counted
returns-in-Ok-clause-counted c =
    let both = both_of c.args.first c.args.second c.in_ok-first.first c.in_ok-first.second c.args.table.now c.make_both.new.table
    c.requires.first c.requires.second c.in_ok-first.ensures.ok c.in_ok-first.ensures.first c.in_ok-first.ensures.second in
    counted_touch (given_in c.remake.new.table) (world c.remake.new.table c.args.outside.now)
    (λ n. at_step c.in_ok-first.first n || at_step c.in_ok-first.second n) (λ n. at_step c.args.first n || at_step c.args.second n)
    (counts_of c.args.meter.now) (counts_of c.remake.new.meter) (backs_touch both)
    (c.in-Ok.ensures.held c.args.table.now c.requires.held (first_stood both) (backs_stay both)).1

-- no place is vacant

pub returns-in_err-first-clause-taken : goal.returns-in_err-first-clause-taken
returns-in_err-first-clause-taken c = c.in_err-first.ensures.taken_err c.requires.taken

pub returns-in-Err-clause-taken : goal.returns-in-Err-clause-taken
returns-in-Err-clause-taken c =
    let touched : Name → Bool = λ n. at_step c.in_ok-first.first n || at_step c.in_ok-first.second n in
    c.unmake_both.ensures.taken (subst (AreTaken touched) (sym c.in-Err.ensures.err) (c.in_ok-first.ensures.taken c.requires.taken))

pub returns-in-Ok-clause-taken : goal.returns-in-Ok-clause-taken
returns-in-Ok-clause-taken c = c.in-Ok.ensures.taken (c.in_ok-first.ensures.taken c.requires.taken)
