use Rattle.std.proofs.Common.{subst}
use Rattle.jc_classes.specs.Resolution.{Starts}
use Rattle.jc_classes.specs.Resolution.ResolvesField.{ends, looks}
use Rattle.jc_numbered.specs.inside.Indexed.{indexed_name}
use Rattle.jc_numbered.specs.inside.Shown.{indexed_of}
use Rattle.jc_resolve.specs.inside.Resolved.{start_shown}
use Rattle.jc_resolve.proofs.lookups.IfOks.{if_ok_map}
use Rattle.jc_resolve.proofs.look.Look.field.Goals as goal

pub find_field-requires-clause-start : goal.find_field-requires-clause-start
find_field-requires-clause-start c = (c.begin.ensures.at c.in-Ok.start c.in-Ok.is).0

pub find_field-requires-clause-good : goal.find_field-requires-clause-good
find_field-requires-clause-good c = (c.begin.ensures.at c.in-Ok.start c.in-Ok.is).1

pub settle-requires-clause-start : goal.settle-requires-clause-start
settle-requires-clause-start c = (c.begin.ensures.at c.in-Ok.start c.in-Ok.is).0

pub settle-requires-clause-target : goal.settle-requires-clause-target
settle-requires-clause-target c = c.begin.ensures.target c.in-Ok.start c.in-Ok.is

pub settle-requires-clause-home : goal.settle-requires-clause-home
settle-requires-clause-home c = c.in_ok-found-in-Ok.ensures.within

pub settle-requires-clause-keyed : goal.settle-requires-clause-keyed
settle-requires-clause-keyed c = c.in_ok-found-in-Ok.ensures.keyed

pub settle-requires-clause-room : goal.settle-requires-clause-room
settle-requires-clause-room c = record { above = c.requires.room.above; covered = c.in_ok-found-in-Ok.ensures.seen }

pub returns-in_ok-found-in-Ok-clause-found : goal.returns-in_ok-found-in-Ok-clause-found
returns-in_ok-found-in-Ok-clause-found c =
    let x = indexed_of c.args.self.now.classes.now in
    let d = indexed_name x c.args.self.now.class in
    if_ok_map c.settle.result _ _ (λ e f m r t h so key. looks
    (subst (λ b. Starts m d r.named (start_shown x r b)) c.in-Ok.is (c.begin.ensures.starts m r t h so))
    (c.in_ok-found-in-Ok.ensures.found m h)
    (f m r h so key)) c.settle.ensures.settled

pub returns-in-Err-clause-found : goal.returns-in-Err-clause-found
returns-in-Err-clause-found c =
    let x = indexed_of c.args.self.now.classes.now in
    λ m r t h so key. ends (subst (λ b. Starts m (indexed_name x c.args.self.now.class) r.named (start_shown x r b)) c.in-Err.is (c.begin.ensures.starts m r t h so))

pub find_field-requires-clause-seen : goal.find_field-requires-clause-seen
find_field-requires-clause-seen c = c.requires.room.covered

pub returns-in_ok-found-in-Ok-clause-room : goal.returns-in_ok-found-in-Ok-clause-room
returns-in_ok-found-in-Ok-clause-room c = c.settle.ensures.room
