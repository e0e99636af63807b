use Rattle.std.proofs.Common.{length, sym, subst}
use Rattle.jc_classes.specs.Resolution.{Starts}
use Rattle.jc_classes.specs.Resolution.ResolvesInterfaceMethod.{ends, looks, no_interface}
use Rattle.jc_numbered.specs.inside.Indexed.{indexed_name}
use Rattle.jc_numbered.specs.inside.Shown.{indexed_of}
use Rattle.jc_resolve.specs.inside.Resolved.{start_shown}
use Rattle.std.proofs.Common.{true, false, refl, ap, ◌∙◌}
use Rattle.jc_classes.specs.Worlds.{is_interface}
use Rattle.jc_file.specs.AccessFlags.{has, interface as interface_flag}
use Rattle.jc_numbered.proofs.lookups.Bridge.{record_is}
use Rattle.jc_resolve.proofs.lookups.IfOks.{if_ok_map}
use Rattle.jc_resolve.proofs.look.Look.interface_method.Goals as goal

pub find_interface_method-requires-clause-start : goal.find_interface_method-requires-clause-start
find_interface_method-requires-clause-start c = (c.begin.ensures.at c.in-Ok.start c.in-Ok.is).0

pub settle-requires-clause-start : goal.settle-requires-clause-start
settle-requires-clause-start c = (c.begin.ensures.at c.in-Ok.start c.in-Ok.is).0

pub settle-requires-clause-target : goal.settle-requires-clause-target
settle-requires-clause-target c = c.begin.ensures.target c.in-Ok.start c.in-Ok.is

pub settle-requires-clause-home : goal.settle-requires-clause-home
settle-requires-clause-home c = c.in_ok-found-in-Ok.ensures.within

pub settle-requires-clause-keyed : goal.settle-requires-clause-keyed
settle-requires-clause-keyed c = c.in_ok-found-in-Ok.ensures.keyed

pub settle-requires-clause-room : goal.settle-requires-clause-room
settle-requires-clause-room c = c.in_ok-found-in-Ok.ensures.room

pub returns-in_ok-found-in-Ok-clause-found : goal.returns-in_ok-found-in-Ok-clause-found
returns-in_ok-found-in-Ok-clause-found c =
    let x = indexed_of c.args.self.now.classes.now in
    let d = indexed_name x c.args.self.now.class in
    if_ok_map c.settle.result _ _ (λ e f m r t h so key. looks
    (subst (λ b. Starts m d r.named (start_shown x r b)) c.in-Ok.is (c.begin.ensures.starts m r t h so))
    (record_is m (length c.args.self.now.classes.now.standing.now) x c.args.self.now.classes.now.graph h (λ r. is_interface r) c.in-Ok.start true (c.begin.ensures.at c.in-Ok.start c.in-Ok.is).0 (ap (λ f. has f interface_flag) (sym c.flags.ensures) ∙ sym c.is_in.ensures ∙ c.if-not-is_in.false))
    (c.in_ok-found-in-Ok.ensures.found m h)
    (f m r h so key)) c.settle.ensures.settled

pub returns-in-Err-clause-found : goal.returns-in-Err-clause-found
returns-in-Err-clause-found c =
    let x = indexed_of c.args.self.now.classes.now in
    λ m r t h so key. ends (subst (λ b. Starts m (indexed_name x c.args.self.now.class) r.named (start_shown x r b)) c.in-Err.is (c.begin.ensures.starts m r t h so))

pub flags-requires : goal.flags-requires
flags-requires c = (c.begin.ensures.at c.in-Ok.start c.in-Ok.is).0

pub returns-then-not-is_in-clause-found : goal.returns-then-not-is_in-clause-found
returns-then-not-is_in-clause-found c =
    let x = indexed_of c.args.self.now.classes.now in
    let d = indexed_name x c.args.self.now.class in
    λ m r t h so key. no_interface
    (subst (λ b. Starts m d r.named (start_shown x r b)) c.in-Ok.is (c.begin.ensures.starts m r t h so))
    (record_is m (length c.args.self.now.classes.now.standing.now) x c.args.self.now.classes.now.graph h (λ r. is_interface r) c.in-Ok.start false (c.begin.ensures.at c.in-Ok.start c.in-Ok.is).0 (ap (λ f. has f interface_flag) (sym c.flags.ensures) ∙ sym c.is_in.ensures ∙ c.if-not-is_in.true))
    refl

pub returns-in_ok-found-in-Ok-clause-room : goal.returns-in_ok-found-in-Ok-clause-room
returns-in_ok-found-in-Ok-clause-room c = c.settle.ensures.room
