use Rattle.std.proofs.Common.{Decides, IfSome, Option, Some, length, option_map, sym, subst, ◌∙◌}
use Rattle.std.proofs.lemmas.Bool.Decides.{not_from_Decides}
use Rattle.jc_classes.specs.Access.{CanUse}
use Rattle.jc_classes.specs.Lent.{key_lent, member_lent}
use Rattle.jc_classes.specs.Resolution.{Settles}
use Rattle.jc_classes.specs.Resolution.{Answer as answer}
use Rattle.jc_classes.specs.Resolution.Settles.{found, hidden, outside, nowhere}
use Rattle.jc_classes.specs.Worlds.{text_of}
use Rattle.jc_classes.specs.declared.linkage_error.LinkageError.TheVariants.{IllegalAccess}
use Rattle.jc_numbered.specs.declared.access.AccessTarget.{AccessTarget}
use Rattle.jc_numbered.specs.declared.classes.FoundMember.{FoundMember}
use Rattle.jc_numbered.specs.inside.Access.{IsTarget}
use Rattle.jc_numbered.specs.inside.Indexed.{indexed_name}
use Rattle.jc_numbered.specs.inside.Outside.{TellsOutside}
use Rattle.jc_numbered.specs.inside.Shown.{indexed_of, found_at}
use Rattle.jc_resolve.specs.inside.Entries.{IsKeyed, entry_shown}
use Rattle.jc_resolve.specs.inside.Resolved.{element_of}
use Rattle.jc_resolve.proofs.lookups.Looks.{asker_good}
use Rattle.jc_resolve.proofs.look.Look.settle.Goals as goal

pub can_use-requires-clause-target : goal.can_use-requires-clause-target
can_use-requires-clause-target c = subst (λ (t : AccessTarget). IsTarget (length c.args.self.now.classes.now.standing.now) (indexed_of c.args.self.now.classes.now) t) (sym c.target_of-target.ensures.target) c.requires.target

pub can_use-requires-clause-good : goal.can_use-requires-clause-good
can_use-requires-clause-good c = asker_good c.args.self.now

pub see-requires-clause-above : goal.see-requires-clause-above
see-requires-clause-above c = c.requires.room.above

pub returns-then-can_use-clause-settled : goal.returns-then-can_use-clause-settled
returns-then-can_use-clause-settled c = λ m r h so key.
    let x = indexed_of c.args.self.now.classes.now in
    let d = indexed_name x c.args.self.now.class in
    let start = indexed_name x c.args.start in
    let hit = c.in-Some.hit in
    let text = text_of r.named in
    let keyed = subst (λ o. IfSome o (λ (h : FoundMember). IsKeyed (key_lent c.args.key) (member_lent h.member))) c.in-Some.is c.requires.keyed in
    let usable = subst (λ n. CanUse m d n (found_at x hit)) (c.target_of-target.ensures.named x text ∙ so) ((c.can_use.ensures m text (element_of x c.args.named) h).0 c.if-can_use.true) in
    subst (λ (o : Option FoundMember). Settles m d r.named start c.args.missing (option_map (found_at x) o) (entry_shown (indexed_name x) r c.hit_entry.result)) (sym c.in-Some.is)
    (subst (Settles m d r.named start c.args.missing (Some (found_at x hit))) (sym (c.hit_entry.ensures x r key (subst (λ k. IsKeyed k (member_lent hit.member)) (sym key) keyed))) (found usable))

pub returns-else-can_use-clause-settled : goal.returns-else-can_use-clause-settled
returns-else-can_use-clause-settled c = λ m r h so key.
    let x = indexed_of c.args.self.now.classes.now in
    let d = indexed_name x c.args.self.now.class in
    let start = indexed_name x c.args.start in
    let hit = c.in-Some.hit in
    let text = text_of r.named in
    let decided = subst (λ n. Decides c.can_use.result (CanUse m d n (found_at x hit))) (c.target_of-target.ensures.named x text ∙ so) (c.can_use.ensures m text (element_of x c.args.named) h) in
    subst (λ (o : Option FoundMember). Settles m d r.named start c.args.missing (option_map (found_at x) o) (answer.Error IllegalAccess (indexed_name x hit.node))) (sym c.in-Some.is)
    (hidden (not_from_Decides c.can_use.result decided c.if-can_use.false))

pub returns-in-Some-outside-clause-settled : goal.returns-in-Some-outside-clause-settled
returns-in-Some-outside-clause-settled c = λ m r h so key.
    let x = indexed_of c.args.self.now.classes.now in
    let d = indexed_name x c.args.self.now.class in
    let start = indexed_name x c.args.start in
    let above = subst (λ o. TellsOutside m x start o) (sym c.outside.ensures ∙ c.in-Some-outside.is) (c.in_ok-see-in-None.ensures.seen.outside m h) in
    subst (λ (o : Option FoundMember). Settles m d r.named start c.args.missing (option_map (found_at x) o) (answer.Outside (indexed_name x c.in-Some-outside.node))) (sym c.in-None.is) (outside above.0 above.1)

pub returns-in-None-outside-clause-settled : goal.returns-in-None-outside-clause-settled
returns-in-None-outside-clause-settled c = λ m r h so key.
    let x = indexed_of c.args.self.now.classes.now in
    let d = indexed_name x c.args.self.now.class in
    let start = indexed_name x c.args.start in
    let above = subst (λ o. TellsOutside m x start o) (sym c.outside.ensures ∙ c.in-None-outside.is) (c.in_ok-see-in-None.ensures.seen.outside m h) in
    subst (λ (o : Option FoundMember). Settles m d r.named start c.args.missing (option_map (found_at x) o) (answer.Error c.args.missing (text_of r.named))) (sym c.in-None.is) (nowhere above)

pub returns-in-Some-outside-clause-room : goal.returns-in-Some-outside-clause-room
returns-in-Some-outside-clause-room c = record { above = c.in_ok-see-in-None.ensures.known; covered = c.requires.room.covered }

pub returns-in-None-outside-clause-room : goal.returns-in-None-outside-clause-room
returns-in-None-outside-clause-room c = record { above = c.in_ok-see-in-None.ensures.known; covered = c.requires.room.covered }
