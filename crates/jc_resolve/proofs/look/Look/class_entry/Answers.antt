use Rattle.std.proofs.Common.{ℕ, ◌≡◌, ◌∙◌, ◌<◌, length, refl, subst, ap}
use Rattle.jc_numbered.specs.inside.Indexed.{indexed_name, standing_of, IsIndexed}
use Rattle.jc_numbered.specs.inside.Shown.{indexed_of}
use Rattle.jc_classes.specs.Facts.{Reference}
use Rattle.jc_classes.specs.Worlds.{World, flags_of, text_of}
use Rattle.jc_classes.specs.Resolution.{ResolvesClass, class_answer}
use Rattle.jc_classes.specs.Resolution.Answer.{ToClass}
use Rattle.jc_numbered.specs.inside.Loading.{load_at, sees}
use Rattle.jc_resolve.specs.declared.entry.Entry.{Entry}
use Rattle.jc_resolve.specs.inside.Entries.{entry_shown}
use Rattle.jc_resolve.specs.inside.Resolved.{loading_of, named_of, TellsLoads, IsWithinAll, IsWithinSome}
use Rattle.jc_resolve.proofs.answering.Making.{class_made, array_made, primitive_made}
use Rattle.jc_resolve.proofs.look.Look.class_entry.Goals as goal

pub returns-in-Class : goal.returns-in-Class
returns-in-Class c =
    let x = indexed_of c.args.self.now.classes.now in
    let count = length c.args.self.now.classes.now.standing.now in
    let d = indexed_name x c.args.self.now.class in
    let node = c.in-Class.node in
    let l : node < count = subst (IsWithinAll count) c.in-Class.is c.requires in
    let f = λ (e : Entry ℕ) (h : (r : Reference) → entry_shown (indexed_name x) r e ≡ class_answer (text_of r.named) (indexed_name x node) (loading_of x (load_at c.args.self.now.loads.now node)) (sees x c.args.self.now.class node) (flags_of (standing_of x node)))
    (m : World) (r : Reference) (told : TellsLoads m x count c.args.self.now.loads.now) (index : IsIndexed m x) (same : named_of x c.args.named (text_of r.named) ≡ r.named).
    subst (λ n. ResolvesClass m d n (entry_shown (indexed_name x) r e)) same
    (class_made m count x c.args.self.now.classes.now.graph index c.args.self.now.loads.now told c.args.self.now.class node (text_of r.named) c.args.named (entry_shown (indexed_name x) r e) c.args.self.now.within l c.in-Class.is (ap text_of same) (h r)) in
    f c.node_entry.result (λ r. c.node_entry.ensures r ∙ ap (λ n. class_answer (text_of r.named) (indexed_name x node) (loading_of x (load_at c.args.self.now.loads.now node)) (sees x c.args.self.now.class node) n) c.flags.ensures)

pub returns-in-Some : goal.returns-in-Some
returns-in-Some c =
    let x = indexed_of c.args.self.now.classes.now in
    let count = length c.args.self.now.classes.now.standing.now in
    let d = indexed_name x c.args.self.now.class in
    let node = c.in-Some.node in
    let l : node < count = subst (IsWithinSome count) c.in-Some.is (subst (IsWithinAll count) c.in-Array.is c.requires) in
    let f = λ (e : Entry ℕ) (h : (r : Reference) → entry_shown (indexed_name x) r e ≡ class_answer (text_of r.named) (indexed_name x node) (loading_of x (load_at c.args.self.now.loads.now node)) (sees x c.args.self.now.class node) 0)
    (m : World) (r : Reference) (told : TellsLoads m x count c.args.self.now.loads.now) (index : IsIndexed m x) (same : named_of x c.args.named (text_of r.named) ≡ r.named).
    subst (λ n. ResolvesClass m d n (entry_shown (indexed_name x) r e)) same
    (array_made m count x c.args.self.now.classes.now.graph index c.args.self.now.loads.now told c.args.self.now.class node (text_of r.named) c.args.named c.in-Array.element (entry_shown (indexed_name x) r e) c.args.self.now.within l c.in-Array.is c.in-Some.is (h r)) in
    f c.node_entry-in-Some.result c.node_entry-in-Some.ensures

pub returns-in-None : goal.returns-in-None
returns-in-None c =
    let x = indexed_of c.args.self.now.classes.now in
    λ m r told index same. subst (λ n. ResolvesClass m (indexed_name x c.args.self.now.class) n (ToClass (text_of r.named) 0)) same (primitive_made m x c.args.self.now.class (text_of r.named) c.args.named c.in-Array.element (ToClass (text_of r.named) 0) c.in-Array.is c.in-None.is refl)
