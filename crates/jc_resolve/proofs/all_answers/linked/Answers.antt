use Rattle.jc_classes.specs.Worlds.{Stands as stands}
use Rattle.std.proofs.Common.{◌≡◌, length, sym, ap, subst, ◌∙◌}
use Rattle.jc_classes.specs.Lent.{stands_of}
use Rattle.jc_classes.specs.LinkErrors.{links_in, links_of}
use Rattle.jc_classes.specs.Parts.{AreAnswers}
use Rattle.jc_classes.specs.Worlds.{World, references_of}
use Rattle.jc_numbered.specs.inside.Indexed.{indexed_name, standing_of, IsIndexed}
use Rattle.jc_numbered.specs.inside.Shown.{indexed_of}
use Rattle.jc_numbered.specs.inside.Loading.{load_at}
use Rattle.jc_resolve.specs.Linked.{Linked}
use Rattle.jc_resolve.specs.inside.Answered.{AreNodesOf}
use Rattle.jc_resolve.specs.inside.Entries.{node_answers}
use Rattle.jc_resolve.specs.inside.Resolved.{loading_of, TellsLoads}
use Rattle.jc_resolve.proofs.answering.Entries.{shown_size}
use Rattle.jc_resolve.proofs.lookups.IfOks.{if_ok_map}
use Rattle.jc_resolve.proofs.all_answers.linked.Goals as goal

pub entries_of-requires-clause-nodes : goal.entries_of-requires-clause-nodes
entries_of-requires-clause-nodes c =
    let x = indexed_of c.args.classes.now in
    let own : c.in-Class.facts.now.references ≡ references_of (standing_of x c.args.class) = ap (λ s. references_of (stands_of s)) (sym c.in-Class.is) ∙ ap references_of c.at.ensures in
    subst (λ rs. AreNodesOf (length c.args.classes.now.standing.now) x rs c.args.nodes.now) (sym own) c.requires.nodes

pub of-requires-2 : goal.of-requires-2
of-requires-2 c =
    let x = indexed_of c.args.classes.now in
    let refs = c.in-Class.facts.now.references in
    let entries = c.in_ok-entries.entries.items in
    let size = c.in_ok-entries.ensures.answered.0 in
    let is = c.in_ok-answers.ensures ∙ ap (λ rs. node_answers (indexed_name x) rs c.deref.result.now) c.in_ok-references.ensures ∙ ap (node_answers (indexed_name x) refs) c.deref.ensures.value in
    ap length is ∙ shown_size (λ r. indexed_name x) refs entries size ∙ size

pub returns-clause-answers : goal.returns-clause-answers
returns-clause-answers c =
    let x = indexed_of c.args.classes.now in
    let count = length c.args.classes.now.standing.now in
    let d = indexed_name x c.args.class in
    let how = loading_of x (load_at c.args.loads.now c.args.class) in
    let refs = c.in-Class.facts.now.references in
    let own : refs ≡ references_of (standing_of x c.args.class) = ap (λ s. references_of (stands_of s)) (sym c.in-Class.is) ∙ ap references_of c.at.ensures in
    let size : length x.names ≡ count = c.args.classes.now.graph.names in
    let shared : c.in_ok-references.references ≡ refs = c.in_ok-references.ensures in
    let made = c.in_ok-entries.ensures.answered in
    let list = c.in_ok-answers.answers in
    let is : list ≡ node_answers (indexed_name x) refs c.in_ok-entries.entries.items = c.in_ok-answers.ensures ∙ ap (λ rs. node_answers (indexed_name x) rs c.deref.result.now) shared ∙ ap (node_answers (indexed_name x) refs) c.deref.ensures.value in
    let f = λ (linked : Linked) (e : linked ≡ record { answers = list; links = links_in c.name.result.now c.in-Class.facts.now list })
    (m : World) (told : TellsLoads m x count c.args.loads.now) (index : IsIndexed m x).
    subst (λ rs. AreAnswers m d how rs linked.answers) own (subst (AreAnswers m d how refs) (sym (ap (λ (l : Linked). l.answers) e ∙ is)) (made.1 m (subst (λ n. TellsLoads m x n c.args.loads.now) (sym size) told) index)) in
    if_ok_map _ _ _ f c.of-2.ensures

pub returns-clause-links : goal.returns-clause-links
returns-clause-links c =
    let x = indexed_of c.args.classes.now in
    let list = c.in_ok-answers.answers in
    let facts = c.in-Class.facts.now in
    let own : stands.Class facts ≡ standing_of x c.args.class = ap stands_of (sym c.in-Class.is) ∙ c.at.ensures in
    let f = λ (linked : Linked) (e : linked ≡ record { answers = list; links = links_in c.name.result.now facts list }).
    ap (λ (l : Linked). l.links) e
    ∙ ap (λ n. links_in n facts list) c.name.ensures
    ∙ ap (λ s. links_of (indexed_name x c.args.class) s list) own
    ∙ ap (links_of (indexed_name x c.args.class) (standing_of x c.args.class)) (sym (ap (λ (l : Linked). l.answers) e)) in
    if_ok_map _ _ _ f c.of-2.ensures
