use Rattle.std.proofs.Common.{◌≡◌, ◌<◌, length, IfOk, sym, subst, arith}
use Rattle.jc_classes.specs.LinkErrors.{links_of}
use Rattle.jc_classes.proofs.worlds.One.{load_one}
use Rattle.jc_classes.specs.Loading.{Load as Loads, Loading as How}
use Rattle.jc_classes.specs.Numbers.{name_at}
use Rattle.jc_classes.specs.Parts.{AreAnswers}
use Rattle.jc_classes.specs.Worlds.{World, references_of}
use Rattle.jc_numbered.specs.inside.Indexed.{IsIndexed}
use Rattle.jc_numbered.specs.inside.Shown.{indexed_of}
use Rattle.jc_resolve.specs.Linked.{Linked}
use Rattle.jc_resolve.specs.Numbered.{Numbered, Agrees, NumberReferences, numbered, standing_at, references_at}
use Rattle.jc_numbered.specs.inside.Loading.{load_at}
use Rattle.jc_resolve.specs.inside.Resolved.{loading_of, TellsLoads}
use Rattle.jc_resolve.proofs.loading.Held.{index_held}
use Rattle.jc_resolve.proofs.lookups.IfOks.{if_ok_map}
use Rattle.jc_resolve.proofs.hierarchy.Hierarchy.linked.Goals as goal

pub linked-requires-clause-nodes : goal.linked-requires-clause-nodes
linked-requires-clause-nodes c =
    let i = c.self.inside.classes in
    let class = c.args.class in
    let v : Numbered = numbered i.names.now i.standing.now i.supertypes.now in
    record {
      named = subst (λ (z : Numbered). NumberReferences z.names c.args.nodes.now (references_at z class)) (sym c.self.view_is) c.requires.nodes;
      within = λ n h.
          let l : n < length v.names = subst (λ (z : Numbered). n < length z.names) (sym c.self.view_is) (c.requires.within n h) in
          omega (arith, l, c.self.invariant.loaded.net.names);
    }

pub returns-clause-answers : goal.returns-clause-answers
returns-clause-answers c =
    let i = c.self.inside.classes in
    let x = indexed_of i in
    let v : Numbered = numbered i.names.now i.standing.now i.supertypes.now in
    let count = length i.standing.now in
    let class = c.args.class in
    let loads = c.self.inside.loads.items in
    let held = c.self.invariant.loaded in
    let within : class < length v.names = subst (λ (z : Numbered). class < length z.names) (sym c.self.view_is) c.requires.class in
    let f = λ (linked : Linked) (e : (m : World) → TellsLoads m x count c.as_slice.result.now → IsIndexed m x
    → AreAnswers m (name_at v.names class) (loading_of x (load_at c.as_slice.result.now class)) (references_of (standing_at v class)) linked.answers)
    (m : World) (how : How) (agrees : Agrees m v) (load : Loads m (name_at v.names class) how).
    let index = index_held i.names.now i.standing.now i.supertypes.now m i.rank.items i.good.items held.net agrees in
    let told : TellsLoads m x count c.as_slice.result.now = subst (TellsLoads m x count) (sym c.as_slice.ensures.value) (held.told m index) in
    let same : loading_of x (load_at c.as_slice.result.now class) ≡ how = load_one (told class (omega (arith, within, held.net.names))) load in
    subst (λ z. AreAnswers m (name_at v.names class) z (references_of (standing_at v class)) linked.answers) same (e m told index) in
    subst (λ (z : Numbered). IfOk c.linked.result (λ (linked : Linked). (m : World) (how : How) → Agrees m z → Loads m (name_at z.names class) how
    → AreAnswers m (name_at z.names class) how (references_of (standing_at z class)) linked.answers)) c.self.view_is (if_ok_map _ _ _ f c.linked.ensures.answers)

pub returns-clause-links : goal.returns-clause-links
returns-clause-links c =
    let class = c.args.class in
    subst (λ (z : Numbered). IfOk c.linked.result (λ (linked : Linked). linked.links ≡ links_of (name_at z.names class) (standing_at z class) linked.answers)) c.self.view_is c.linked.ensures.links
