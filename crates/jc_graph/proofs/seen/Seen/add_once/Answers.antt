use Rattle.std.proofs.Common.{◌∷◌, [], true, sym, subst, set, ◌∙◌}
use Rattle.jc_graph.specs.Seen.{SeesMore}
use Rattle.jc_graph.proofs.marked.SeenLemmas.{sees_add, sees_same}
use Rattle.jc_graph.proofs.seen.Seen.add_once.Goals as goal

pub returns : goal.returns
returns c =
    let f = c.args.self.now.flags in
    let l = c.args.self.now.list in
    let v = c.args.node in
    subst (λ z. SeesMore f l z c.add.new.self.list (v ∷ [])) (sym c.in_ok-add.ensures.flags)
    (subst (λ z. SeesMore f l (set f v true) z (v ∷ [])) (sym c.in_ok-add.ensures.list) (sees_add f l v c.requires (sym c.has.ensures ∙ c.if-has.false)))

pub returns-then-has : goal.returns-then-has
returns-then-has c = sees_same c.args.self.now.flags c.args.self.now.list c.args.node (sym c.has.ensures ∙ c.if-has.true)
