use Rattle.std.proofs.Common.{◌≡◌, ◌+◌, ℕ, ◌∷◌, ◌++◌, [], Ok, Err, take, drop, sym, ap, ◌∙◌, subst}
use Rattle.std.proofs.lemmas.List.{drop_more, map-append, map_more, take-append-drop, take_all}
use Rattle.std.proofs.lemmas.Result.{err_from_is_err_and}
use Rattle.std.specs.declared.vec.Vec.{Vec}
use Rattle.std.specs.declared.alloc.Global.{Global}
use Rattle.jc_classes.specs.Names.{names_of}
use Rattle.jc_input.specs.Sources.{TakesAnswer, answer_of}
use Rattle.jc_session.specs.inside.Adding.{AddsOne}
use Rattle.jc_session.proofs.checks.AddedInOrder.{HasRead, none_read, read_all, read_more, read_start, read_stops}
use Rattle.jc_session.proofs.tree_check.read_tree.Goals as goal

pub returns-in_err-tree : goal.returns-in_err-tree
returns-in_err-tree g c =
    let exit = err_from_is_err_and c.from_residual.result c.from_residual.ensures.1 in
    rw (exit.1, exit.2) (none_read (g.S.Source.answers c.args.source.now) (names_of c.args.paths.now))

pub loop-path-init : goal.loop-path-init
loop-path-init g c = read_start (g.S.Source.answers c.args.source.now) c.in_ok-tree.tree c.in_ok-tree.ensures.empty

pub loop-path-preserved : goal.loop-path-preserved
loop-path-preserved g c =
    let paths = c.args.paths.now in
    let at = c.loop-path.path-index in
    let x = c.path-item.result in
    let more : names_of (take (at + 1) paths) ≡ names_of (take at paths) ++ x.items ∷ [] = map_more (λ (v : Vec ℕ Global). v.items) paths at x c.loop-path-test.true ∙ ap (λ (z : Vec ℕ Global). names_of (take at paths) ++ z.items ∷ []) (sym c.path-item.is) in
    let takes = subst (λ path. TakesAnswer (g.S.Source.answers c.loop-path.source) path (answer_of c.read.result) (g.S.Source.answers c.read.new.self)) c.deref-in-loop-path.ensures.value c.read.ensures in
    let adds = subst (λ path. AddsOne c.loop-path.invariant.files path (answer_of c.read.result) (Ok c.in_ok-tree-2.tree)) c.deref.ensures.value (c.in_ok-tree-2.ensures c.loop-path.invariant.files c.loop-path.invariant.kept) in
    subst (λ front. HasRead (g.S.Source.answers c.args.source.now) (g.S.Source.answers c.read.new.self) front c.in_ok-tree-2.tree) (sym more)
    (read_more _ _ _ _ x.items (answer_of c.read.result) c.loop-path.tree c.in_ok-tree-2.tree c.loop-path.invariant takes adds)

pub returns-in_err-tree-2 : goal.returns-in_err-tree-2
returns-in_err-tree-2 g c =
    let paths = c.args.paths.now in
    let at = c.loop-path.path-index in
    let x = c.path-item.result in
    let rest : drop at paths ≡ x ∷ drop (at + 1) paths = drop_more paths at x c.loop-path-test.true ∙ ap (λ (z : Vec ℕ Global). z ∷ drop (at + 1) paths) (sym c.path-item.is) in
    let whole : names_of paths ≡ names_of (take at paths) ++ x.items ∷ names_of (drop (at + 1) paths) =
    ap names_of (sym (take-append-drop at paths)) ∙ map-append (λ (v : Vec ℕ Global). v.items) (take at paths) (drop at paths) ∙ ap (λ zs. names_of (take at paths) ++ names_of zs) rest in
    let takes = subst (λ path. TakesAnswer (g.S.Source.answers c.loop-path.source) path (answer_of c.read.result) (g.S.Source.answers c.read.new.self)) c.deref-in-loop-path.ensures.value c.read.ensures in
    let adds = subst (λ path. AddsOne c.loop-path.invariant.files path (answer_of c.read.result) (Err c.in_err-tree-2.field-0.0)) c.deref.ensures.value (c.in_err-tree-2.ensures c.loop-path.invariant.files c.loop-path.invariant.kept) in
    let exit = err_from_is_err_and c.from_residual-in_err-tree-2.result c.from_residual-in_err-tree-2.ensures.1 in
    let stops = read_stops _ _ _ _ (names_of (drop (at + 1) paths)) x.items (answer_of c.read.result) c.loop-path.tree c.in_err-tree-2.field-0.0 c.loop-path.invariant takes adds in
    rw (exit.1, exit.2, whole) stops

pub returns : goal.returns
returns g c =
    let paths = c.args.paths.now in
    let all = subst (λ front. HasRead (g.S.Source.answers c.args.source.now) (g.S.Source.answers c.loop-path.source) (names_of front) c.loop-path.tree) (take_all c.loop-path.path-index paths c.loop-path-test.false) c.loop-path.invariant in
    read_all _ _ _ c.loop-path.tree all
