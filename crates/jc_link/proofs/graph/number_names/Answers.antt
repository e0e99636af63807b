use Rattle.std.proofs.Common.{◌≡◌, ◌+◌, ◌∙◌, ◌++◌, ℕ, List, ◌∷◌, [], take, refl, sym, ap, subst}
use Rattle.std.proofs.lemmas.List.{map-append, take_more}
use Rattle.std.specs.declared.vec.Vec.{Vec}
use Rattle.std.specs.declared.alloc.Global.{Global}
use Rattle.jc_classes.specs.Names.{Name, names_of}
use Rattle.jc_classes.specs.Numbers.{AddsNumbers}
use Rattle.jc_classes.proofs.numbering.NumberLemmas.{adds_more, adds_none}
use Rattle.jc_link.proofs.graphs.ClassesNumbered.{none_below}
use Rattle.jc_link.proofs.graph.number_names.Goals as goal

pub loop-name-init : goal.loop-name-init
loop-name-init c =
    subst (λ (ns : List ℕ). AddsNumbers c.args.numbers.now [] c.args.numbers.now ns []) (sym c.in_ok-classes.ensures.items) (adds_none c.args.numbers.now [] c.requires (none_below _ [] refl))

pub number_into-requires : goal.number_into-requires
number_into-requires c = c.loop-name.invariant.nodes

pub loop-name-preserved : goal.loop-name-preserved
loop-name-preserved c =
    let a = c.args.numbers.now in
    let b = c.loop-name.numbers in
    let d = c.number_into.new.self in
    let r = c.loop-name.classes.items in
    let s = c.number_into.new.list.items in
    let i = c.loop-name.name-index in
    let names = c.args.names.now in
    let x = c.name-item.result in
    let more : names_of (take (i + 1) names) ≡ names_of (take i names) ++ x.items ∷ [] =
    ap names_of (take_more names i x c.loop-name-test.true ∙ ap (λ y. take i names ++ y ∷ []) (sym c.name-item.is))
    ∙ map-append (λ (v : Vec ℕ Global). v.items) (take i names) (x ∷ []) in
    let adds = subst (λ (n : Name). AddsNumbers b r d s (n ∷ [])) c.deref.ensures.value c.in_ok-number_into.ensures.adds in
    subst (AddsNumbers a [] d s) (sym more) (adds_more a b d [] r s (names_of (take i names)) (x.items ∷ []) c.loop-name.invariant adds)
