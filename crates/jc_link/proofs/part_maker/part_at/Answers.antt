use Rattle.std.proofs.Common.{◌≡◌, ◌∙◌, ◌<◌, ℕ, Option, [], Some, length, arith, refl, sym, ap, subst}
use Rattle.std.proofs.lemmas.List.{get_or-map, get_or_default, length-map}
use Rattle.std.specs.List.{Contains}
use Rattle.std.specs.declared.vec.Vec.{Vec}
use Rattle.std.specs.declared.alloc.Global.{Global}
use Rattle.jc_classes.specs.Lent.{stands_of}
use Rattle.jc_classes.specs.Numbers.{name_at}
use Rattle.jc_classes.specs.Worlds.{format_faults_of, code_faults_of, references_of}
use Rattle.jc_classes.specs.Worlds.Stands.{Absent}
use Rattle.jc_resolve.specs.Numbered.{NumberReferences, Numbered}
use Rattle.jc_link.specs.Graphs.{ClassGraph, IsIn}
use Rattle.jc_link.specs.inside.Gathering.{stand_at, stands_in}
use Rattle.jc_link.specs.inside.GraphShown.{class_at, nodes_at, nodes_in}
use Rattle.jc_link.proofs.graphs.Places.{among, class_in, class_name, references_in}
use Rattle.jc_link.proofs.parted.Making.{part_made}
use Rattle.jc_link.proofs.part_maker.part_at.Goals as goal

pub part_of-requires-clause-class : goal.part_of-requires-clause-class
part_of-requires-clause-class c =
    let a = c.graph.inside in
    let names : length c.args.hierarchy.now.names ≡ length a.names = ap (λ (h : Numbered). length h.names) c.requires.hierarchy.is ∙ ap (λ (g : ClassGraph). length g.names) (sym c.graph.view_is) in
    let l = among a c.graph.invariant c.args.graph.now c.graph.view_is c.args.place c.requires.place in
    let is : c.index-class.result.now ≡ class_at a.classes.items c.args.place = c.index-class.ensures ∙ get_or_default a.classes.items c.args.place _ 0 l in
    let within = class_in a c.graph.invariant c.args.graph.now c.graph.view_is c.args.place c.requires.place in
    omega (arith, names, is, within)

pub part_of-requires-clause-nodes : goal.part_of-requires-clause-nodes
part_of-requires-clause-nodes c =
    let a = c.graph.inside in
    let place = c.args.place in
    let l = among a c.graph.invariant c.args.graph.now c.graph.view_is place c.requires.place in
    let class : c.index-class.result.now ≡ class_at a.classes.items place = c.index-class.ensures ∙ get_or_default a.classes.items place _ 0 l in
    let held = references_in a c.graph.invariant c.args.graph.now c.graph.view_is place c.requires.place in
    let references = a.references.items in
    let at : c.as_slice-references.result.now ≡ nodes_at (nodes_in references) place =
    c.as_slice-references.ensures.value ∙ ap (λ (v : Vec (Option ℕ) Global). v.items) c.index.ensures ∙ sym (get_or-map (λ (v : Vec (Option ℕ) Global). v.items) references place _ [] held) in
    let is = c.requires.hierarchy.is ∙ ap (λ (g : ClassGraph). record { names = g.names; standing = g.stands; supertypes = c.requires.hierarchy.supertypes }) (sym c.graph.view_is) in
    let named = c.graph.invariant.referred.named place (omega (arith, held, length-map references (λ (v : Vec (Option ℕ) Global). v.items))) in
    let here = subst (λ z. NumberReferences a.names z (references_of (stand_at (stands_in a.standing.items) c.index-class.result.now))) (sym at)
    (subst (λ k. NumberReferences a.names (nodes_at (nodes_in references) place) (references_of (stand_at (stands_in a.standing.items) k))) (sym class) named) in
    subst (λ (h : Numbered). NumberReferences h.names c.as_slice-references.result.now (references_of (stand_at h.standing c.index-class.result.now))) (sym is) here

pub part_of-requires-clause-within : goal.part_of-requires-clause-within
part_of-requires-clause-within c = λ v h.
    let a = c.graph.inside in
    let place = c.args.place in
    let names : length c.args.hierarchy.now.names ≡ length a.names = ap (λ (z : Numbered). length z.names) c.requires.hierarchy.is ∙ ap (λ (g : ClassGraph). length g.names) (sym c.graph.view_is) in
    let held = references_in a c.graph.invariant c.args.graph.now c.graph.view_is place c.requires.place in
    let references = a.references.items in
    let at : c.as_slice-references.result.now ≡ nodes_at (nodes_in references) place =
    c.as_slice-references.ensures.value ∙ ap (λ (v : Vec (Option ℕ) Global). v.items) c.index.ensures ∙ sym (get_or-map (λ (v : Vec (Option ℕ) Global). v.items) references place _ [] held) in
    let l = c.graph.invariant.referred.within place v (omega (arith, held, length-map references (λ (w : Vec (Option ℕ) Global). w.items))) (subst (λ z. Contains z (Some v)) at h) in
    omega (arith, l, names)

pub returns-clause-part : goal.returns-clause-part
returns-clause-part c = λ m lies.
    let a = c.graph.inside in
    let place = c.args.place in
    let l = among a c.graph.invariant c.args.graph.now c.graph.view_is place c.requires.place in
    let class = c.index-class.result.now in
    let is_class : class ≡ class_at a.classes.items place = c.index-class.ensures ∙ get_or_default a.classes.items place _ 0 l in
    let in_names : class < length a.names = omega (arith, is_class, class_in a c.graph.invariant c.args.graph.now c.graph.view_is place c.requires.place) in
    let name : name_at a.names class ≡ name_at c.args.graph.now.classes place = ap (name_at a.names) is_class ∙ class_name a c.graph.invariant c.args.graph.now c.graph.view_is place c.requires.place in
    let within : class < length a.standing.items = omega (arith, in_names, c.graph.invariant.graph.closed.standing, length-map a.standing.items stands_of) in
    let own : stands_of c.index-own.result.now ≡ stand_at (stands_in a.standing.items) class = ap stands_of c.index-own.ensures ∙ sym (get_or-map stands_of a.standing.items class _ Absent within) in
    let all = subst (IsIn m) (sym c.graph.view_is) lies in
    let is : c.args.hierarchy.now ≡ record { names = a.names; standing = stands_in a.standing.items; supertypes = c.requires.hierarchy.supertypes } =
    c.requires.hierarchy.is ∙ ap (λ (g : ClassGraph). record { names = g.names; standing = g.stands; supertypes = c.requires.hierarchy.supertypes }) (sym c.graph.view_is) in
    let made = c.in_ok-part.ensures in
    let part = c.in_ok-part.part in
    part_made m (name_at c.args.graph.now.classes place) a.names (stands_in a.standing.items) c.requires.hierarchy.supertypes c.args.hierarchy.now class part.circular part.load part.answers part.links part.format_faults part.code_faults (stand_at (stands_in a.standing.items) class)
    all in_names name is made.circular made.load made.answers made.links refl
    (made.format_faults ∙ ap format_faults_of own) (made.code_faults ∙ ap code_faults_of own)
