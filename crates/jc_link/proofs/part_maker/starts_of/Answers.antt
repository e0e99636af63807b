use Rattle.std.proofs.Common.{◌≡◌, ◌<◌, ◌∙◌, ◌++◌, ◌∷◌, [], ℕ, Option, Some, length, arith, sym, ap, subst}
use Rattle.std.proofs.lemmas.List.{get_or-map, get_or_default, length-map}
use Rattle.std.specs.List.{All, Contains, flat_map}
use Rattle.std.specs.Option.{option_to_list}
use Rattle.std.specs.declared.vec.Vec.{Vec}
use Rattle.std.specs.declared.alloc.Global.{Global}
use Rattle.jc_classes.specs.Numbers.{name_at}
use Rattle.jc_classes.specs.Worlds.{Stands, references_of}
use Rattle.jc_classes.specs.Worlds.Stands.{Absent}
use Rattle.jc_resolve.specs.Numbered.{NumberReferences}
use Rattle.jc_link.specs.Graphs.{ClassGraph, IsIn}
use Rattle.jc_link.specs.inside.Gathering.{stand_at, stands_in}
use Rattle.jc_link.specs.inside.GraphShown.{AreStarts, class_at, nodes_at, nodes_in}
use Rattle.jc_link.proofs.graphs.Places.{among, class_in, class_name, references_in}
use Rattle.jc_link.proofs.graphs.Walking.{all_of, are_starts, starts_within}
use Rattle.jc_link.proofs.part_maker.starts_of.Goals as goal

pub returns-clause-within : goal.returns-clause-within
returns-clause-within c =
    let a = c.graph.inside in
    let place = c.args.place in
    let whole = c.graph.invariant in
    let l = among a whole c.args.graph.now c.graph.view_is place c.requires in
    let class = c.index-2.result.now in
    let is_class : class ≡ class_at a.classes.items place = c.index-2.ensures ∙ get_or_default a.classes.items place _ 0 l in
    let in_names : class < length a.names = omega (arith, is_class, class_in a whole c.args.graph.now c.graph.view_is place c.requires) in
    let held = references_in a whole c.args.graph.now c.graph.view_is place c.requires in
    let references = a.references.items in
    let nodes = c.as_slice-references.result.now in
    let at : nodes ≡ nodes_at (nodes_in references) place =
    c.as_slice-references.ensures.value ∙ ap (λ (v : Vec (Option ℕ) Global). v.items) c.index.ensures ∙ sym (get_or-map (λ (v : Vec (Option ℕ) Global). v.items) references place _ [] held) in
    let within = λ (v : ℕ) (h : Contains nodes (Some v)). whole.referred.within place v (omega (arith, held, length-map references (λ (w : Vec (Option ℕ) Global). w.items))) (subst (λ z. Contains z (Some v)) at h) in
    let items : c.push_some.new.numbers.items ≡ class ∷ a.object ∷ flat_map option_to_list nodes =
    c.in_ok-push_some.ensures ∙ ap (λ z. z ++ flat_map option_to_list nodes) (c.in_ok-push-2.ensures.items ∙ ap (λ z. z ++ a.object ∷ []) (c.in_ok-push.ensures.items ∙ ap (λ z. z ++ class ∷ []) c.in_ok-starts.ensures.items)) in
    subst (λ (g : ClassGraph). All (λ v. v < length g.names) c.push_some.new.numbers.items) c.graph.view_is
    (subst (All (λ v. v < length a.names)) (sym items) (all_of (length a.names) (class ∷ a.object ∷ flat_map option_to_list nodes)
    (starts_within (length a.names) class a.object nodes in_names whole.graph.object.0 within)))

pub returns-clause-starts : goal.returns-clause-starts
returns-clause-starts c = λ m lies.
    let a = c.graph.inside in
    let place = c.args.place in
    let whole = c.graph.invariant in
    let d = name_at c.args.graph.now.classes place in
    let l = among a whole c.args.graph.now c.graph.view_is place c.requires in
    let class = c.index-2.result.now in
    let is_class : class ≡ class_at a.classes.items place = c.index-2.ensures ∙ get_or_default a.classes.items place _ 0 l in
    let in_names : class < length a.names = omega (arith, is_class, class_in a whole c.args.graph.now c.graph.view_is place c.requires) in
    let name : name_at a.names class ≡ d = ap (name_at a.names) is_class ∙ class_name a whole c.args.graph.now c.graph.view_is place c.requires in
    let held = references_in a whole c.args.graph.now c.graph.view_is place c.requires in
    let references = a.references.items in
    let nodes = c.as_slice-references.result.now in
    let at : nodes ≡ nodes_at (nodes_in references) place =
    c.as_slice-references.ensures.value ∙ ap (λ (v : Vec (Option ℕ) Global). v.items) c.index.ensures ∙ sym (get_or-map (λ (v : Vec (Option ℕ) Global). v.items) references place _ [] held) in
    let items : c.push_some.new.numbers.items ≡ class ∷ a.object ∷ flat_map option_to_list nodes =
    c.in_ok-push_some.ensures ∙ ap (λ z. z ++ flat_map option_to_list nodes) (c.in_ok-push-2.ensures.items ∙ ap (λ z. z ++ a.object ∷ []) (c.in_ok-push.ensures.items ∙ ap (λ z. z ++ class ∷ []) c.in_ok-starts.ensures.items)) in
    let all = subst (IsIn m) (sym c.graph.view_is) lies in
    let here : stand_at (stands_in a.standing.items) (class_at a.classes.items place) ≡ m d =
    ap (stand_at (stands_in a.standing.items)) (sym is_class) ∙ ap (λ z. stand_at z class) all ∙ get_or-map m a.names class [] Absent in_names ∙ ap m name in
    let named = subst (λ (s : Stands). NumberReferences a.names nodes (references_of s)) here
    (subst (λ z. NumberReferences a.names z (references_of (stand_at (stands_in a.standing.items) (class_at a.classes.items place)))) (sym at)
    (whole.referred.named place (omega (arith, held, length-map references (λ (v : Vec (Option ℕ) Global). v.items))))) in
    subst (λ (g : ClassGraph). AreStarts m d g.names c.push_some.new.numbers.items) c.graph.view_is
    (subst (AreStarts m d a.names) (sym items) (are_starts m d a.names class a.object nodes name whole.graph.object.1 named))
