-- What is told of a class by numbers is its part.
use Rattle.std.proofs.Common.{◌≡◌, ℕ, ◌<◌, List, [], length, map, sym, ap, arith, subst, ◌∙◌, Bool}
use Rattle.std.specs.List.{All}
use Rattle.std.proofs.lemmas.List.Elements.{All-weaker}
use Rattle.std.proofs.lemmas.Bool.{false≢true}
use Rattle.std.proofs.lemmas.List.{get_or-map}
use Rattle.std.specs.Bool.{Decides}
use Rattle.jc_code.specs.declared.code_fault.CodeFault.{CodeFault}
use Rattle.jc_file.specs.declared.fault.Fault.{Fault}
use Rattle.jc_classes.specs.Names.{Name}
use Rattle.jc_classes.specs.Numbers.{name_at}
use Rattle.jc_classes.specs.LinkErrors.{LinkError, links_of}
use Rattle.jc_classes.specs.Loading.{Load, Loading}
use Rattle.jc_classes.specs.Parts.{AreAnswers, IsPart}
use Rattle.jc_classes.specs.Resolution.{Answer}
use Rattle.jc_classes.specs.Worlds.{Above, Stands, World, references_of, format_faults_of, code_faults_of}
use Rattle.jc_classes.specs.Worlds.Stands.{Absent}
use Rattle.jc_resolve.specs.Numbered.{Numbered, Agrees, TellsAnswers, node_name, standing_at}
use Rattle.jc_link.specs.Graphs.{ClassGraph, IsIn}
use Rattle.jc_link.specs.declared.graph.ClassGraph.TheInside.{Inside}
use Rattle.jc_link.specs.inside.GraphShown.{IsHierarchyOf, IsWhole, graph_shown}
use Rattle.jc_link.specs.inside.TheClass.{TellsCircular}
use Rattle.jc_link.specs.inside.Gathering.{stand_at}

-- names, and what a world has at each
module _ (m : World) (ns : List Name) (st : List Stands) (all : st ≡ map m ns) where
  at : (i : ℕ) → i < length ns → stand_at st i ≡ m (name_at ns i)
  at i l = ap (λ z. stand_at z i) all ∙ get_or-map m ns i [] Absent l

  agrees : (supertypes : List (List ℕ)) → Agrees m (record { names = ns; standing = st; supertypes = supertypes })
  agrees supertypes = λ i l. sym (at i l)

-- what numbered classes say of one of them is the part of the class
pub part_made : (m : World) (d : Name) (ns : List Name) (st : List Stands) (supertypes : List (List ℕ)) (h : Numbered) (class : ℕ) (ring : Bool) (how : Loading) (found : List Answer) (errors : List LinkError) (faults : List Fault) (wrong : List (ℕ × CodeFault)) (own_stands : Stands)
    → st ≡ map m ns → class < length ns → name_at ns class ≡ d → h ≡ record { names = ns; standing = st; supertypes = supertypes }
    → TellsCircular h class ring
    → ((k : World) → Agrees k h → Load k (name_at h.names class) how)
    → TellsAnswers h class found
    → errors ≡ links_of (name_at h.names class) (standing_at h class) found
    → own_stands ≡ stand_at st class → faults ≡ format_faults_of own_stands → wrong ≡ code_faults_of own_stands
    → IsPart m d (record { circular = ring; load = how; format_faults = faults; code_faults = wrong; answers = found; links = errors })
part_made m d ns st supertypes h class ring how found errors faults wrong own_stands all within first is rings loads answers links stands same_faults same_wrong =
    let agree : Agrees m h = subst (Agrees m) (sym is) (agrees m ns st all supertypes) in
    let name : name_at h.names class ≡ d = ap (λ (z : Numbered). name_at z.names class) is ∙ first in
    let own : stand_at st class ≡ m d = at m ns st all class within ∙ ap m first in
    let here : standing_at h class ≡ m d = ap (λ z. standing_at z class) is ∙ own in
    let at_own : own_stands ≡ m d = stands ∙ own in
    let ring_is = subst (λ n. Decides ring (Above m n n)) name (rings m agree) in
    let load_is = loads m agree in
    record {
      circular = ring_is.0;
      not_circular = λ e a. false≢true (sym e ∙ ring_is.1 a);
      load = subst (λ n. Load m n how) name load_is;
      format_faults = same_faults ∙ ap format_faults_of at_own;
      code_faults = same_wrong ∙ ap code_faults_of at_own;
      answers = subst (λ s. AreAnswers m d how (references_of s) found) here (subst (λ n. AreAnswers m n how (references_of (standing_at h class)) found) name (answers m how agree load_is));
      links = links ∙ ap (λ n. links_of n (standing_at h class) found) name ∙ ap (λ s. links_of d s found) here;
    }

-- the numbers of the classes of a graph are numbers of its hierarchy
pub classes_within : (g : ClassGraph) (h : Numbered) (a : Inside) (nodes : List ℕ) → IsHierarchyOf g h → graph_shown a ≡ g
    → nodes ≡ a.classes.items → IsWhole a → All (λ v. v < length h.names) nodes
classes_within g h a nodes hierarchy shown same whole =
    let names = ap (λ (z : Numbered). length z.names) hierarchy.is ∙ ap (λ (z : ClassGraph). length z.names) (sym shown) in
    subst (All (λ v. v < length h.names)) (sym same)
    (All-weaker (λ v. v < length a.names) (λ v. v < length h.names) (λ v l. omega (arith, l, names)) a.classes.items whole.referred.classes_in)

-- what is said of the numbered classes of a graph, over the names of these classes
pub told_in : (P : World → List Name → Type 0) (m : World) (g : ClassGraph) (h : Numbered) (classes nodes : List ℕ)
    → IsHierarchyOf g h → map (name_at g.names) classes ≡ g.classes → nodes ≡ classes → IsIn m g
    → ((k : World) → Agrees k h → P k (map (node_name h) nodes)) → P m g.classes
told_in P m g h classes nodes hierarchy shown same lies tells =
    subst (P m) shown
    (subst (λ numbers. P m (map (name_at g.names) numbers)) same
    (subst (λ (z : Numbered). P m (map (name_at z.names) nodes)) hierarchy.is
    (tells m (subst (Agrees m) (sym hierarchy.is) (agrees m g.names g.stands lies hierarchy.supertypes)))))
