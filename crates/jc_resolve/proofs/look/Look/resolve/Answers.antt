use Rattle.std.proofs.Common.{ℕ, ◌≡◌, ◌∙◌, List, length, ap, sym, subst, refl}
use Rattle.jc_classes.specs.Worlds.{World, text_of}
use Rattle.jc_classes.specs.Facts.{Reference}
use Rattle.jc_classes.specs.Resolution.{ResolvesClass, ResolvesField, ResolvesMethod, ResolvesInterfaceMethod}
use Rattle.jc_classes.specs.Parts.{ResolvesOf}
use Rattle.jc_numbered.specs.inside.Indexed.{Indexed, indexed_name, IsIndexed}
use Rattle.jc_numbered.specs.inside.Shown.{indexed_of}
use Rattle.jc_resolve.specs.inside.Entries.{entry_shown}
use Rattle.jc_resolve.specs.inside.Resolved.{named_of, NamesSo, TellsLoads}
use Rattle.jc_classes.specs.Lent.{key_lent, reference_lent}
use Rattle.jc_resolve.proofs.answering.Texts.{text_named}
use Rattle.jc_resolve.specs.declared.entry.Entry.{Entry}
use Rattle.jc_resolve.specs.declared.resolve.NamedNode.{NamedNode}
use Rattle.jc_classes.specs.NamedTexts.{named_by}
use Rattle.jc_resolve.proofs.lookups.IfOks.{if_ok_map}
use Rattle.jc_resolve.proofs.look.Look.resolve.Goals as goal

-- what a text names has that text
named_so : (x : Indexed) (named : NamedNode) (text : List ℕ) (r : Reference) → r.named ≡ named_by text → named_of x named text ≡ named_by text → NamesSo x named r
named_so x named text r is ne =
    ap (λ n. named_of x named (text_of n)) is ∙ ap (named_of x named) (text_named text) ∙ ne ∙ sym is

pub class_entry-requires : goal.class_entry-requires
class_entry-requires c = c.named-named.ensures.within (indexed_of c.args.self.now.classes.now) (length c.args.self.now.classes.now.standing.now) c.requires.node c.requires.within

pub field-requires-clause-named : goal.field-requires-clause-named
field-requires-clause-named c = c.named-named.ensures.within (indexed_of c.args.self.now.classes.now) (length c.args.self.now.classes.now.standing.now) c.requires.node c.requires.within

pub method-requires-clause-named : goal.method-requires-clause-named
method-requires-clause-named c = c.named-named.ensures.within (indexed_of c.args.self.now.classes.now) (length c.args.self.now.classes.now.standing.now) c.requires.node c.requires.within

pub interface_method-requires-clause-named : goal.interface_method-requires-clause-named
interface_method-requires-clause-named c = c.named-named.ensures.within (indexed_of c.args.self.now.classes.now) (length c.args.self.now.classes.now.standing.now) c.requires.node c.requires.within

pub returns-in-Class-clause-found : goal.returns-in-Class-clause-found
returns-in-Class-clause-found c =
    let x = indexed_of c.args.self.now.classes.now in
    let count = length c.args.self.now.classes.now.standing.now in
    let d = indexed_name x c.args.self.now.class in
    let r = reference_lent c.args.reference in
    let so = named_so x c.named-named.result c.args.reference.class.now r refl (c.named-named.ensures.named x c.requires.node) in
    let f = λ (e : Entry ℕ) (h : (m : World) (q : Reference) → TellsLoads m x count c.args.self.now.loads.now → IsIndexed m x → NamesSo x c.named-named.result q → ResolvesClass m d q.named (entry_shown (indexed_name x) q e))
    (m : World) (told : TellsLoads m x count c.args.self.now.loads.now) (index : IsIndexed m x).
    subst (λ k. ResolvesOf m d k r (entry_shown (indexed_name x) r e)) (sym c.in-Class.is) (h m r told index so) in
    f c.class_entry.result c.class_entry.ensures

pub returns-in-Field-clause-found : goal.returns-in-Field-clause-found
returns-in-Field-clause-found c =
    let x = indexed_of c.args.self.now.classes.now in
    let count = length c.args.self.now.classes.now.standing.now in
    let d = indexed_name x c.args.self.now.class in
    let r = reference_lent c.args.reference in
    let so = named_so x c.named-named.result c.args.reference.class.now r refl (c.named-named.ensures.named x c.requires.node) in
    let f = λ (e : Entry ℕ) (h : (m : World) (q : Reference) → TellsLoads m x count c.args.self.now.loads.now → IsIndexed m x → NamesSo x c.named-named.result q → q.key ≡ key_lent c.args.reference.key → ResolvesField m d q.named (key_lent c.args.reference.key) (entry_shown (indexed_name x) q e))
    (m : World) (told : TellsLoads m x count c.args.self.now.loads.now) (index : IsIndexed m x).
    subst (λ k. ResolvesOf m d k r (entry_shown (indexed_name x) r e)) (sym c.in-Field.is) (h m r told index so refl) in
    if_ok_map c.field.result _ _ f c.field.ensures.found

pub returns-in-Method-clause-found : goal.returns-in-Method-clause-found
returns-in-Method-clause-found c =
    let x = indexed_of c.args.self.now.classes.now in
    let count = length c.args.self.now.classes.now.standing.now in
    let d = indexed_name x c.args.self.now.class in
    let r = reference_lent c.args.reference in
    let so = named_so x c.named-named.result c.args.reference.class.now r refl (c.named-named.ensures.named x c.requires.node) in
    let f = λ (e : Entry ℕ) (h : (m : World) (q : Reference) → TellsLoads m x count c.args.self.now.loads.now → IsIndexed m x → NamesSo x c.named-named.result q → q.key ≡ key_lent c.args.reference.key → ResolvesMethod m d q.named (key_lent c.args.reference.key) (entry_shown (indexed_name x) q e))
    (m : World) (told : TellsLoads m x count c.args.self.now.loads.now) (index : IsIndexed m x).
    subst (λ k. ResolvesOf m d k r (entry_shown (indexed_name x) r e)) (sym c.in-Method.is) (h m r told index so refl) in
    if_ok_map c.method.result _ _ f c.method.ensures.found

pub returns-in-InterfaceMethod-clause-found : goal.returns-in-InterfaceMethod-clause-found
returns-in-InterfaceMethod-clause-found c =
    let x = indexed_of c.args.self.now.classes.now in
    let count = length c.args.self.now.classes.now.standing.now in
    let d = indexed_name x c.args.self.now.class in
    let r = reference_lent c.args.reference in
    let so = named_so x c.named-named.result c.args.reference.class.now r refl (c.named-named.ensures.named x c.requires.node) in
    let f = λ (e : Entry ℕ) (h : (m : World) (q : Reference) → TellsLoads m x count c.args.self.now.loads.now → IsIndexed m x → NamesSo x c.named-named.result q → q.key ≡ key_lent c.args.reference.key → ResolvesInterfaceMethod m d q.named (key_lent c.args.reference.key) (entry_shown (indexed_name x) q e))
    (m : World) (told : TellsLoads m x count c.args.self.now.loads.now) (index : IsIndexed m x).
    subst (λ k. ResolvesOf m d k r (entry_shown (indexed_name x) r e)) (sym c.in-InterfaceMethod.is) (h m r told index so refl) in
    if_ok_map c.interface_method.result _ _ f c.interface_method.ensures.found
