use Rattle.std.proofs.lemmas.Grind.{common_steps}
use Rattle.std.proofs.Common.{◌<◌, length, sym, subst, ap, ◌∙◌, arith}
use Rattle.std.proofs.lemmas.List.{get_or_default}
use Rattle.jc_classes.specs.Resolution.{Starts}
use Rattle.jc_classes.specs.Worlds.{text_of}
use Rattle.jc_numbered.specs.inside.Indexed.{indexed_name}
use Rattle.jc_numbered.specs.inside.Shown.{indexed_of}
use Rattle.jc_resolve.specs.inside.Resolved.{named_of, start_shown, loading_of, IsWithinAll}
use Rattle.jc_numbered.specs.inside.Loading.{load_at}
use Rattle.jc_resolve.specs.declared.resolve.NamedNode.{NamedNode}
use Rattle.jc_resolve.specs.declared.resolve.NamedNode.TheVariants as reference
use Rattle.jc_numbered.specs.declared.loads.Load.TheVariants.{Fails}
use Rattle.jc_classes.specs.declared.linkage_error.LinkageError.TheVariants as fault
use Rattle.jc_resolve.proofs.answering.Begins.{class_starts, element_starts, primitive_starts}
use Rattle.jc_resolve.proofs.look.Look.begin.Goals as goal

pub returns-in-Class-clause-starts : goal.returns-in-Class-clause-starts
returns-in-Class-clause-starts c =
    let x = indexed_of c.args.self.now.classes.now in
    let count = length c.args.self.now.classes.now.standing.now in
    let v = c.in-Class.node in
    let k : v < count = subst (λ (r : NamedNode). IsWithinAll count r) c.in-Class.is c.requires in
    λ m r t h so.
    let s = start_shown x r c.start_in_class.result in
    subst (λ n. Starts m (indexed_name x c.args.self.now.class) n s) so
    (subst (λ (q : NamedNode). Starts m (indexed_name x c.args.self.now.class) (named_of x q (text_of r.named)) s) (sym c.in-Class.is)
    (class_starts m count x c.args.self.now.classes.now.graph h c.args.self.now.loads.now t c.args.self.now.classes.now.object c.args.self.now.classes.now.object_within c.args.self.now.classes.now.object_name (indexed_name x c.args.self.now.class) v k _ (get_or_default c.args.self.now.loads.now v _ (Fails fault.NoClass 0) (omega (arith, k, c.args.self.now.size))) c.can_see.result (c.can_see.ensures) s (λ flags. c.start_in_class.ensures.start x r (loading_of x (load_at c.args.self.now.loads.now c.args.self.now.classes.now.object)) flags)))

pub returns-in-None-clause-starts : goal.returns-in-None-clause-starts
returns-in-None-clause-starts c =
    let x = indexed_of c.args.self.now.classes.now in
    let count = length c.args.self.now.classes.now.standing.now in
    λ m r t h so.
    let s = start_shown x r c.start_in_object.result in
    subst (λ n. Starts m (indexed_name x c.args.self.now.class) n s) so
    (subst (λ (q : NamedNode). Starts m (indexed_name x c.args.self.now.class) (named_of x q (text_of r.named)) s) (sym (c.in-Array.is ∙ ap (λ o. reference.Array o) c.in-None.is))
    (primitive_starts m count x c.args.self.now.classes.now.graph h c.args.self.now.loads.now t c.args.self.now.classes.now.object c.args.self.now.classes.now.object_within c.args.self.now.classes.now.object_name (indexed_name x c.args.self.now.class) (text_of r.named) _ (get_or_default c.args.self.now.loads.now c.args.self.now.classes.now.object _ (Fails fault.NoClass 0) (omega (arith, c.args.self.now.classes.now.object_within, c.args.self.now.size))) s (c.start_in_object.ensures.start x r c.args.self.now.classes.now.object_name)))

pub returns-in-Some-clause-starts : goal.returns-in-Some-clause-starts
returns-in-Some-clause-starts c =
    let x = indexed_of c.args.self.now.classes.now in
    let count = length c.args.self.now.classes.now.standing.now in
    let v = c.in-Some.node in
    let k : v < count = subst (λ (r : NamedNode). IsWithinAll count r) (c.in-Array.is ∙ ap (λ o. reference.Array o) c.in-Some.is) c.requires in
    λ m r t h so.
    let s = start_shown x r c.start_in_array.result in
    subst (λ n. Starts m (indexed_name x c.args.self.now.class) n s) so
    (subst (λ (q : NamedNode). Starts m (indexed_name x c.args.self.now.class) (named_of x q (text_of r.named)) s) (sym (c.in-Array.is ∙ ap (λ o. reference.Array o) c.in-Some.is))
    (element_starts m count x c.args.self.now.classes.now.graph h c.args.self.now.loads.now t c.args.self.now.classes.now.object c.args.self.now.classes.now.object_within c.args.self.now.classes.now.object_name (indexed_name x c.args.self.now.class) (text_of r.named) v k _ (get_or_default c.args.self.now.loads.now v _ (Fails fault.NoClass 0) (omega (arith, k, c.args.self.now.size))) _ (get_or_default c.args.self.now.loads.now c.args.self.now.classes.now.object _ (Fails fault.NoClass 0) (omega (arith, c.args.self.now.classes.now.object_within, c.args.self.now.size))) c.can_see-in-Some.result (c.can_see-in-Some.ensures) s (c.start_in_array.ensures.start x r (text_of r.named) 0 c.args.self.now.classes.now.object_name)))

pub returns-in-Class-clause-at : goal.returns-in-Class-clause-at
returns-in-Class-clause-at c = grind (arith, common_steps)

pub returns-in-Class-clause-target : goal.returns-in-Class-clause-target
returns-in-Class-clause-target c = grind (arith, common_steps)

pub returns-in-None-clause-at : goal.returns-in-None-clause-at
returns-in-None-clause-at c = grind (arith, common_steps)

pub returns-in-None-clause-target : goal.returns-in-None-clause-target
returns-in-None-clause-target c = grind (arith, common_steps)

pub returns-in-Some-clause-at : goal.returns-in-Some-clause-at
returns-in-Some-clause-at c = grind (arith, common_steps)

pub returns-in-Some-clause-target : goal.returns-in-Some-clause-target
returns-in-Some-clause-target c = grind (arith, common_steps)
