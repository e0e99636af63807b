use Rattle.std.proofs.Common.{◌≡◌, length, sym, subst, Some, None}
use Rattle.jc_classes.specs.Lent.{member_lent}
use Rattle.jc_classes.specs.Worlds.{member, methods_of}
use Rattle.jc_classes.specs.MethodLookup.{of_object, FindsInterfaceMethod}
use Rattle.jc_classes.specs.MethodLookup.FindsInterfaceMethod.{own, in_object, in_interface}
use Rattle.jc_classes.specs.Lent.{key_lent}
use Rattle.jc_numbered.specs.inside.Indexed.{indexed_name, standing_of}
use Rattle.jc_numbered.specs.inside.Shown.{indexed_of}
use Rattle.jc_resolve.proofs.lookups.IfOks.{if_ok_map}
use Rattle.jc_resolve.proofs.lookups.FieldWalk.{none_of}
use Rattle.jc_numbered.proofs.lookups.Bridge.{record_is}
use Rattle.jc_resolve.proofs.answering.Keys.{member_keyed, open_keyed}
use Rattle.jc_resolve.proofs.methods.find_interface_method.Goals as goal

pub returns-in-Some-clause-found : goal.returns-in-Some-clause-found
returns-in-Some-clause-found c =
    let x = indexed_of c.args.classes.now in
    let count = length c.args.classes.now.standing.now in
    let k = key_lent c.args.key in
    λ m h. own (record_is m count x c.args.classes.now.graph h (λ r. member (methods_of r) k) c.args.start _ c.requires.start (sym c.in-Some.ensures))

pub returns-in-Some-open_method-clause-found : goal.returns-in-Some-open_method-clause-found
returns-in-Some-open_method-clause-found c =
    let x = indexed_of c.args.classes.now in
    let count = length c.args.classes.now.standing.now in
    let k = key_lent c.args.key in
    λ m h.
    let none = record_is m count x c.args.classes.now.graph h (λ r. member (methods_of r) k) c.args.start None c.requires.start (none_of member_lent _ c.method.result c.method.ensures c.in_default.not-Some) in
    let e = record_is m count x c.args.classes.now.graph h (λ r. of_object r k) c.args.classes.now.object (Some (member_lent c.in-Some-open_method.member)) c.args.classes.now.object_within (sym c.in-Some-open_method.ensures) in
    subst (λ n. FindsInterfaceMethod m k (indexed_name x c.args.start) (Some (record { home = n; member = (member_lent c.in-Some-open_method.member) }))) (sym c.args.classes.now.object_name)
    (in_object none (subst (λ n. of_object (m n) k ≡ Some (member_lent c.in-Some-open_method.member)) c.args.classes.now.object_name e))

pub returns-clause-found : goal.returns-clause-found
returns-clause-found c =
    let x = indexed_of c.args.classes.now in
    let count = length c.args.classes.now.standing.now in
    let k = key_lent c.args.key in
    if_ok_map c.find_above.result _ _ (λ r f m h.
    let none = record_is m count x c.args.classes.now.graph h (λ r. member (methods_of r) k) c.args.start None c.requires.start (none_of member_lent _ c.method.result c.method.ensures c.in_default.not-Some) in
    let e = record_is m count x c.args.classes.now.graph h (λ r. of_object r k) c.args.classes.now.object None c.args.classes.now.object_within (none_of member_lent _ c.open_method.result c.open_method.ensures c.in_default-open_method.not-Some) in
    in_interface none (subst (λ n. of_object (m n) k ≡ None) c.args.classes.now.object_name e) (f m h)) c.find_above.ensures.found

pub returns-in-Some-clause-keyed : goal.returns-in-Some-clause-keyed
returns-in-Some-clause-keyed c = member_keyed (methods_of (standing_of (indexed_of c.args.classes.now) c.args.start)) (key_lent c.args.key) (member_lent c.in-Some.member) (sym c.in-Some.ensures)

pub returns-in-Some-open_method-clause-keyed : goal.returns-in-Some-open_method-clause-keyed
returns-in-Some-open_method-clause-keyed c = open_keyed (standing_of (indexed_of c.args.classes.now) c.args.classes.now.object) (key_lent c.args.key) (member_lent c.in-Some-open_method.member) (sym c.in-Some-open_method.ensures)
