use Rattle.std.proofs.Common.{◌∙◌, ap, refl, subst, sym}
use Rattle.jc_classes.specs.Lent.{key_lent, member_lent}
use Rattle.jc_numbered.specs.inside.Shown.{indexed_of}
use Rattle.jc_resolve.specs.declared.abstract_methods.AbstractMethod.{AbstractMethod}
use Rattle.jc_resolve.specs.inside.AbstractMethods.{AddsAbstract, own_name}
use Rattle.jc_resolve.proofs.lookups.AbstractLemmas.{abstract_pushed, no_body_of}
use Rattle.jc_resolve.proofs.abstract_methods.push_one.Goals as goal

pub returns-in_ok-push : goal.returns-in_ok-push
returns-in_ok-push c =
    let x = indexed_of c.args.classes.now in
    let v = c.args.node in
    let k = key_lent c.args.key in
    let y = member_lent c.in-Some.method in
    let e : AbstractMethod =
    record { name = c.args.key.name; descriptor = c.args.key.descriptor; class = c.name.result; node = v; flags = c.in-Some.method.flags } in
    subst (AddsAbstract x v k c.args.all.now.items) (sym c.in_ok-push.ensures.items)
    (abstract_pushed x v k c.args.all.now.items e refl
    (record {
      method = y;
      declared = sym c.in-Some.ensures;
      flags = refl;
      no_body = no_body_of k y (sym c.is_callable.ensures ∙ c.if-is_callable.true) (sym c.has.ensures ∙ c.if-has.true);
      home = c.name.ensures ∙ ap own_name (sym c.requires.facts);
    })
    refl)
