use Rattle.std.proofs.Common.{◌≡◌, ◌∙◌, None, Some, false, true, ap, sym}
use Rattle.std.proofs.lemmas.Bool.{cond-false, cond-true}
use Rattle.jc_classes.specs.Lent.{member_lent}
use Rattle.jc_classes.specs.MethodLookup.{if_polymorphic, is_polymorphic, sole_named}
use Rattle.jc_classes.specs.Names.{method_handle, same_name}
use Rattle.jc_numbered.proofs.polymorphic.find_polymorphic.Goals as goal

pub returns-then-not-same : goal.returns-then-not-same
returns-then-not-same c =
    let other : same_name c.args.class.now method_handle ≡ false = sym c.same.ensures ∙ c.if-not-same.true in
    sym (cond-false (same_name c.args.class.now method_handle) (if_polymorphic (sole_named c.args.facts.now.methods c.args.name.now)) None other)

pub returns-then-is_polymorphic : goal.returns-then-is_polymorphic
returns-then-is_polymorphic c =
    let here : same_name c.args.class.now method_handle ≡ true = sym c.same.ensures ∙ c.if-not-same.false in
    let x = member_lent c.in_ok-member.member in
    sym (cond-true (same_name c.args.class.now method_handle) (if_polymorphic (sole_named c.args.facts.now.methods c.args.name.now)) None here
    ∙ ap if_polymorphic (sym c.in_ok-member.ensures) ∙ cond-true (is_polymorphic x) (Some x) None (sym c.is_polymorphic.ensures ∙ c.if-is_polymorphic.true))
