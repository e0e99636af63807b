use Rattle.std.proofs.Common.{◌∙◌, ap, refl}
use Rattle.std.specs.Option.{option_map_or}
use Rattle.jc_text.proofs.Sending.{sends_equal}
use Rattle.jc_text.specs.Escapes.{shown}
use Rattle.jc_classes.specs.Facts.{Member}
use Rattle.jc_classes.specs.Lent.{member_lent}
use Rattle.jc_classes.specs.Worlds.{key_of}
use Rattle.jc_report.specs.PartText.{member_text}
use Rattle.jc_report.proofs.method_errors.write_method.Goals as goal

pub returns-in-Some : goal.returns-in-Some
returns-in-Some g c =
    let f = c.args.facts.now in
    let m = member_lent c.in-Some.method in
    sends_equal
    (ap (λ name. member_text name (key_of m)) c.name.ensures ∙ ap (λ o. option_map_or (λ (x : Member). member_text f.name (key_of x)) o (shown f.name)) c.in-Some.ensures)
    (c.write_member.ensures (key_of m) refl refl)

pub returns-in-None : goal.returns-in-None
returns-in-None g c =
    let f = c.args.facts.now in
    sends_equal
    (ap shown c.name-in-None.ensures ∙ ap (λ o. option_map_or (λ (x : Member). member_text f.name (key_of x)) o (shown f.name)) c.in-None.ensures)
    c.shown.ensures
