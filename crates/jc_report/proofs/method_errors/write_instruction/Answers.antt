use Rattle.std.proofs.Common.{◌∙◌, [], ap, subst, sym}
use Rattle.std.specs.Option.{option_map_or}
use Rattle.jc_text.proofs.Sending.{sends_equal, sends_nothing}
use Rattle.jc_classes.specs.FactsOrder.{AreByPlace}
use Rattle.jc_report.specs.ErrorsText.{use_at, use_text}
use Rattle.jc_report.proofs.method_errors.write_instruction.Goals as goal

pub use_at-requires : goal.use_at-requires
use_at-requires g c = subst AreByPlace (sym c.uses.ensures) c.are_in_order.ensures.uses

pub returns-in-Some : goal.returns-in-Some
returns-in-Some g c =
    sends_equal
    (ap (λ o. option_map_or (use_text c.args.facts.now) o []) (c.in-Some.ensures ∙ ap (λ uses. use_at uses c.args.method c.args.place) c.uses.ensures))
    c.write_use.ensures

pub returns-in-None : goal.returns-in-None
returns-in-None g c =
    sends_equal
    (ap (λ o. option_map_or (use_text c.args.facts.now) o []) (c.in-None.ensures ∙ ap (λ uses. use_at uses c.args.method c.args.place) c.uses.ensures))
    (sends_nothing _ _ _)
