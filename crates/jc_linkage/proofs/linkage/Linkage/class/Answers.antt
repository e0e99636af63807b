-- A class that files give has its part.
use Rattle.std.proofs.Common.{◌≡◌, ◌∙◌, true, ap, is_some, option_map, sym}
use Rattle.std.proofs.lemmas.Bool.{false≢true}
use Rattle.jc_link.specs.Tables.{class_at}
use Rattle.jc_report.specs.declared.lent_class.LentClass.{LentClass}
use Rattle.jc_linkage.specs.Linkages.{Linkage, given}
use Rattle.jc_linkage.proofs.linkage.Linkage.class.Goals as goal

pub returns-in_err-facts-clause-facts : goal.returns-in_err-facts-clause-facts
returns-in_err-facts-clause-facts c =
    ap (option_map (λ (x : LentClass). x.facts.now)) c.from_residual.ensures
    ∙ c.in_err-facts.ensures
    ∙ ap (λ (a : Linkage). class_at a.classes c.args.name.now) c.self.view_is

pub returns-in_err-part-clause-facts : goal.returns-in_err-part-clause-facts
returns-in_err-part-clause-facts c =
    let there : true ≡ given c.args.self.now c.args.name.now = ap is_some c.in_ok-facts.ensures ∙ ap (λ (a : Linkage). given a c.args.name.now) c.self.view_is in
    absurd (false≢true (c.in_err-part.ensures.given ∙ sym there))

pub returns-clause-facts : goal.returns-clause-facts
returns-clause-facts c = c.in_ok-facts.ensures ∙ ap (λ (a : Linkage). class_at a.classes c.args.name.now) c.self.view_is

pub returns-clause-part : goal.returns-clause-part
returns-clause-part c = c.in_ok-part.ensures.part
