use Rattle.std.proofs.Common.{◌∙◌, [], cond, append_assoc, refl}
use Rattle.jc_file.specs.declared.fault.FormatRule.TheVariants as rules
use Rattle.jc_file.specs.Faults.{repeated}
use Rattle.jc_file.specs.inside.Broken.{places_in}
use Rattle.jc_file.specs.inside.RuleSets.{same_rule}
use Rattle.jc_file.proofs.sets.RepeatsAdded.{places_of}
use Rattle.jc_file.proofs.sets.WholePlaces.{grown}
use Rattle.jc_file.proofs.repeats.add_repeats.Goals as goal

pub returns : goal.returns
returns c = λ rule.
    let class = c.args.class.now in
    let fields = grown _ _ _ _ _ (c.in_ok-add_each.ensures rule) refl (places_of rules.F18 rule (repeated class class.fields) c.deref.result.now (c.deref.ensures.value ∙ c.in_ok-fields.ensures)) in
    grown _ _ _ _ _ (c.in_ok-add_each-2.ensures rule) fields (places_of rules.F22 rule (repeated class class.methods) c.deref-2.result.now (c.deref-2.ensures.value ∙ c.in_ok-methods.ensures))
    ∙ append_assoc (places_in rule c.args.broken.now.items) (cond (same_rule rules.F18 rule) (repeated class class.fields) []) (cond (same_rule rules.F22 rule) (repeated class class.methods) [])
