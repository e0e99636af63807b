use Rattle.std.proofs.Common.{◌+◌, ◌∙◌, ap, map, sym}
use Rattle.jc_view.specs.declared.attribute_kind.Holder.TheVariants as holders
use Rattle.jc_view.specs.Places.{methods_place}
use Rattle.jc_file.specs.declared.fault.FormatRule.TheVariants as rules
use Rattle.jc_file.specs.Faults.{fault_at}
use Rattle.jc_file.proofs.keys.KeysLeft.{repeated-members}
use Rattle.jc_file.proofs.repeats.repeated_methods.Goals as goal

pub returns-then-branch : goal.returns-then-branch
returns-then-branch c =
    let class = c.args.class.now in
    c.new-faults.ensures.items
    ∙ ap (map (fault_at rules.F22)) (sym (sym (repeated-members c.methods.result class holders.Method (methods_place class + 2) class.methods c.methods.ensures.left) ∙ c.in_ok-are_few_and_apart.ensures c.if-branch.true))
