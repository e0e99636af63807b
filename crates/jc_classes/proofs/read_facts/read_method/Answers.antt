use Rattle.std.proofs.Common.{◌≡◌, ◌∙◌, ◌++◌, ap, rules, subst, sym}
use Rattle.jc_code.specs.NamedConstants.{named_by_method}
use Rattle.jc_classes.specs.declared.first_users.FirstUsers.{FirstUsers}
use Rattle.jc_classes.specs.inside.Using.{are_marks}
use Rattle.jc_classes.proofs.using.FirstUsers.{added_last}
use Rattle.jc_classes.proofs.using.Marking.{marks_added}
use Rattle.jc_classes.specs.inside.FirstUsers.{AreSeen}
use Rattle.jc_classes.proofs.read_facts.read_method.Goals as goal

pub add-requires : goal.add-requires
add-requires c =
    subst (λ k. AreSeen k c.read_code.new.codes.first) (sym c.class.ensures) (subst (AreSeen c.args.sizes.now) (sym c.in_ok-read_code.ensures.first) c.requires.seen)

pub returns-clause-marks : goal.returns-clause-marks
returns-clause-marks c =
    let class = c.args.sizes.now in
    let old = c.args.codes.now.names.items in
    let mine = named_by_method class c.args.method.now.member.member in
    let before : c.read_code.new.codes.first.seen.items ≡ are_marks class old = ap (λ (f : FirstUsers). f.seen.items) c.in_ok-read_code.ensures.first ∙ c.requires.marks in
    marks_added class old _ _ _ before c.add.ensures.marks
    ∙ ap (λ v. are_marks class (old ++ v)) (added_last old mine c.deref.result.now c.len-before.result (c.deref.ensures.value ∙ c.in_ok-read_code.ensures.names) (search rules))
    ∙ ap (are_marks class) (sym c.in_ok-read_code.ensures.names)
