use Rattle.std.proofs.Common.{◌≡◌, ◌∙◌, Some, None, ap, subst}
use Rattle.jc_resolve.specs.declared.answers.Found.TheVariants as found
use Rattle.jc_resolve.specs.inside.Sites.{IsAt, found_of, site_at}
use Rattle.jc_resolve.proofs.linking.Judging.{class_found, member_found, none_found}
use Rattle.jc_resolve.proofs.site.Site.judge.Goals as goal

pub returns-in-Some-Class : goal.returns-in-Some-Class
returns-in-Some-Class c = λ r a at.
    let is : found_of a ≡ Some (found.Class c.in-Some-Class.flags) = c.found.ensures a at.answer ∙ c.in-Some-Class.is ∙ ap Some c.in-Some-Class.field-0-is in
    class_found (site_at c.args.self.now r) c.args.self.now.one.kind a c.in-Some-Class.flags c.judge_class.result is c.judge_class.ensures

pub returns-in-Some-Member : goal.returns-in-Some-Member
returns-in-Some-Member c = λ r a at.
    let is : found_of a ≡ Some (found.Member c.in-Some-Member.flags) = c.found.ensures a at.answer ∙ c.in-Some-Member.is ∙ ap Some c.in-Some-Member.field-0-is in
    member_found (site_at c.args.self.now r) c.args.self.now.one.kind a c.in-Some-Member.flags c.judge_member.result is
    (λ home x e same. c.judge_member.ensures r home x (subst (IsAt c.args.self.now r) e at) same)

pub returns-in-None : goal.returns-in-None
returns-in-None c = λ r a at.
    let is : found_of a ≡ None = c.found.ensures a at.answer ∙ c.in-None.is in
    none_found (site_at c.args.self.now r) c.args.self.now.one.kind a is
