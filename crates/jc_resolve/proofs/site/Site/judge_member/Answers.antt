use Rattle.std.proofs.Common.{◌≡◌, ◌∙◌, not, true, false, ap, sym}
use Rattle.std.specs.Prelude.{codes}
use Rattle.jc_file.specs.AccessFlags.{has, static}
use Rattle.jc_classes.specs.LinkErrors.{final_error, member_error, static_error}
use Rattle.jc_resolve.specs.inside.Sites.{error_of, site_at}
use Rattle.jc_resolve.proofs.site.Site.judge_member.Goals as goal

pub returns-in-PutStatic : goal.returns-in-PutStatic
returns-in-PutStatic c = λ r home x at is.
    let s = site_at c.args.self.now r in
    let has_it : has x.flags static ≡ true = ap (λ f. has f static) (sym is) ∙ sym c.is_in-is_static.ensures ∙ c.if-is_static.true in
    c.judge_final.ensures r home x at is
    ∙ ap (λ b. error_of (static_error (not b) home (final_error s (codes "<clinit>") home x))) (sym has_it)
    ∙ ap (λ k. error_of (member_error s k home x)) (sym c.in-PutStatic.is)

pub returns-in-PutStatic-2 : goal.returns-in-PutStatic-2
returns-in-PutStatic-2 c = λ r home x at is.
    let s = site_at c.args.self.now r in
    let has_not : has x.flags static ≡ false = ap (λ f. has f static) (sym is) ∙ sym c.is_in-is_static.ensures ∙ c.if-is_static.false in
    c.incompatible-in-PutStatic-2.ensures home
    ∙ ap (λ b. error_of (static_error (not b) home (final_error s (codes "<clinit>") home x))) (sym has_not)
    ∙ ap (λ k. error_of (member_error s k home x)) (sym c.in-PutStatic-2.is)

pub returns-in-PutField : goal.returns-in-PutField
returns-in-PutField c = λ r home x at is.
    let s = site_at c.args.self.now r in
    let has_it : has x.flags static ≡ true = ap (λ f. has f static) (sym is) ∙ sym c.is_in-is_static.ensures ∙ c.if-is_static-2.true in
    c.incompatible-in-PutField.ensures home
    ∙ ap (λ b. error_of (static_error b home (final_error s (codes "<init>") home x))) (sym has_it)
    ∙ ap (λ k. error_of (member_error s k home x)) (sym c.in-PutField.is)
