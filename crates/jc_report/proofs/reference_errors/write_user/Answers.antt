use Rattle.std.proofs.Common.{◌≡◌, ◌⊎◌, ◌∙◌, ap, inl, inr, sym}
use Rattle.jc_text.proofs.Sending.{sends_equal}
use Rattle.jc_text.specs.Escapes.{shown}
use Rattle.jc_classes.specs.Facts.{Facts}
use Rattle.jc_classes.specs.declared.used.User.{User}
use Rattle.jc_classes.specs.declared.used.User.TheVariants as users
use Rattle.jc_report.specs.ErrorsText.{user_text}
use Rattle.jc_report.proofs.reference_errors.write_user.Goals as goal

by_class : (f : Facts) (u : User) → (u ≡ users.Other) ⊎ (u ≡ users.Nothing) → shown f.name ≡ user_text f u
by_class f u (inl e) = ap (user_text f) (sym e)
by_class f u (inr e) = ap (user_text f) (sym e)

pub returns-in-Method : goal.returns-in-Method
returns-in-Method g c = sends_equal (ap (user_text c.args.facts.now) (sym c.in-Method.is)) c.write_method.ensures

pub returns-in-Other : goal.returns-in-Other
returns-in-Other g c = sends_equal (ap shown c.name.ensures ∙ by_class c.args.facts.now c.args.user c.in-Other.is) c.shown.ensures
