use Rattle.std.proofs.Common.{◌+◌, ◌∙◌, length, ap}
use Rattle.jc_view.specs.declared.attribute_kind.Holder.TheVariants as holders
use Rattle.jc_view.specs.Places.{methods_in, methods_place}
use Rattle.jc_view.specs.inside.Entries.{placed_members}
use Rattle.jc_view.proofs.places.MemberCounts.{members_counted}
use Rattle.jc_view.proofs.view.ClassView.methods.Goals as goal

pub returns-clause-all : goal.returns-clause-all
returns-clause-all c =
    let class = c.args.self.now in
    ap (λ t. length (placed_members holders.Method t)) c.fork.ensures.same
    ∙ ap length c.self.invariant.tables.methods
    ∙ ap (λ shown. length (methods_in shown)) c.self.view_is
    ∙ members_counted holders.Method (methods_place class + 2) class.methods
