use Rattle.std.proofs.Common.{◌+◌, ◌∙◌, length, ap}
use Rattle.jc_view.specs.declared.attribute_kind.Holder.TheVariants as holders
use Rattle.jc_view.specs.Places.{fields_in, fields_place}
use Rattle.jc_view.specs.inside.Entries.{placed_members}
use Rattle.jc_view.proofs.places.MemberCounts.{members_counted}
use Rattle.jc_view.proofs.view.ClassView.fields.Goals as goal

pub returns-clause-all : goal.returns-clause-all
returns-clause-all c =
    let class = c.args.self.now in
    ap (λ t. length (placed_members holders.Field t)) c.fork.ensures.same
    ∙ ap length c.self.invariant.tables.fields
    ∙ ap (λ shown. length (fields_in shown)) c.self.view_is
    ∙ members_counted holders.Field (fields_place class + 2) class.fields
