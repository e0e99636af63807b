use Rattle.std.proofs.Common.{◌≡◌, ◌∙◌, [], length, ap, sym}
use Rattle.std.specs.Prelude.{slice_index_or}
use Rattle.std.proofs.lemmas.List.{length-map}
use Rattle.jc_resolve.specs.Methods.{method_at, numbers_at}
use Rattle.jc_resolve.proofs.lookups.ShownLists.{shown_at}
use Rattle.jc_resolve.proofs.unimplemented.Unimplemented.count.Goals as goal

pub returns : goal.returns
returns c =
    let i = c.self.inside in
    let numbers = numbers_at i.lists.items i.list_of.items c.args.place in
    let e : c.numbers_at.result.now ≡ numbers = c.numbers_at.ensures ∙ ap (λ z. numbers_at z c.as_slice-2.result.now c.args.place) c.as_slice.ensures.value
    ∙ ap (λ z. numbers_at i.lists.items z c.args.place) c.as_slice-2.ensures.value in
    ap length e ∙ sym (length-map numbers (method_at i.methods.items)) ∙ ap length (sym (shown_at i.methods.items i.lists.items i.list_of.items c.args.place))
    ∙ ap (λ z. length (slice_index_or z c.args.place [])) c.self.view_is
