use Rattle.std.proofs.Common.{◌≡◌, ◌<◌, length, List, option_map, Some, None, sym, ap, subst, ◌∙◌, arith}
use Rattle.std.proofs.lemmas.Option.{slice_get-get_or}
use Rattle.std.specs.List.{slice_get}
use Rattle.jc_classes.specs.Lent.{reference_lent}
use Rattle.jc_classes.specs.Resolution.{Answer}
use Rattle.jc_resolve.specs.inside.Entries.{entries_shown}
use Rattle.jc_resolve.specs.inside.Naming.{name_told, references_in}
use Rattle.jc_resolve.proofs.answering.Entries.{shown_at, shown_size}
use Rattle.jc_resolve.proofs.answering.Lists.{past}
use Rattle.jc_resolve.proofs.answer_list.Answers.at.Goals as goal

pub returns-in-Some : goal.returns-in-Some
returns-in-Some c =
    let a = c.self.inside in
    let n = c.args.number in
    let rs = references_in a.references in
    let v = name_told a.names in
    let l : n < length (entries_shown v rs a.entries.items) = subst (λ (z : List Answer). n < length z) (sym c.self.view_is) c.requires in
    let s = shown_size v rs a.entries.items c.self.invariant in
    let e : slice_get a.entries.items n ≡ Some c.index.result.now = slice_get-get_or a.entries.items n c.index.result.now (omega (arith, l, s)) ∙ ap Some (sym c.index.ensures) in
    let r : slice_get rs n ≡ Some (reference_lent c.in-Some.reference) = sym c.reference_at.ensures ∙ ap (option_map reference_lent) c.in-Some.is in
    sym (ap (λ (z : List Answer). slice_get z n) c.self.view_is) ∙ shown_at v rs a.entries.items n (reference_lent c.in-Some.reference) c.index.result.now r e ∙ ap Some (sym c.lend.ensures)

pub returns-in-None : goal.returns-in-None
returns-in-None c =
    let a = c.self.inside in
    let n = c.args.number in
    let rs = references_in a.references in
    let v = name_told a.names in
    let l : n < length (entries_shown v rs a.entries.items) = subst (λ (z : List Answer). n < length z) (sym c.self.view_is) c.requires in
    let s = shown_size v rs a.entries.items c.self.invariant in
    let r : slice_get rs n ≡ None = sym c.reference_at.ensures ∙ ap (option_map reference_lent) c.in-None.is in
    let p = past rs n r in
    absurd (omega (arith, l, s, p, c.self.invariant))
