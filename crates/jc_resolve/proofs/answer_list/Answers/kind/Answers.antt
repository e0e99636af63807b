use Rattle.std.proofs.Common.{◌≡◌, ◌<◌, length, List, option_map, Some, sym, ap, subst, ◌∙◌, arith}
use Rattle.std.proofs.lemmas.Option.{slice_get-get_or}
use Rattle.std.specs.List.{slice_get}
use Rattle.jc_classes.specs.Resolution.{Answer}
use Rattle.jc_resolve.specs.Answers.{kind_of}
use Rattle.jc_resolve.specs.inside.Entries.{entries_shown}
use Rattle.jc_resolve.specs.inside.Naming.{name_told, references_in}
use Rattle.jc_resolve.proofs.answering.Entries.{said_at, shown_size}
use Rattle.jc_resolve.proofs.answer_list.Answers.kind.Goals as goal

pub index-requires : goal.index-requires
index-requires c =
    let a = c.self.inside in
    let n = c.args.number in
    let rs = references_in a.references in
    let v = name_told a.names in
    let l : n < length (entries_shown v rs a.entries.items) = subst (λ (z : List Answer). n < length z) (sym c.self.view_is) c.requires in
    let s = shown_size v rs a.entries.items c.self.invariant in
    omega (arith, l, s, a.entries.ok.0)

pub returns : goal.returns
returns c =
    let a = c.self.inside in
    let n = c.args.number in
    let rs = references_in a.references in
    let v = name_told a.names in
    let l : n < length (entries_shown v rs a.entries.items) = subst (λ (z : List Answer). n < length z) (sym c.self.view_is) c.requires in
    let s = shown_size v rs a.entries.items c.self.invariant in
    let e : slice_get a.entries.items n ≡ Some c.index.result.now = slice_get-get_or a.entries.items n c.index.result.now (omega (arith, l, s)) ∙ ap Some (sym c.index.ensures) in
    sym (ap (λ (z : List Answer). option_map kind_of (slice_get z n)) c.self.view_is) ∙ said_at kind_of v rs a.entries.items n c.index.result.now c.kind_of.result c.self.invariant e (λ r. c.kind_of.ensures (v r) r)
