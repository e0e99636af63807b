use Rattle.std.proofs.Common.{◌≡◌, ◌<◌, length, List, option_map, Some, sym, ap, ◌∙◌, arith}
use Rattle.std.proofs.lemmas.Option.{slice_get-get_or, slice_get_within}
use Rattle.std.specs.List.{slice_get}
use Rattle.jc_classes.specs.Resolution.{Answer}
use Rattle.jc_resolve.specs.inside.Entries.{entries_shown}
use Rattle.jc_resolve.specs.inside.Sites.{found_of}
use Rattle.jc_resolve.specs.inside.Naming.{name_told, references_in}
use Rattle.jc_resolve.proofs.answering.Entries.{said_at, shown_size}
use Rattle.jc_resolve.proofs.answer_list.Answers.found.Goals as goal

some_is : {X : Type 0} {x y : X} → Some x ≡ Some y → x ≡ y
some_is e = cc

pub returns-then-number-len : goal.returns-then-number-len
returns-then-number-len c = λ answer at.
    let a = c.self.inside in
    let n = c.args.number in
    let rs = references_in a.references in
    let v = name_told a.names in
    let within : n < length (entries_shown v rs a.entries.items) = slice_get_within (entries_shown v rs a.entries.items) n answer (ap (λ (z : List Answer). slice_get z n) c.self.view_is ∙ at) in
    absurd (omega (arith, within, shown_size v rs a.entries.items c.self.invariant, a.entries.ok.0, c.len.ensures, c.if-number-len.true))

pub returns : goal.returns
returns c = λ answer at.
    let a = c.self.inside in
    let n = c.args.number in
    let rs = references_in a.references in
    let v = name_told a.names in
    let shown : slice_get (entries_shown v rs a.entries.items) n ≡ Some answer = ap (λ (z : List Answer). slice_get z n) c.self.view_is ∙ at in
    let e : slice_get a.entries.items n ≡ Some c.index.result.now = slice_get-get_or a.entries.items n c.index.result.now (omega (arith, a.entries.ok.0, c.len.ensures, c.if-number-len.false)) ∙ ap Some (sym c.index.ensures) in
    some_is (ap (option_map found_of) (sym shown) ∙ said_at found_of v rs a.entries.items n c.index.result.now c.found_of.result c.self.invariant e (λ r. c.found_of.ensures (v r) r))
