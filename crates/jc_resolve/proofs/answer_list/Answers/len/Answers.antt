use Rattle.std.proofs.Common.{◌≡◌, List, length, ap, arith}
use Rattle.jc_classes.specs.Resolution.{Answer}
use Rattle.jc_resolve.specs.inside.Entries.{entries_shown}
use Rattle.jc_resolve.specs.inside.Naming.{name_told, references_in}
use Rattle.jc_resolve.proofs.answering.Entries.{shown_size}
use Rattle.jc_resolve.proofs.answer_list.Answers.len.Goals as goal

pub returns : goal.returns
returns c =
    let a = c.self.inside in
    let s : length (entries_shown (name_told a.names) (references_in a.references) a.entries.items) ≡ length a.entries.items = shown_size (name_told a.names) (references_in a.references) a.entries.items c.self.invariant in
    let v : length (entries_shown (name_told a.names) (references_in a.references) a.entries.items) ≡ length c.args.self.now = ap (λ (z : List Answer). length z) c.self.view_is in
    omega (arith, s, v, c.self.inside.entries.ok.0)
