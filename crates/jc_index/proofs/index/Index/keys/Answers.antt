use Rattle.std.proofs.Common.{◌≡◌, true, List, sym, ap, subst, ◌∙◌}
use Rattle.std.specs.FinMap as fin
use Rattle.jc_classes.specs.NameLists.{Lists}
use Rattle.jc_classes.specs.Names.{Name}
use Rattle.jc_index.specs.Indexes.{is_key}
use Rattle.jc_index.proofs.indexes.Lists.{keys_list}
use Rattle.jc_index.proofs.index.Index.keys.Goals as goal

pub returns : goal.returns
returns c =
    let P : List Name → Type 0 = λ names. Lists names (λ name. is_key c.args.self.now name ≡ true) in
    subst P (ap fin.keys (sym c.self.view_is) ∙ sym c.keys.ensures.keys) (keys_list c.args.self.now)
