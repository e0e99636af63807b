use Rattle.std.proofs.Common.{◌≡◌, ℕ, Result, Ok, Err, IfOk, IfErr, is_ok, List, sym, ◌∙◌}
use Rattle.jc_classes.specs.NameLists.{has}
use Rattle.jc_classes.specs.Names.{Name}
use Rattle.jc_index.specs.inside.Places.{StandsAt, IsGapFor}
use Rattle.jc_index.proofs.lists.Edited.{gap_lacks, stands_has}
use Rattle.jc_index.proofs.name_list.NameList.has.Goals as goal

found : (ns : List Name) (name : Name) (r : Result ℕ ℕ) → IfOk r (StandsAt ns name) → IfErr r (IsGapFor ns name) → is_ok r ≡ has ns name
found ns name (Ok at) s g = sym (stands_has ns name at s)
found ns name (Err at) s g = sym (gap_lacks ns name at g)

pub returns : goal.returns
returns c = c.is_ok.ensures.value ∙ found c.args.self.now c.args.name.now c.place.result c.place.ensures.found c.place.ensures.absent
