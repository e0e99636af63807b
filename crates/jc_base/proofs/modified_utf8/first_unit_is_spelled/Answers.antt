use Rattle.std.proofs.Common.{sym, ap, ◌∙◌, take}
use Rattle.std.proofs.lemmas.List.{take_at}
use Rattle.jc_base.specs.ModifiedUtf8.{spelling}
use Rattle.jc_base.proofs.texts.FirstUnitIsSpelled.{first_found, found_first}
use Rattle.jc_base.proofs.modified_utf8.first_unit_is_spelled.Goals as goal

pub returns : goal.returns
returns c = record {
  found = λ bytes u n e.
      let first = first_found bytes u n e in
      (first.unit, ap (take n) first.split ∙ take_at (spelling u) first.rest n (sym first.size), first.size);
  finds = found_first;
}
