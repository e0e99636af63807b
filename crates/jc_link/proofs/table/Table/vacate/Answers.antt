use Rattle.std.proofs.Common.{◌∙◌, sym, ap, None, Some}
use Rattle.std.specs.FinMap as map
use Rattle.jc_base.proofs.maps.FiniteMaps.{insert_found}
use Rattle.jc_link.proofs.table.Table.vacate.Goals as goal
use Rattle.jc_link.proofs.table.Table.vacate.Goals.{in-Some, in-None}

pub returns-clause-absent : goal.returns-clause-absent
returns-clause-absent c = λ e. elim c.match-get_mut.branch [
  | in-Some w ↦
      let vacant = sym w.take.ensures.value ∙ sym w.result-is ∙ e in
      ap (λ s. s.places) w.self-inside-is ∙ ap (map.insert c.self.inside.places c.args.name.now) w.take.ensures.after
      ∙ insert_found c.self.inside.places c.args.name.now None (sym w.in-Some.ensures.value ∙ ap Some vacant) ∙ c.self.view_is
  | in-None w ↦ ap (λ s. s.places) w.self-inside-is ∙ c.self.view_is
]
