-- What an edit cost, by the meter.
use Rattle.jc_link.specs.declared.meter.Meter.{Meter}
use Rattle.jc_edits.specs.SessionState.{Contents}
use Rattle.jc_edits.specs.Touched.{IsCountedChange}
use Rattle.jc_linkage.specs.Affected.{counts_of}

-- the meter counted the parts and the look-ups of the edit
abbrev pub MetersChange : (old new : Contents) → (before after : Meter) → Type 0
MetersChange old new before after = IsCountedChange old new (counts_of before) (counts_of after)
