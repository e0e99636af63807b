-- What is written to an output.
use Rattle.std.specs.Prelude.{ℕ, List, OnErr, OnOk, Option, Result}
use Rattle.std.specs.Io.KnownBytes.{Appends}
use Rattle.jc_base.specs.Device.{WritesFront}
use Rattle.jc_classes.specs.Names.{Name}
use Rattle.jc_report.specs.ReportText.{report_text}
use Rattle.jc_report.specs.Reports.{Report}
use Rattle.jc_edits.specs.Reported.{IsReportOf}
use Rattle.jc_edits.specs.SaidPart.{SaysPart}
use Rattle.jc_edits.specs.SessionState.{Contents}

-- the output received the whole text of the report or, if the call failed, a proper beginning of it
abbrev pub WritesReport : {T E : Type 0} → Result T E → (before behind : Option (List ℕ)) → Contents → Type 0
WritesReport result before behind h = (r : Report) × IsReportOf h r
    × OnOk result (Appends before behind (report_text r)) × OnErr result (WritesFront before behind (report_text r))

-- the same for the text of the part of this class
abbrev pub WritesPart : {T E : Type 0} → Result T E → (before behind : Option (List ℕ)) → Contents → Name → Type 0
WritesPart result before behind h name = (text : List ℕ) × SaysPart h.files h.prefixes name text
    × OnOk result (Appends before behind text) × OnErr result (WritesFront before behind text)
