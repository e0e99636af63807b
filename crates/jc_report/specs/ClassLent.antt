-- A borrowed class, as data.
use Rattle.jc_report.specs.Reports as reports
use Rattle.jc_report.specs.declared.lent_class.LentClass.{LentClass}

abbrev pub class_lent : LentClass → reports.Class
class_lent c = record { facts = c.facts.now; part = c.part.now }
