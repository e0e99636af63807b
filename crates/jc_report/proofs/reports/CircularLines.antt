-- The lines of the circular classes, one class on.
use Rattle.std.proofs.Common.{◌≡◌, ◌∷◌, ◌++◌, true, false, List, map, ap}
use Rattle.std.specs.Prelude.{if◌then◌else◌}
use Rattle.std.specs.List.{filter, flat_map}
use Rattle.jc_report.specs.ReportText.{name_line}
use Rattle.jc_report.specs.Reports.{Class, name_of}
use Rattle.jc_report.specs.inside.Given.{circular_lines}

pub circular_next : (c : Class) (rest : List Class) → c.part.circular ≡ true → circular_lines (c ∷ rest) ≡ name_line (name_of c) ++ circular_lines rest
circular_next c rest e = ap (λ b. flat_map name_line (map name_of (if b then c ∷ filter (λ c. c.part.circular) rest else filter (λ c. c.part.circular) rest))) e

pub circular_not : (c : Class) (rest : List Class) → c.part.circular ≡ false → circular_lines (c ∷ rest) ≡ circular_lines rest
circular_not c rest e = ap (λ b. flat_map name_line (map name_of (if b then c ∷ filter (λ c. c.part.circular) rest else filter (λ c. c.part.circular) rest))) e
