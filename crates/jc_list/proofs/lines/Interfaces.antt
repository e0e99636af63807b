-- The lines of the interfaces, by their names.
use Rattle.std.proofs.Common.{◌≡◌, ◌++◌, ℕ, List, Option, codes, map}
use Rattle.std.proofs.lemmas.List.Folds.{flat_map-map}
use Rattle.std.specs.List.{flat_map}
use Rattle.jc_view.specs.declared.constant_pool.ConstantIndex.{ConstantIndex}
use Rattle.jc_view.specs.ClassFile.{ClassFile, class_text_at}
use Rattle.jc_list.specs.Texts.{shown_text}
use Rattle.jc_list.specs.ClassLines.{interface_line}

abbrev pub interface_text : Option (List ℕ) → List ℕ
interface_text name = codes "interface " ++ shown_text name ++ codes "\n"

pub interface_lines : (c : ClassFile) (interfaces : List ConstantIndex) → flat_map interface_text (map (class_text_at c) interfaces) ≡ flat_map (interface_line c) interfaces
interface_lines c interfaces = flat_map-map interface_text (class_text_at c) interfaces
