-- What a pass over a class file finds.
use Rattle.jc_view.specs.declared.layout_reader.ClassParts.{ClassParts}
use Rattle.jc_view.specs.declared.layout_reader.ClassNumbers.{ClassNumbers}
use Rattle.jc_view.specs.Reading.{PartsRead, NumbersRead}

abbrev pub numbers : ClassNumbers → NumbersRead
numbers n = record { flags = n.flags; this_class = n.this_class; super_class = n.super_class }

abbrev pub parts : ClassParts → PartsRead
parts p = record { places = p.offsets.items; tail = p.tail; numbers = numbers p.numbers }
