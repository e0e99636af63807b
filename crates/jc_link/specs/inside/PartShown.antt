-- A part by its fields.
use Rattle.std.specs.Prelude.{[]}
use Rattle.std.specs.Option.{option_map_or}
use Rattle.jc_classes.specs.Parts.{Part}
use Rattle.jc_resolve.specs.Answers.{loading_of}
use Rattle.jc_link.specs.declared.part.Part.TheInside.{Inside}

abbrev pub part_shown : Inside → Part
part_shown a = record {
  circular = a.circular;
  load = loading_of a.load;
  format_faults = option_map_or (λ f. f.value.format.items) a.faults [];
  code_faults = option_map_or (λ f. f.value.code.items) a.faults [];
  answers = a.linked.answers;
  links = a.linked.links;
}
