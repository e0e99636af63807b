-- The facts whose texts are given by number.
use Rattle.std.specs.Prelude.{ℕ, List, [], map, option_map, slice_index_or}
use Rattle.std.specs.Option.{option_map_or}
use Rattle.jc_classes.specs.Facts.{Facts, Member, Reference}
use Rattle.jc_classes.specs.NamedTexts.{named_by}
use Rattle.jc_classes.specs.declared.facts.FactsInside.{FactsInside}
use Rattle.jc_classes.specs.declared.facts.MemberEntry.{MemberEntry}
use Rattle.jc_classes.specs.declared.facts.ReferenceEntry.{ReferenceEntry}

abbrev pub text_at : List (List ℕ) → ℕ → List ℕ
text_at texts index = slice_index_or texts index []

abbrev pub member_shown : List (List ℕ) → MemberEntry → Member
member_shown texts entry = record { name = text_at texts entry.name; descriptor = text_at texts entry.descriptor; flags = entry.flags }

abbrev pub reference_shown : List (List ℕ) → ReferenceEntry → Reference
reference_shown texts entry = record {
  index = entry.index;
  kind = entry.kind;
  named = named_by (text_at texts entry.class);
  key = record { name = text_at texts entry.name; descriptor = text_at texts entry.descriptor };
}

abbrev pub facts_shown : FactsInside → Facts
facts_shown a = record {
  path = a.path.items;
  name = text_at a.texts.value a.name;
  flags = a.flags;
  superclass = option_map (text_at a.texts.value) a.superclass;
  interfaces = map (text_at a.texts.value) a.interfaces.items;
  fields = map (member_shown a.texts.value) a.fields.items;
  methods = map (member_shown a.texts.value) a.methods.items;
  references = map (reference_shown a.texts.value) a.references.value.items;
  uses = a.uses.items;
  users = a.users.items;
  format_faults = option_map_or (λ f. f.value.format.items) a.faults [];
  code_faults = option_map_or (λ f. f.value.code.items) a.faults [];
}
