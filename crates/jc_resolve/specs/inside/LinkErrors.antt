-- Errors of instructions, by the numbers of references.
use Rattle.std.specs.Prelude.{ℕ, List, [], map, slice_get}
use Rattle.std.specs.Option.{option_map_or}
use Rattle.jc_classes.specs.Facts.{Reference}
use Rattle.jc_classes.specs.LinkErrors.{LinkError}
use Rattle.jc_classes.specs.Names.{Name}
use Rattle.jc_classes.specs.Resolution.{Answer}
use Rattle.jc_classes.specs.Worlds.{text_of}
use Rattle.jc_classes.specs.declared.linkage_error.LinkageError.{LinkageError}
use Rattle.jc_classes.specs.declared.linkage_error.LinkageError.TheVariants as errors
use Rattle.jc_resolve.specs.Linked as specs
use Rattle.jc_resolve.specs.declared.linked.ErrorEntry.{ErrorEntry}
use Rattle.jc_resolve.specs.declared.linked.Linked.TheInside.{Inside}
use Rattle.jc_resolve.specs.inside.Sites.{class_told}
use Rattle.jc_resolve.specs.inside.Naming.{references_in}

-- the class at fault, by the number of a reference: for NoMethod the class that it names, and else the class of its
-- answer
abbrev pub class_at : List Reference → List Answer → ℕ → LinkageError → Name
class_at rs answers number errors.NoMethod = option_map_or (λ r. text_of r.named) (slice_get rs number) []
class_at rs answers number error = option_map_or class_told (slice_get answers number) []

abbrev pub link_shown : List Reference → List Answer → ErrorEntry → LinkError
link_shown rs answers e = record { method = e.method; place = e.place; error = e.error; class = class_at rs answers e.reference e.error }

abbrev pub links_shown : List Reference → List Answer → List ErrorEntry → List LinkError
links_shown rs answers entries = map (link_shown rs answers) entries

abbrev pub linked_shown : Inside → specs.Linked
linked_shown a = record { answers = a.answers; links = links_shown (references_in a.references) a.answers a.links.items }
