-- The instructions of a class that do not link, as a relation over its file, and the order of their errors.
use Rattle.std.specs.Prelude.{◌≡◌, ◌↔◌, ℕ, List, [], Some, Contains, slice_get}
use Rattle.std.specs.List.Sorted.{IsStrictlySortedBy}
use Rattle.std.specs.Ordering.{nat_cmp, ordering_then}
use Rattle.std.specs.declared.cmp.Ordering.{Ordering}
use Rattle.jc_view.specs.Attributes.{Code}
use Rattle.jc_view.specs.ClassFile.{ClassFile, Member}
use Rattle.jc_view.specs.Lookups.{utf8_at}
use Rattle.jc_file.specs.Faults.{faults}
use Rattle.jc_code.specs.declared.insn.Insn.{Insn}
use Rattle.jc_code.specs.declared.insn.LinkKind.{LinkKind}
use Rattle.jc_code.specs.CodeFaults.{code_of_member, faults_of}
use Rattle.jc_code.specs.InsnReading.{insns_of}
use Rattle.jc_code.specs.Insns.{link_use}
use Rattle.jc_classes.specs.Facts.{Reference}
use Rattle.jc_classes.specs.FactsOf.{facts_of, references_in}
use Rattle.jc_classes.specs.LinkErrors.{LinkError, link_error, links_of}
use Rattle.jc_classes.specs.Loading.{Loading as loading}
use Rattle.jc_classes.specs.Names.{Name}
use Rattle.jc_classes.specs.Parts.{Part, IsPart}
use Rattle.jc_classes.specs.Resolution.{Answer}
use Rattle.jc_classes.specs.Worlds.{World}
use Rattle.jc_classes.specs.Worlds.{Stands as stands}

-- the reference and the answer have the same number
abbrev pub HasAnswer : List Reference → List Answer → Reference → Answer → Type 0
HasAnswer references answers r a = (n : ℕ) × (slice_get references n ≡ Some r) × (slice_get answers n ≡ Some a)

-- an instruction of the class file does not link, though its reference resolves (JVMS 6.5)
pub record DoesNotLink (d : Name) (c : ClassFile) (answers : List Answer) (l : LinkError) : Type 0 where
  -- the file has no format fault
  pub no_format_fault : faults c ≡ []
  -- the method of that number, and its name
  pub method : Member
  pub has_method : slice_get c.methods l.method ≡ Some method
  pub name : Name
  pub has_name : utf8_at c method.name ≡ Some name
  -- the only well-formed Code of the method, which has no fault
  pub code : Code
  pub has_code : code_of_member c method ≡ Some code
  pub no_code_fault : faults_of c code ≡ []
  -- the instruction at that offset of the code
  pub insn : Insn
  pub has_insn : Contains (insns_of code.code) (l.place, insn)
  -- what the instruction does with a reference of the class
  pub kind : LinkKind
  pub reference : Reference
  pub has_reference : link_use insn ≡ Some (kind, reference.index)
  -- the answer to that reference
  pub answer : Answer
  pub has_answer : HasAnswer (references_in c) answers reference answer
  -- the error of the instruction for this answer, and the class at fault
  pub has_fault :
      link_error (record { class = d; method = name; named = reference.named }) kind answer ≡ Some (l.error, l.class)

-- the errors of a class's instructions are those of the instructions that do not link
abbrev pub LinksAreExact : Type 0
LinksAreExact = (path : List ℕ) (c : ClassFile) (d : Name) (answers : List Answer) (l : LinkError)
    → Contains (links_of d (stands.Class (facts_of path c)) answers) l ↔ DoesNotLink d c answers l

-- by method, then by offset
abbrev pub link_cmp : LinkError → LinkError → Ordering
link_cmp a b = ordering_then (nat_cmp a.method b.method) (nat_cmp a.place b.place)

-- the errors are sorted, and each instruction has at most one
abbrev pub LinksAreInOrder : Type 0
LinksAreInOrder = (path : List ℕ) (c : ClassFile) (d : Name) (answers : List Answer)
    → IsStrictlySortedBy link_cmp (links_of d (stands.Class (facts_of path c)) answers)

-- a class that does not load has no such errors
abbrev pub NoLinksUnlessLoaded : Type 0
NoLinksUnlessLoaded = (m : World) (d : Name) (p : Part) → IsPart m d p → ¬ (p.load ≡ loading.Loaded) → p.links ≡ []
