-- What a tree keeps of its files.
use Rattle.std.specs.Prelude.{◌≡◌, ℕ, Bool, true, false, List, map, Result}
use Rattle.std.specs.FinMap as fin
use Rattle.jc_base.specs.Bytes.{bytes_cmp}
use Rattle.jc_view.specs.declared.parse_error.ParseError.{ParseError}
use Rattle.jc_view.specs.Outcome.{class_named}
use Rattle.jc_classes.specs.Names.{Name}
use Rattle.jc_link.specs.Tables.{Places, class_at}
use Rattle.jc_report.specs.Files.{Files}
use Rattle.jc_report.specs.Reports.{facts_at}
use Rattle.jc_report.specs.declared.tree.AddError.{AddError}
use Rattle.jc_report.specs.declared.tree.AddError.TheVariants as errors

-- the name of the class in each file, or why the file cannot be read, by path
abbrev pub Outcomes : Type 0
Outcomes = fin.FinMap bytes_cmp (Result Name ParseError)

pub record Tree : Type 0 where
  pub outcomes : Outcomes
  -- the facts of each class, from its winner
  pub classes : Places

-- the path of a file, with the name of its class or its refusal; the file is given as its path and its bytes
abbrev pub outcome : List ℕ × List ℕ → List ℕ × Result Name ParseError
outcome file = (file.0, class_named file.1)

-- the tree has the outcome of each of these files and no others, and the facts that these files give for each name
pub record IsTree (f : Files) (t : Tree) : Type 0 where
  pub outcomes : fin.entries t.outcomes ≡ map outcome (fin.entries f)
  pub classes : (name : Name) → class_at t.classes name ≡ facts_at f name

-- the tree is that of these files and of one more, at a path that had no file
abbrev pub HasOneMore : Files → (path bytes : List ℕ) → Tree → Type 0
HasOneMore f path bytes t = (fin.contains_key f path ≡ false) × IsTree (fin.insert f path bytes) t

-- the error says that there is a file at the path; the other error is out of memory
abbrev pub is_there : AddError → Bool
is_there errors.AlreadyThere = true
is_there errors.NoMemory = false
