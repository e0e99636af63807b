-- The classes that an edit changes, from what is read of the files.
use Rattle.std.proofs.Common.{◌≡◌, ℕ, cond, List, Option, Some, None, Result, Ok, sym, ap, ◌∙◌}
use Rattle.std.specs.Prelude.{option_and_then, if◌then◌else◌}
use Rattle.std.specs.FinMap as fin
use Rattle.jc_base.proofs.maps.FiniteMaps.{get-remove, get-remove_same}
use Rattle.jc_view.specs.ClassFile.{ClassFile}
use Rattle.jc_view.specs.declared.parse_error.ParseError.{ParseError}
use Rattle.jc_view.specs.Outcome.{class_named, class_read}
use Rattle.jc_classes.specs.Facts.{Facts}
use Rattle.jc_classes.specs.FactsOf.{class_name, facts_of}
use Rattle.jc_report.specs.Files.{Files}
use Rattle.jc_report.specs.FileRows.{winner}
use Rattle.jc_report.specs.Reports.{facts_at, facts_by, facts_there}
use Rattle.jc_report.proofs.winners.OneMoreFile.{winner_apart}
use Rattle.jc_report.proofs.trees.FactsOfNames.{winner_facts}
use Rattle.jc_report.proofs.trees.NamedClasses.{class_of_name}
use Rattle.jc_edits.specs.Touched.{is_path}
use Rattle.jc_edits.specs.inside.Changing.{lost, lost_by}
use Rattle.jc_edits.specs.inside.Claims.{AreClaims, PathsByName, first_claim}
use Rattle.jc_edits.proofs.holding.ClaimsWin.{claims_win}

-- ---- the name that is lost

pub named_lost : (claims : PathsByName) (f : Files) (path bytes name : List ℕ) (first : Option (List ℕ)) → AreClaims claims f → Some bytes ≡ fin.get f path → Ok name ≡ class_named bytes
    → first ≡ first_claim claims name → (if is_path first path then Some name else None) ≡ lost f path
named_lost claims f path bytes name first are there named is =
    ap (λ w. if is_path w path then Some name else None) (is ∙ sym (claims_win claims f are name))
    ∙ ap (lost_by f path) named
    ∙ ap (λ o. option_and_then (λ b. lost_by f path (class_named b)) o) there

-- ---- the class of the next file that names it

pub record IsNext (f : Files) (path name : List ℕ) (read : Option Facts) : Type 0 where
  pub facts : Facts
  pub is_read : read ≡ Some facts
  pub is_name : facts.name ≡ name
  pub gives : facts_at (fin.remove f path) name ≡ Some facts

module _ (f : Files) (path name next : List ℕ) (wins : winner (fin.remove f path) name ≡ Some next) where
  apart : fin.get (fin.remove f path) next ≡ fin.get f next
  apart = get-remove f path next ∙ ap (λ b. cond b None (fin.get f next)) (winner_apart (fin.remove f path) path path name (get-remove_same f path) next wins)

  pub next_read : (file bytes : List ℕ) (read : Option Facts) → Some file ≡ fin.get f next → bytes ≡ file → read ≡ facts_there next (Some bytes) → IsNext f path name read
  next_read file bytes read there is reads =
      let given = winner_facts (fin.remove f path) name next wins in
      let same : Some bytes ≡ Some given.bytes = ap (λ (x : List ℕ). Some x) is ∙ there ∙ sym apart ∙ given.there in
      record {
        facts = facts_of next given.class;
        is_read = reads ∙ ap (facts_there next) same ∙ ap (facts_by next) given.is_read;
        is_name = given.is_name;
        gives = given.gives;
      }

  pub next_there : None ≡ fin.get f next → ⊥
  next_there none =
      let given = winner_facts (fin.remove f path) name next wins in
      let e : None ≡ Some given.bytes = none ∙ sym apart ∙ given.there in
      cc

-- ---- the class that bytes name

one_class : (c d : ClassFile) (read : Result ClassFile ParseError) → read ≡ Ok c → read ≡ Ok d → c ≡ d
one_class c d read p q = cc

pub read_name : (bytes name : List ℕ) (c : ClassFile) → class_named bytes ≡ Ok name → class_read bytes ≡ Ok c → class_name c ≡ name
read_name bytes name c named read =
    let agrees = class_of_name bytes name named in
    ap class_name (one_class c agrees.class (class_read bytes) read agrees.is_read) ∙ agrees.is_name
