-- The facts that files give of a name are those of its winner, and have the name.
use Rattle.std.proofs.Common.{◌≡◌, ℕ, List, Option, Some, None, Ok, refl, sym, ap, ◌∙◌}
use Rattle.std.specs.Prelude.{option_and_then}
use Rattle.std.specs.FinMap as fin
use Rattle.jc_view.specs.ClassFile.{ClassFile}
use Rattle.jc_view.specs.Outcome.{class_read}
use Rattle.jc_classes.specs.Facts.{Facts}
use Rattle.jc_classes.specs.FactsOf.{facts_of}
use Rattle.jc_classes.specs.Names.{Name}
use Rattle.jc_link.specs.Prefixes.{is_covered}
use Rattle.jc_link.specs.Tables.{or_built_in, stands_by, world}
use Rattle.jc_report.specs.Files.{Files}
use Rattle.jc_report.specs.FileRows.{winner}
use Rattle.jc_report.specs.Reports.{facts_by, facts_there, facts_at, world_of}
use Rattle.jc_report.specs.Trees.{IsTree, Tree}
use Rattle.jc_report.proofs.winners.LeastPathWins.{winner_least, to_named}
use Rattle.jc_report.proofs.trees.NamedClasses.{class_of_name, facts_name, facts_path}

-- a name's facts are of a class file at the path that wins it
pub record IsGiven (f : Files) (n p : List ℕ) (facts : Option Facts) : Type 0 where
  pub bytes : List ℕ
  pub class : ClassFile
  pub there : fin.get f p ≡ Some bytes
  pub is_read : class_read bytes ≡ Ok class
  pub gives : facts ≡ Some (facts_of p class)
  pub is_name : (facts_of p class).name ≡ n
  pub is_path : (facts_of p class).path ≡ p

pub winner_facts : (f : Files) (n p : List ℕ) → winner f n ≡ Some p → IsGiven f n p (facts_at f n)
winner_facts f n p h =
    let named = to_named f n p (winner_least f n p h).is_there in
    let agrees = class_of_name named.0 n named.2 in
    record {
      bytes = named.0;
      class = agrees.class;
      there = named.1;
      is_read = agrees.is_read;
      gives = ap (λ w. option_and_then (λ path. facts_there path (fin.get f path)) w) h ∙ ap (facts_there p) named.1 ∙ ap (facts_by p) agrees.is_read;
      is_name = facts_name p agrees.class ∙ agrees.is_name;
      is_path = facts_path p agrees.class;
    }

pub no_facts : (f : Files) (n : List ℕ) → winner f n ≡ None → facts_at f n ≡ None
no_facts f n h = ap (λ w. option_and_then (λ path. facts_there path (fin.get f path)) w) h

named_by_winner : (f : Files) (n : List ℕ) (c : Facts) (w : Option (List ℕ)) → winner f n ≡ w → facts_at f n ≡ Some c → c.name ≡ n
named_by_winner f n c None is h = absurd (let none = no_facts f n is in cc)
named_by_winner f n c (Some p) is h =
    let given = winner_facts f n p is in
    let same : facts_of p given.class ≡ c = (let both = given.gives in cc) in
    ap (λ (x : Facts). x.name) (sym same) ∙ given.is_name

-- the facts of a name have it
pub facts_named : (f : Files) (name : Name) (c : Facts) → facts_at f name ≡ Some c → c.name ≡ name
facts_named f name c h = named_by_winner f name c (winner f name) refl h

-- the world of a tree's table is that of the files
pub worlds_meet : (f : Files) (t : Tree) → IsTree f t → (prefixes : List Name) (name : Name) → world t.classes prefixes name ≡ world_of f prefixes name
worlds_meet f t h prefixes name = ap (λ o. stands_by (or_built_in o name) (is_covered prefixes name)) (h.classes name)
