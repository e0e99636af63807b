-- The classes of a tree with one more file are those that the files give with it.
use Rattle.std.proofs.Common.{◌≡◌, ℕ, Bool, true, false, cond, List, map, Option, Some, None, Result, Ok, Err, refl, sym, ap, ◌∙◌, ⊎_elim}
use Rattle.std.specs.Prelude.{option_and_then}
use Rattle.std.specs.FinMap as fin
use Rattle.std.proofs.lemmas.Bool.{cases_Bool}
use Rattle.jc_base.specs.Bytes.{bytes_cmp, same_bytes}
use Rattle.jc_base.proofs.maps.FiniteMaps.{same_bytes_equiv, same_bytes_decides, get-insert, get-insert_same, entries-empty}
use Rattle.jc_view.specs.declared.parse_error.ParseError.{ParseError}
use Rattle.jc_view.specs.ClassFile.{ClassFile}
use Rattle.jc_view.specs.Outcome.{class_named, class_read}
use Rattle.jc_classes.specs.Facts.{Facts}
use Rattle.jc_classes.specs.FactsOf.{facts_of}
use Rattle.jc_classes.specs.Names.{Name, name_less}
use Rattle.jc_link.specs.Tables.{Places, placed, class_at}
use Rattle.jc_report.specs.Files.{Files}
use Rattle.jc_report.specs.FileRows.{names_by, names, first_naming, winner}
use Rattle.jc_report.specs.Reports.{facts_by, facts_there, facts_at}
use Rattle.jc_report.specs.Trees.{IsTree, Tree, outcome}
use Rattle.jc_report.specs.inside.Kept.{put_back, kept, kept_read, stays}
use Rattle.jc_report.proofs.winners.OneMoreFile.{winner_bytes, winner_unnamed, winner_first, winner_stays, winner_new}
use Rattle.jc_report.proofs.trees.NamedClasses.{class_of_name, class_of_refusal, facts_name}
use Rattle.jc_report.proofs.trees.NamedOutcomes.{absent_from, more_outcomes}
use Rattle.jc_report.proofs.trees.FactsOfNames.{facts_named, no_facts, winner_facts}

-- ---- what the files give

at_winner : (f : Files) (n : List ℕ) (w : Option (List ℕ)) → winner f n ≡ w → facts_at f n ≡ option_and_then (λ path. facts_there path (fin.get f path)) w
at_winner f n w h = ap (λ (o : Option (List ℕ)). option_and_then (λ path. facts_there path (fin.get f path)) o) h

module _ (f : Files) (path bytes n : List ℕ) (absent : fin.get f path ≡ None) where
  abbrev more : Files
  more = fin.insert f path bytes

  facts_as : (p : List ℕ) → winner f n ≡ Some p → winner more n ≡ Some p → facts_at more n ≡ facts_at f n
  facts_as p h still = at_winner more n (Some p) still ∙ ap (facts_there p) (winner_bytes f path bytes n absent p h) ∙ sym (at_winner f n (Some p) h)

  facts_new : (c : ClassFile) → class_read bytes ≡ Ok c → winner more n ≡ Some path → facts_at more n ≡ Some (facts_of path c)
  facts_new c is_read wins = at_winner more n (Some path) wins ∙ ap (facts_there path) (get-insert_same f path bytes) ∙ ap (facts_by path) is_read

  unnamed_by : names bytes n ≡ false → (w : Option (List ℕ)) → winner f n ≡ w → facts_at more n ≡ facts_at f n
  unnamed_by lacks None is = no_facts more n (winner_unnamed f path bytes n absent lacks ∙ is) ∙ sym (no_facts f n is)
  unnamed_by lacks (Some p) is = facts_as p is (winner_unnamed f path bytes n absent lacks ∙ is)

  pub facts_unnamed : names bytes n ≡ false → facts_at (fin.insert f path bytes) n ≡ facts_at f n
  facts_unnamed lacks = unnamed_by lacks (winner f n) refl

  more_by : (c : ClassFile) → class_read bytes ≡ Ok c → names bytes n ≡ true → (w : Option (List ℕ)) → winner f n ≡ w → facts_at more n ≡ Some (stays path (facts_of path c) (facts_at f n))
  more_by c is_read has None is =
      facts_new c is_read (winner_first f path bytes n absent has is)
      ∙ sym (ap (λ o. Some (stays path (facts_of path c) o)) (no_facts f n is))
  more_by c is_read has (Some p) is =
      let given = winner_facts f n p is in
      let old = facts_of p given.class in
      let new = facts_of path c in
      let stay : (b : Bool) → name_less p path ≡ b → Some (stays path new (facts_at f n)) ≡ Some (cond b old new) =
      λ b less. ap (λ o. Some (stays path new o)) given.gives ∙ ap (λ t. Some (cond t old new)) (ap (λ x. name_less x path) given.is_path ∙ less) in
      ⊎_elim
      (λ less. facts_as p is (winner_stays f path bytes n absent p is less) ∙ given.gives ∙ sym (stay true less))
      (λ miss. facts_new c is_read (winner_new f path bytes n absent p has is miss) ∙ sym (stay false miss))
      (cases_Bool (name_less p path))

  pub facts_more : (c : ClassFile) → class_read bytes ≡ Ok c → names bytes n ≡ true → facts_at (fin.insert f path bytes) n ≡ Some (stays path (facts_of path c) (facts_at f n))
  facts_more c is_read has = more_by c is_read has (winner f n) refl

-- ---- what is kept

placed_cond : (b : Bool) (facts : Facts) (o : Option (Option Facts)) → placed (cond b (Some (Some facts)) o) ≡ cond b (Some facts) (placed o)
placed_cond true facts o = refl
placed_cond false facts o = refl

class_at-insert : (places : Places) (k : Name) (facts : Facts) (n : Name) → class_at (fin.insert places k (Some facts)) n ≡ cond (same_bytes n k) (Some facts) (class_at places n)
class_at-insert places k facts n = ap placed (get-insert places k (Some facts) n) ∙ placed_cond (same_bytes n k) facts (fin.get places n)

cond_again : {X : Type 0} (b : Bool) (x y z : X) → cond b x (cond b y z) ≡ cond b x z
cond_again true x y z = refl
cond_again false x y z = refl

back_by : (places : Places) (k n : Name) (facts before : Facts) (b : Bool) → before.name ≡ k
    → class_at (cond b (fin.insert (fin.insert places k (Some facts)) before.name (Some before)) (fin.insert places k (Some facts))) n ≡ cond (same_bytes n k) (Some (cond b before facts)) (class_at places n)
back_by places k n facts before true is =
    class_at-insert (fin.insert places k (Some facts)) before.name before n
    ∙ ap (λ x. cond (same_bytes n x) (Some before) (class_at (fin.insert places k (Some facts)) n)) is
    ∙ ap (λ o. cond (same_bytes n k) (Some before) o) (class_at-insert places k facts n)
    ∙ cond_again (same_bytes n k) (Some before) (Some facts) (class_at places n)
back_by places k n facts before false is = class_at-insert places k facts n

put_back_by : (places : Places) (k path n : Name) (facts : Facts) (o : Option Facts) → ((before : Facts) → o ≡ Some before → before.name ≡ k)
    → class_at (put_back o path (fin.insert places k (Some facts))) n ≡ cond (same_bytes n k) (Some (stays path facts o)) (class_at places n)
put_back_by places k path n facts None named = class_at-insert places k facts n
put_back_by places k path n facts (Some before) named = back_by places k n facts before (name_less before.path path) (named before refl)

kept_at : (places : Places) (path n k : Name) (facts : Facts) → facts.name ≡ k → ((before : Facts) → class_at places k ≡ Some before → before.name ≡ k)
    → class_at (kept places path facts) n ≡ cond (same_bytes n k) (Some (stays path facts (class_at places k))) (class_at places n)
kept_at places path n k facts is named =
    ap (λ x. class_at (put_back (class_at places x) path (fin.insert places x (Some facts))) n) is
    ∙ put_back_by places k path n facts (class_at places k) named

module _ (f : Files) (path bytes : List ℕ) (absent : fin.get f path ≡ None) (places : Places) (meets : (n : Name) → class_at places n ≡ facts_at f n) where
  ok_by : (n k : Name) (c : ClassFile) → class_named bytes ≡ Ok k → class_read bytes ≡ Ok c → (facts_of path c).name ≡ k → (b : Bool) → same_bytes n k ≡ b
      → cond b (Some (stays path (facts_of path c) (class_at places k))) (class_at places n) ≡ facts_at (fin.insert f path bytes) n
  ok_by n k c is_named is_read is_name true same =
      let one : n ≡ k = (same_bytes_decides n k).0 same in
      let has : names bytes n ≡ true = ap (λ o. names_by o n) is_named ∙ same_bytes_equiv.symm k n ∙ same in
      ap (λ o. Some (stays path (facts_of path c) o)) (ap (class_at places) (sym one) ∙ meets n)
      ∙ sym (facts_more f path bytes n absent c is_read has)
  ok_by n k c is_named is_read is_name false same =
      let lacks : names bytes n ≡ false = ap (λ o. names_by o n) is_named ∙ same_bytes_equiv.symm k n ∙ same in
      meets n ∙ sym (facts_unnamed f path bytes n absent lacks)

  kept_by : (n : Name) (outcome : Result Name ParseError) → class_named bytes ≡ outcome → class_at (kept_read places path (class_read bytes)) n ≡ facts_at (fin.insert f path bytes) n
  kept_by n (Ok k) is =
      let agrees = class_of_name bytes k is in
      let c = agrees.class in
      let is_name = facts_name path c ∙ agrees.is_name in
      ap (λ r. class_at (kept_read places path r) n) agrees.is_read
      ∙ kept_at places path n k (facts_of path c) is_name (λ before stood. facts_named f k before (sym (meets k) ∙ stood))
      ∙ ok_by n k c is agrees.is_read is_name (same_bytes n k) refl
  kept_by n (Err refusal) is =
      let lacks : names bytes n ≡ false = ap (λ o. names_by o n) is in
      ap (λ r. class_at (kept_read places path r) n) (class_of_refusal bytes refusal is) ∙ meets n ∙ sym (facts_unnamed f path bytes n absent lacks)

  -- the table that was kept with one more file has what the files give with it
  pub kept_meets : (n : Name) → class_at (kept_read places path (class_read bytes)) n ≡ facts_at (fin.insert f path bytes) n
  kept_meets n = kept_by n (class_named bytes) refl

-- ---- trees

-- no files
pub no_files : (t : Tree) → t.outcomes ≡ fin.empty → t.classes ≡ fin.empty → IsTree fin.empty t
no_files t outcomes classes = record {
  outcomes = ap fin.entries outcomes ∙ entries-empty ∙ sym (ap (map outcome) entries-empty);
  classes = λ n. ap (λ places. class_at places n) classes ∙ ap placed (fin.get-empty bytes_cmp n) ∙ sym (no_facts fin.empty n (ap (λ es. first_naming es n) entries-empty));
}

-- and one more
pub more_files : (f : Files) (t new : Tree) (path bytes : List ℕ) (named : Result Name ParseError) → IsTree f t → fin.contains_key f path ≡ false → named ≡ class_named bytes
    → new.outcomes ≡ fin.insert t.outcomes path named → new.classes ≡ kept_read t.classes path (class_read bytes) → IsTree (fin.insert f path bytes) new
more_files f t new path bytes named h absent is outcomes classes = record {
  outcomes = ap fin.entries outcomes ∙ more_outcomes f t.outcomes path bytes named h.outcomes is;
  classes = λ n. ap (λ places. class_at places n) classes ∙ kept_meets f path bytes (absent_from f path absent) t.classes h.classes n;
}
