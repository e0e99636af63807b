-- The rows of files, made one by one over the outcomes of a tree.
use Rattle.std.proofs.Common.{◌≡◌, ℕ, List, [], ◌∷◌, ◌++◌, map, Some, Result, refl, sym, ap, subst, ◌∙◌, append_assoc, append-nil}
use Rattle.std.specs.List.{Contains}
use Rattle.std.specs.FinMap as fin
use Rattle.std.proofs.lemmas.List.{map-append}
use Rattle.std.proofs.lemmas.List.Elements.{Contains-push, Contains-append_left}
use Rattle.jc_base.proofs.maps.FiniteMaps.{get_from_entry}
use Rattle.jc_view.specs.declared.parse_error.ParseError.{ParseError}
use Rattle.jc_view.specs.Outcome.{class_named}
use Rattle.jc_classes.specs.Names.{Name}
use Rattle.jc_report.specs.declared.file_row.FileRow.{FileRow}
use Rattle.jc_report.specs.Files.{Files}
use Rattle.jc_report.specs.FileRows as shown
use Rattle.jc_report.specs.FileRows.{row_of, rows, state_of}
use Rattle.jc_report.specs.FileRowView.{row_lent, state_lent}
use Rattle.jc_report.specs.Trees.{IsTree, Tree, outcome}

-- these are the rows of the files before, and these outcomes are of those that are left
pub record AreMade (f : Files) (made : List FileRow) (left : List (List ℕ × Result Name ParseError)) : Type 0 where
  pub before : List (List ℕ × List ℕ)
  pub files : List (List ℕ × List ℕ)
  pub all : before ++ files ≡ fin.entries f
  pub named : left ≡ map outcome files
  pub rows : map row_lent made ≡ map (row_of f) before

pub none_made : (f : Files) (t : Tree) (made : List FileRow) (left : List (List ℕ × Result Name ParseError)) → IsTree f t → map row_lent made ≡ [] → left ≡ fin.entries t.outcomes → AreMade f made left
none_made f t made left h none all = record {
  before = [];
  files = fin.entries f;
  all = refl;
  named = all ∙ h.outcomes;
  rows = none;
}

-- a row is right where its state is, at the outcome of a file of its path
abbrev pub IsRight : Files → FileRow → Result Name ParseError → Type 0
IsRight f row named = (bytes : List ℕ) → fin.get f row.path.now ≡ Some bytes → named ≡ class_named bytes → state_lent row.state ≡ state_of f row.path.now named

row_is : (f : Files) (row : FileRow) (named : Result Name ParseError) (file : List ℕ × List ℕ) → row.path.now ≡ file.0 → named ≡ class_named file.1 → state_lent row.state ≡ state_of f row.path.now named → row_lent row ≡ row_of f file
row_is f row named file path is state =
    let state_is = state ∙ ap (λ p. state_of f p named) path ∙ ap (state_of f file.0) is in
    let one : (p q : List ℕ) (s u : shown.FileState) → p ≡ q → s ≡ u → ◌≡◌ {A = shown.FileRow} (record { path = p; state = s }) (record { path = q; state = u }) = λ p q s u a b. cc in
    one row.path.now file.0 (state_lent row.state) (state_of f file.0 (class_named file.1)) path state_is

one_by : (f : Files) (made now : List FileRow) (row : FileRow) (named : Result Name ParseError) (rest : List (List ℕ × Result Name ParseError)) (before files : List (List ℕ × List ℕ))
    → before ++ files ≡ fin.entries f → ((row.path.now, named) ∷ rest) ≡ map outcome files → map row_lent made ≡ map (row_of f) before
    → IsRight f row named → now ≡ made ++ row ∷ [] → AreMade f now rest
one_by f made now row named rest before [] all is so_far right more = absurd cc
one_by f made now row named rest before (file ∷ files) all is so_far right more =
    let first : ◌≡◌ {A = List ℕ × Result Name ParseError} (row.path.now, named) (outcome file) = cc in
    let path : row.path.now ≡ file.0 = ap (λ e. e.0) first in
    let name : named ≡ class_named file.1 = ap (λ e. e.1) first in
    let left : rest ≡ map outcome files = cc in
    let split : (before ++ file ∷ []) ++ files ≡ fin.entries f = append_assoc before (file ∷ []) files ∙ all in
    let there = get_from_entry f file.0 file.1 (subst (λ es. Contains es file) split (Contains-append_left (before ++ file ∷ []) files file (Contains-push before file))) in
    let state = right file.1 (ap (fin.get f) path ∙ there) name in
    record {
      before = before ++ file ∷ [];
      files = files;
      all = split;
      named = left;
      rows = ap (map row_lent) more ∙ map-append row_lent made (row ∷ []) ∙ ap (λ rs. rs ++ row_lent row ∷ []) so_far
          ∙ ap (λ r. map (row_of f) before ++ r ∷ []) (row_is f row named file path name state) ∙ sym (map-append (row_of f) before (file ∷ []));
    }

-- one more row
pub one_made : (f : Files) (made now : List FileRow) (row : FileRow) (named : Result Name ParseError) (left rest : List (List ℕ × Result Name ParseError)) → AreMade f made left
    → left ≡ (row.path.now, named) ∷ rest → IsRight f row named → now ≡ made ++ row ∷ [] → AreMade f now rest
one_made f made now row named left rest h is right more = one_by f made now row named rest h.before h.files h.all (sym is ∙ h.named) h.rows right more

none_left : (files : List (List ℕ × List ℕ)) → [] ≡ map outcome files → files ≡ []
none_left [] e = refl
none_left (file ∷ files) e = absurd cc

-- all rows
pub all_made : (f : Files) (made : List FileRow) (left : List (List ℕ × Result Name ParseError)) → AreMade f made left → left ≡ [] → map row_lent made ≡ rows f
all_made f made left h none =
    let done = none_left h.files (sym none ∙ h.named) in
    h.rows ∙ ap (map (row_of f)) (sym (append-nil h.before) ∙ ap (λ es. h.before ++ es) (sym done) ∙ h.all)
