-- The outcomes of a tree are those of its files: at each path, and with one more file.
use Rattle.std.proofs.Common.{◌≡◌, ℕ, true, false, List, [], ◌∷◌, map, length, Option, Some, None, Result, suc, refl, sym, ap, ◌∙◌}
use Rattle.std.specs.declared.cmp.Ordering.{Ordering}
use Rattle.std.specs.declared.cmp.Ordering.TheVariants.{Less, Equal, Greater}
use Rattle.std.specs.FinMap as fin
use Rattle.std.specs.FinMap.Entries.{by_order}
use Rattle.std.specs.List.{list_any}
use Rattle.std.specs.Option.{is_some}
use Rattle.std.specs.Ordering.{eq_by_cmp}
use Rattle.jc_base.specs.Bytes.{bytes_cmp}
use Rattle.jc_base.proofs.maps.FiniteMaps.{entries-insert}
use Rattle.jc_view.specs.declared.parse_error.ParseError.{ParseError}
use Rattle.jc_view.specs.Outcome.{class_named}
use Rattle.jc_classes.specs.Names.{Name}
use Rattle.jc_report.specs.Files.{Files}
use Rattle.jc_report.specs.Trees.{IsTree, Outcomes, Tree, outcome}

length_outcomes : (es : List (List ℕ × List ℕ)) → length (map outcome es) ≡ length es
length_outcomes [] = refl
length_outcomes (e ∷ es) = ap suc (length_outcomes es)

paths_of : (es : List (List ℕ × List ℕ)) → map (λ e. e.0) (map outcome es) ≡ map (λ e. e.0) es
paths_of [] = refl
paths_of (e ∷ es) = ap (λ ps. e.0 ∷ ps) (paths_of es)

-- as many as there are files
pub count_outcomes : (f : Files) (t : Tree) → IsTree f t → fin.len t.outcomes ≡ fin.len f
count_outcomes f t h = fin.len-entries t.outcomes ∙ ap length h.outcomes ∙ length_outcomes (fin.entries f) ∙ sym (fin.len-entries f)

-- at the same paths
pub same_paths : (f : Files) (t : Tree) → IsTree f t → (path : List ℕ) → fin.contains_key t.outcomes path ≡ fin.contains_key f path
same_paths f t h path =
    fin.contains_key-keys t.outcomes path
    ∙ ap (list_any (eq_by_cmp bytes_cmp path)) (ap (λ es. map (λ e. e.0) es) h.outcomes ∙ paths_of (fin.entries f))
    ∙ sym (fin.contains_key-keys f path)

none_from : (o : Option (List ℕ)) → is_some o ≡ false → o ≡ None
none_from None h = refl
none_from (Some x) h = let e : true ≡ false = h in absurd cc

pub absent_from : (f : Files) (path : List ℕ) → fin.contains_key f path ≡ false → fin.get f path ≡ None
absent_from f path h = none_from (fin.get f path) h

-- ---- one more file

ordered : {A B : Type 0} (g : A → B) (r : Ordering) (x y z : List A) → map g (by_order r x y z) ≡ by_order r (map g x) (map g y) (map g z)
ordered g Less x y z = refl
ordered g Equal x y z = refl
ordered g Greater x y z = refl

put_outcome : (path bytes : List ℕ) (es : List (List ℕ × List ℕ)) → map outcome (fin.put bytes_cmp path bytes es) ≡ fin.put bytes_cmp path (class_named bytes) (map outcome es)
put_outcome path bytes [] = refl
put_outcome path bytes (e ∷ es) =
    ordered outcome (bytes_cmp path e.0) ((path, bytes) ∷ e ∷ es) ((e.0, bytes) ∷ es) (e ∷ fin.put bytes_cmp path bytes es)
    ∙ ap (λ later. by_order (bytes_cmp path e.0) (outcome (path, bytes) ∷ outcome e ∷ map outcome es) (outcome (e.0, bytes) ∷ map outcome es) (outcome e ∷ later)) (put_outcome path bytes es)

pub more_outcomes : (f : Files) (outcomes : Outcomes) (path bytes : List ℕ) (named : Result Name ParseError) → fin.entries outcomes ≡ map outcome (fin.entries f) → named ≡ class_named bytes
    → fin.entries (fin.insert outcomes path named) ≡ map outcome (fin.entries (fin.insert f path bytes))
more_outcomes f outcomes path bytes named is same =
    entries-insert outcomes path named
    ∙ ap (λ o. fin.put bytes_cmp path o (fin.entries outcomes)) same
    ∙ ap (fin.put bytes_cmp path (class_named bytes)) is
    ∙ sym (put_outcome path bytes (fin.entries f))
    ∙ ap (map outcome) (sym (entries-insert f path bytes))
