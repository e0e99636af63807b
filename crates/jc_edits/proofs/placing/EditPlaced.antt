-- What an edit of files does to their classes is what its steps do.
use Rattle.std.proofs.Common.{◌≡◌, ℕ, Bool, true, false, ◌&&◌, cond, List, Option, Some, None, is_some, option_map, refl, sym, ap, subst, ◌∙◌}
use Rattle.std.specs.FinMap as fin
use Rattle.jc_base.proofs.maps.FiniteMaps.{eq_by_cmp-bytes_cmp, get-remove_same, insert-remove, insert_found}
use Rattle.jc_classes.specs.Facts.{Facts}
use Rattle.jc_classes.specs.Names.{Name, same_name}
use Rattle.jc_linkage.specs.Steps.{Classes, changed, class_by, is_class, step_class, step_name}
use Rattle.jc_linkage.specs.declared.step.Step.{Step}
use Rattle.jc_report.specs.Files.{Files}
use Rattle.jc_report.specs.Reports.{facts_at}
use Rattle.jc_input.specs.Changes.{Change, Adds, Replaces, Removes, path_of}
use Rattle.jc_input.specs.FileEdits as edits
use Rattle.jc_edits.specs.inside.Changing.{AreChanges, bytes_of, won}
use Rattle.jc_edits.specs.inside.Growth.{put_at}
use Rattle.jc_edits.proofs.placing.ClassesPlaced.{Placed, exact, lost_name, others_with, placed_at, with_at}

abbrev name_by : Option Facts → Option Name
name_by o = option_map (λ (x : Facts). x.name) o

same_at : (a b : Name) → same_name a b ≡ true → a ≡ b
same_at a b e = exact a b (sym (eq_by_cmp-bytes_cmp a b) ∙ e)

-- ---- the step back to what stood beside the file, and the class that is put

module _ (m others : Classes) (put : Option Facts) (s : Step) (fu : Facts) (named : step_name s ≡ fu.name) (class : step_class s ≡ others (step_name s))
    (stood : (n : Name) → m n ≡ cond (same_name n fu.name) (Some fu) (others n)) where
  abbrev k : Name
  k = step_name s

  m_at : (n : Name) → m n ≡ cond (same_name n k) (Some fu) (others n)
  m_at n = stood n ∙ ap (λ x. cond (same_name n x) (Some fu) (others n)) (sym named)

  uncovered : (n : Name) → others n ≡ cond (same_name n k && is_some (m n)) (step_class s) (m n)
  uncovered n = by (same_name n k) refl
    where
      by : (b : Bool) → same_name n k ≡ b → others n ≡ cond (same_name n k && is_some (m n)) (step_class s) (m n)
      by true e =
          let there : m n ≡ Some fu = m_at n ∙ ap (λ b. cond b (Some fu) (others n)) e in
          ap others (same_at n k e) ∙ sym class ∙ sym (λ i. cond (e i && is_some (there i)) (step_class s) (m n))
      by false e =
          let there : m n ≡ others n = m_at n ∙ ap (λ b. cond b (Some fu) (others n)) e in
          sym there ∙ sym (ap (λ b. cond (b && is_some (m n)) (step_class s) (m n)) e)

  pub some_changed : (n : Name) → cond (is_class put n) put (others n) ≡ changed m (Some s) put n
  some_changed n = ap (cond (is_class put n) put) (uncovered n)

one_name : {a b : Name} → Some a ≡ Some b → a ≡ b
one_name e = cc

no_name : {a : Name} → None ≡ Some a → ⊥
no_name e = cc

some_name : {a : Name} → Some a ≡ None → ⊥
some_name e = cc

-- the classes behind the steps from what the files with the old bytes give to what those with the new give
stepped : (m others : Classes) (old put : Option Facts) (first : Option Step) → ((n : Name) → m n ≡ cond (is_class old n) old (others n))
    → option_map step_name first ≡ name_by old → ((k : Name) → option_map step_name first ≡ Some k → class_by first ≡ others k)
    → (n : Name) → cond (is_class put n) put (others n) ≡ changed m first put n
stepped m others None put None stood name class n = ap (cond (is_class put n) put) (sym (stood n))
stepped m others (Some fu) put None stood name class n = absurd (no_name name)
stepped m others None put (Some s) stood name class n = absurd (some_name name)
stepped m others (Some fu) put (Some s) stood name class n = some_changed m others put s fu (one_name name) (class (step_name s) refl) stood n

-- ---- edits

-- the files with this at the path are the others with it
pub put_with : (f : Files) (path : List ℕ) (o : Option (List ℕ)) → with_at (fin.remove f path) path o ≡ put_at f path o
put_with f path None = refl
put_with f path (Some bytes) = insert-remove f path bytes

module _ (f : Files) (path : List ℕ) (o : Option (List ℕ)) (first : Option Step) (put : Option Facts) (changes : AreChanges f path o first put) (n : Name) where
  abbrev others : Files
  others = fin.remove f path

  abbrev old : Option Facts
  old = won others path (fin.get f path)

  before_edit : (n : Name) → Placed others path (fin.get f path) f n
  before_edit n = subst (λ h. Placed others path (fin.get f path) h n) (others_with f path (fin.get f path) refl) (placed_at others path (fin.get f path) n (get-remove_same f path))

  after_edit : Placed others path o (put_at f path o) n
  after_edit = subst (λ h. Placed others path o h n) (put_with f path o) (placed_at others path o n (get-remove_same f path))

  as_steps : cond (is_class put n) put (facts_at others n) ≡ changed (facts_at f) first put n
  as_steps = stepped (facts_at f) (facts_at others) old put first (λ k. (before_edit k).class) (changes.name ∙ lost_name f path) changes.class n

  -- the classes behind an edit are those behind its steps
  pub classes_after : facts_at (put_at f path o) n ≡ changed (facts_at f) first put n
  classes_after = after_edit.class ∙ ap (λ x. cond (is_class x n) x (facts_at others n)) (sym changes.put) ∙ as_steps

-- ---- classes that are held

pub put_after : (f : Files) (change : Change) → edits.after f change ≡ put_at f (path_of change) (bytes_of change)
put_after f (Adds path bytes) = refl
put_after f (Replaces path bytes) = refl
put_after f (Removes path) = refl

-- bytes that stand at the path change nothing
pub unchanged : (f : Files) (change : Change) (bytes : List ℕ) → bytes_of change ≡ Some bytes → fin.get f (path_of change) ≡ Some bytes → edits.after f change ≡ f
unchanged f change bytes is there = put_after f change ∙ ap (put_at f (path_of change)) is ∙ insert_found f (path_of change) bytes there

module _ (f after : Files) (path : List ℕ) (o : Option (List ℕ)) (first : Option Step) (put : Option Facts) (changes : AreChanges f path o first put) (stand : after ≡ put_at f path o)
    (old new : Classes) (held : (n : Name) → old n ≡ facts_at f n) (done : (n : Name) → new n ≡ changed old first put n) where
  same_before : old ≡ facts_at f
  same_before = λ i n. held n i

  -- they are those of the files after the edit
  pub held_after : (n : Name) → new n ≡ facts_at after n
  held_after n = done n ∙ ap (λ m. changed m first put n) same_before ∙ sym (classes_after f path o first put changes n) ∙ ap (λ g. facts_at g n) (sym stand)
