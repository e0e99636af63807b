-- Files and prefixes have one report.
use Rattle.std.proofs.Common.{◌≡◌, ◌∙◌, suc, inl, inr, List, [], ◌∷◌, map, Some, refl, ap, sym, subst, arith}
use Rattle.std.specs.List.{All, Contains, filter}
use Rattle.jc_base.proofs.Membership.{Has, has_from, has-from_map}
use Rattle.jc_classes.specs.Names.{Name}
use Rattle.jc_classes.specs.Parts.{IsPart}
use Rattle.jc_classes.proofs.worlds.Parts.{part_one}
use Rattle.jc_report.specs.ClassRows.{provided_rows, required_rows}
use Rattle.jc_report.specs.Files.{Files}
use Rattle.jc_report.specs.Reports.{Class, GivesRow, IsClassOf, IsReport, Report, facts_at, name_of, world_of}
use Rattle.jc_report.specs.Rows.{AreRows}
use Rattle.jc_report.proofs.rows.RowsAreOne.{are_rows_one, sorted_names_one}

pub all_has : {X : Type 0} (P : X → Type 0) (xs : List X) (x : X) → All P xs → Has xs x → P x
all_has P [] x all h = absurd h
all_has P (y ∷ xs) x all (inl e) = subst P e (all 0 y (omega arith))
all_has P (y ∷ xs) x all (inr h) = all_has P xs x (λ k d lt. all (suc k) d (omega (arith, lt))) h

module _ (f : Files) (prefixes : List Name) where
  -- a class of a name is one
  same_class : (a b : Class) → name_of a ≡ name_of b → IsClassOf f prefixes a → IsClassOf f prefixes b → a ≡ b
  same_class a b e p q =
      let found : Some a.facts ≡ Some b.facts = sym p.facts ∙ ap (facts_at f) e ∙ q.facts in
      let facts : a.facts ≡ b.facts = cc in
      let part : a.part ≡ b.part = part_one (world_of f prefixes) (name_of b) a.part b.part (subst (λ (n : Name). IsPart (world_of f prefixes) n a.part) e p.part) q.part in
      λ i. record { facts = facts i; part = part i }

  -- classes of the same names are the same
  same_classes : (cs ds : List Class) → map name_of cs ≡ map name_of ds → All (IsClassOf f prefixes) cs → All (IsClassOf f prefixes) ds → cs ≡ ds
  same_classes [] [] e p q = refl
  same_classes [] (b ∷ ds) e p q = absurd cc
  same_classes (a ∷ cs) [] e p q = absurd cc
  same_classes (a ∷ cs) (b ∷ ds) e p q =
      let first : name_of a ≡ name_of b = cc in
      let rest : map name_of cs ≡ map name_of ds = cc in
      let class = same_class a b first (p 0 a (omega arith)) (q 0 b (omega arith)) in
      let classes = same_classes cs ds rest (λ k d lt. p (suc k) d (omega (arith, lt))) (λ k d lt. q (suc k) d (omega (arith, lt))) in
      λ i. class i ∷ classes i

  -- each class of one report is in the other
  names_within : (r s : Report) → IsReport f prefixes r → IsReport f prefixes s → (n : Name) → Contains (map name_of r.classes) n → Contains (map name_of s.classes) n
  names_within r s a b n h =
      let found = has-from_map name_of r.classes n (has_from _ n h) in
      let is = all_has (IsClassOf f prefixes) r.classes found.0 a.sound found.1 in
      b.complete n found.0.facts (ap (facts_at f) (sym found.2) ∙ is.facts)

  pub report_one : (r s : Report) → IsReport f prefixes r → IsReport f prefixes s → r ≡ s
  report_one r s a b =
      let names : map name_of r.classes ≡ map name_of s.classes = sorted_names_one _ _ a.rises b.rises (names_within r s a b) (names_within s r b a) in
      let classes : r.classes ≡ s.classes = same_classes r.classes s.classes names a.sound b.sound in
      let files : r.files ≡ s.files = a.files ∙ sym b.files in
      let circular : r.circular ≡ s.circular = a.circular ∙ ap (λ (cs : List Class). map name_of (filter (λ c. c.part.circular) cs)) classes ∙ sym b.circular in
      let provided : r.provided ≡ s.provided = are_rows_one (GivesRow provided_rows s.classes) r.provided s.provided (subst (λ (cs : List Class). AreRows r.provided (GivesRow provided_rows cs)) classes a.provided) b.provided in
      let required : r.required ≡ s.required = are_rows_one (GivesRow required_rows s.classes) r.required s.required (subst (λ (cs : List Class). AreRows r.required (GivesRow required_rows cs)) classes a.required) b.required in
      λ i. record { files = files i; classes = classes i; circular = circular i; provided = provided i; required = required i }
