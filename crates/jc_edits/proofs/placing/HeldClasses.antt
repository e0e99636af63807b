-- What holds of the classes that are held holds of the files that give them.
use Rattle.std.proofs.Common.{◌≡◌, ◌∙◌, true, false, ◌&&◌, not, List, [], is_some, ap, refl, subst, sym}
use Rattle.std.proofs.lemmas.Bool.{false≢true}
use Rattle.std.specs.Borrow.{Bor}
use Rattle.std.specs.Prelude.{Option, IfSome}
use Rattle.jc_base.proofs.Membership.{has_from}
use Rattle.jc_classes.specs.Names.{Name}
use Rattle.jc_classes.specs.NameLists.{Lists}
use Rattle.jc_classes.specs.Parts.{IsPart, Part, Reach}
use Rattle.jc_link.specs.Prefixes.{is_covered}
use Rattle.jc_link.specs.Tables.{class_at, or_built_in, stands_by}
use Rattle.jc_link.specs.declared.meter.Meter.{Meter}
use Rattle.jc_classes.specs.Loading.{same_bool}
use Rattle.jc_linkage.specs.Affected.{IsCounted, counts_of}
use Rattle.jc_linkage.specs.Linkages as held
use Rattle.jc_linkage.specs.Linkages.{Linkage}
use Rattle.jc_linkage.specs.Steps.{Classes}
use Rattle.jc_report.specs.Files.{Files}
use Rattle.jc_report.specs.Reports.{facts_at, world_of}
use Rattle.jc_linkage.proofs.fresh.Counts.{counted_none}
use Rattle.jc_edits.specs.SessionState.{Contents}
use Rattle.jc_edits.specs.Touched.{IsCountedChange, gives}
use Rattle.jc_edits.proofs.placing.EditsDiffer.{none_switches}

module _ (f : Files) (prefixes : List Name) (classes : Classes) (held : (n : Name) → classes n ≡ facts_at f n) where
  same_classes : classes ≡ facts_at f
  same_classes = λ i n. held n i

  pub part_of_files : (name : Name) (part : Option (Bor Part)) → IfSome part (λ p. IsPart (λ n. stands_by (or_built_in (classes n) n) (is_covered prefixes n)) name p.now)
      → IfSome part (λ p. IsPart (world_of f prefixes) name p.now)
  part_of_files name part h =
      subst (λ (m : Classes). IfSome part (λ p. IsPart (λ n. stands_by (or_built_in (m n) n) (is_covered prefixes n)) name p.now)) same_classes h

  pub dependants_of_files : (name : Name) (names : List Name)
      → Lists names (λ d. (is_some (classes d) ≡ true) × Reach (λ n. stands_by (or_built_in (classes n) n) (is_covered prefixes n)) d name)
      → Lists names (λ d. (gives f d ≡ true) × Reach (world_of f prefixes) d name)
  dependants_of_files name names h =
      subst (λ (m : Classes). Lists names (λ d. (is_some (m d) ≡ true) × Reach (λ n. stands_by (or_built_in (m n) n) (is_covered prefixes n)) d name)) same_classes h

-- an edit that is counted of classes that files give is counted of the files
pub change_of_files : (old new : Linkage) (f g : Files) → ((n : Name) → class_at old.classes n ≡ facts_at f n) → ((n : Name) → class_at new.classes n ≡ facts_at g n)
    → (before behind : Meter) → held.IsCountedChange old new before behind
    → IsCountedChange (record { files = f; prefixes = old.prefixes }) (record { files = g; prefixes = new.prefixes }) (counts_of before) (counts_of behind)
change_of_files old new f g was is before behind change = record {
  touched = change.touched;
  tells = λ n.
      let told = change.tells n in
      let switched = ap (λ o. not (is_some (or_built_in o n)) && not (same_bool (is_covered old.prefixes n) (is_covered new.prefixes n))) (is n) in (
        λ t. let same = told.0 t in (sym (was n) ∙ same.0 ∙ is n, sym switched ∙ same.1),
        λ same. told.1 (was n ∙ same.0 ∙ sym (is n), switched ∙ same.1),
      );
  counted =
      subst (λ (m : Classes). IsCounted (λ n. is_some (m n)) (λ n. stands_by (or_built_in (m n) n) (is_covered new.prefixes n)) change.touched (counts_of before) (counts_of behind))
      (λ i n. is n i) change.counted;
}

-- ---- an edit that changes nothing

none_hit : {A : Type 0} → false ≡ true → A
none_hit e = absurd (false≢true e)

pub nothing_counted : (h : Contents) (meter : Meter) → IsCountedChange h h (counts_of meter) (counts_of meter)
nothing_counted h meter = record {
  touched = λ n. false;
  tells = λ n. (λ t. (refl, none_switches h.files h.prefixes n), λ same. refl);
  counted = record {
    affected = [];
    reaches = [];
    reached = [];
    are_affected = record { once = tt; sound = λ n e. none_hit e; complete = λ n a. none_hit a.1.1 };
    are_reaches = tt;
    are_reached = record { once = tt; sound = λ n e. none_hit e; complete = λ n r. absurd (has_from [] r.0 r.1) };
    made = counted_none meter.made meter.made_fit;
    asks = counted_none meter.asks meter.asks_fit;
  };
}
