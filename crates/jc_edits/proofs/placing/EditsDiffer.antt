-- An edit changes nothing at a name that it does not touch.
use Rattle.std.proofs.Common.{◌≡◌, ℕ, Bool, true, false, ◌||◌, ◌&&◌, not, cond, List, Option, Some, None, is_some, refl, sym, ap, subst, ◌∙◌, ⊎_elim}
use Rattle.std.proofs.lemmas.Bool.{cases_Bool, false≢true}
use Rattle.std.specs.FinMap as fin
use Rattle.jc_base.proofs.maps.FiniteMaps.{get-remove_same}
use Rattle.jc_classes.specs.Facts.{Facts}
use Rattle.jc_classes.specs.Laws.{Differ}
use Rattle.jc_classes.specs.Loading.{same_bool}
use Rattle.jc_classes.specs.Names.{Name}
use Rattle.jc_classes.proofs.worlds.Parts.{hits_either}
use Rattle.jc_link.specs.Prefixes.{is_covered}
use Rattle.jc_link.specs.Tables.{or_built_in, stands_by}
use Rattle.jc_input.specs.Changes.{path_of}
use Rattle.jc_report.specs.Files.{Files}
use Rattle.jc_report.specs.FileRows.{winner}
use Rattle.jc_report.specs.Reports.{facts_at}
use Rattle.jc_input.specs.FileEdits as edits
use Rattle.jc_edits.specs.Edits.{after_edit}
use Rattle.jc_edits.specs.Touched.{AffectedEitherWay, EditsDiffer, TellsTouched, TouchedAreTaken, is_path, is_taken, switches, world_at}
use Rattle.jc_edits.specs.SessionState.{Contents}
use Rattle.jc_edits.specs.inside.Changing.{bytes_of, won}
use Rattle.jc_edits.specs.inside.Growth.{put_at}
use Rattle.jc_edits.proofs.placing.ClassesPlaced.{Placed, others_with, placed_at}
use Rattle.jc_edits.proofs.placing.EditPlaced.{put_after, put_with}

neither : (a b : Bool) → (a || b) ≡ false → (a ≡ false) × (b ≡ false)
neither true b e = absurd cc
neither false b e = (refl, e)

-- a class that is not taken from the path is that of the other files
of_others : (g : Files) (path : List ℕ) (o : Option (List ℕ)) (after : Files) (n : Name) → Placed g path o after n → is_path (winner after n) path ≡ false → facts_at after n ≡ facts_at g n
of_others g path o after n placed apart = placed.class ∙ ap (λ b. cond b (won g path o) (facts_at g n)) (sym placed.taken ∙ apart)

same_class : (f : Files) (path : List ℕ) (o : Option (List ℕ)) (n : Name) → is_taken f (put_at f path o) path n ≡ false → facts_at f n ≡ facts_at (put_at f path o) n
same_class f path o n untouched =
    let others = fin.remove f path in
    let absent = get-remove_same f path in
    let apart = neither (is_path (winner f n) path) (is_path (winner (put_at f path o) n) path) untouched in
    let before = subst (λ h. Placed others path (fin.get f path) h n) (others_with f path (fin.get f path) refl) (placed_at others path (fin.get f path) n absent) in
    let behind = subst (λ h. Placed others path o h n) (put_with f path o) (placed_at others path o n absent) in
    of_others others path (fin.get f path) f n before apart.0 ∙ sym (of_others others path o (put_at f path o) n behind apart.1)

-- ---- what an edit touches

same_stand : (o : Option Facts) (a b : Bool) → (not (is_some o) && not (same_bool a b)) ≡ false → stands_by o a ≡ stands_by o b
same_stand (Some facts) a b e = refl
same_stand None true true e = refl
same_stand None true false e = absurd cc
same_stand None false true e = absurd cc
same_stand None false false e = refl

-- at a name that it does not touch the worlds are the same
differ : (old new : Contents) (touched : Name → Bool) → TellsTouched old new touched → Differ touched (world_at old) (world_at new)
differ old new touched tells n untouched =
    let same = (tells n).0 (ap not untouched) in
    ap (λ o. stands_by (or_built_in o n) (is_covered old.prefixes n)) same.0 ∙ same_stand (or_built_in (facts_at new.files n) n) (is_covered old.prefixes n) (is_covered new.prefixes n) same.1

pub edits_differ : EditsDiffer
edits_differ h e touched tells = differ h (after_edit h e) touched tells

pub affected_either_way : AffectedEitherWay
affected_either_way h e touched tells d =
    let m = world_at h in
    let k = world_at (after_edit h e) in
    let apart = edits_differ h e touched tells in
    (hits_either touched m k d apart, hits_either touched k m d (λ n u. sym (apart n u)))

-- ---- edits of files

-- prefixes that stay switch nothing
pub none_switches : (f : Files) (prefixes : List Name) (n : Name) → switches f prefixes prefixes n ≡ false
none_switches f prefixes n = by (not (is_some (or_built_in (facts_at f n) n))) (is_covered prefixes n)
  where
    by : (a b : Bool) → (a && not (same_bool b b)) ≡ false
    by true true = refl
    by true false = refl
    by false b = refl

pub touched_are_taken : TouchedAreTaken
touched_are_taken h e touched tells n t =
    ⊎_elim
    (λ taken. taken)
    (λ apart.
    let stands = subst (λ g. is_taken h.files g (path_of e) n ≡ false) (put_after h.files e) apart in
    let same : facts_at h.files n ≡ facts_at (edits.after h.files e) n =
    same_class h.files (path_of e) (bytes_of e) n stands ∙ ap (λ g. facts_at g n) (sym (put_after h.files e)) in
    absurd (false≢true (sym (ap not t) ∙ (tells n).1 (same, none_switches (edits.after h.files e) h.prefixes n))))
    (cases_Bool (is_taken h.files (edits.after h.files e) (path_of e) n))
