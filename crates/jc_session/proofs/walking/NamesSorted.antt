-- The keys of a map that has the names in a folder are these names, rising.
use Rattle.std.proofs.Common.{◌≡◌, ◌∙◌, ◌||◌, List, ap, is_some, sym, true, ℕ}
use Rattle.std.specs.FinMap as fin
use Rattle.std.specs.FinMap.{FinMap}
use Rattle.jc_base.proofs.maps.FiniteMaps.{keys_rise}
use Rattle.jc_base.specs.Bytes.{bytes_cmp}
use Rattle.jc_classes.specs.NameLists.{Lists, has}
use Rattle.jc_classes.specs.Names.{Name}
use Rattle.jc_session.specs.inside.FolderNames.{is_name_in}

pub names_sorted : {V : Type 0} (each : FinMap bytes_cmp V) (bytes : List ℕ) → ((n : Name) → fin.contains_key each n ≡ (fin.contains_key (fin.empty {X = V} {R = bytes_cmp}) n || is_name_in bytes n)) → Lists (fin.keys each) (λ n. is_name_in bytes n ≡ true)
names_sorted {V = V} each bytes put =
    let same : (n : Name) → has (fin.keys each) n ≡ is_name_in bytes n =
    λ n. sym (fin.contains_key-keys each n) ∙ put n ∙ ap (λ o. is_some o || is_name_in bytes n) (fin.get-empty {X = V} bytes_cmp n) in
    record { rises = keys_rise each; sound = λ n there. sym (same n) ∙ there; complete = λ n is. same n ∙ is }
