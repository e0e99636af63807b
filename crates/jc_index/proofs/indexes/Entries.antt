-- The entry that stands at a place of an index.
use Rattle.std.proofs.Common.{◌≡◌, ℕ, List, Option, Some, None, IfSome, slice_get, refl, sym, ap, ◌∙◌}
use Rattle.std.proofs.lemmas.Option.{get_or_from_slice_get, slice_get-map, slice_get_within}
use Rattle.std.specs.Borrow.{Bor}
use Rattle.std.specs.FinMap as fin
use Rattle.std.specs.Map.Iter.{deref_pair}
use Rattle.std.specs.Option.{option_map}
use Rattle.jc_base.proofs.maps.FiniteMaps.{get_from_entry}
use Rattle.jc_classes.specs.Names.{Name}
use Rattle.jc_index.specs.Indexes.{UserLists}

-- a name with its users, as it is lent
abbrev Entry : Type 0
Entry = Bor Name × Bor (List Name)

first_of_pair : (entry : Option Entry) → option_map (λ (e : Entry). e.0.now) entry ≡ option_map (λ (e : Name × List Name). e.0) (option_map deref_pair entry)
first_of_pair None = refl
first_of_pair (Some e) = refl

pub entry_name : (lists : UserLists) (place : ℕ) (entry : Option Entry) → option_map deref_pair entry ≡ slice_get (fin.entries lists) place
    → option_map (λ (e : Entry). e.0.now) entry ≡ slice_get (fin.keys lists) place
entry_name lists place entry is =
    first_of_pair entry ∙ ap (option_map (λ (e : Name × List Name). e.0)) is
    ∙ sym (slice_get-map (λ (e : Name × List Name). e.0) (fin.entries lists) place)

pub entry_list : (lists : UserLists) (place : ℕ) (entry : Option Entry) → option_map deref_pair entry ≡ slice_get (fin.entries lists) place
    → IfSome entry (λ e. fin.get lists e.0.now ≡ Some e.1.now)
entry_list lists place None is = tt
entry_list lists place (Some e) is =
    let there = sym is in
    get_from_entry lists e.0.now e.1.now (
      place,
      slice_get_within (fin.entries lists) place (deref_pair e) there,
      get_or_from_slice_get (fin.entries lists) place (deref_pair e) (deref_pair e) there,
    )
