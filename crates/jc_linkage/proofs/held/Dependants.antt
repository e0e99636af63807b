-- The classes that depend on a name.
use Rattle.std.proofs.Common.{◌≡◌, ◌∙◌, true, List, sym, ap, subst}
use Rattle.std.specs.FinMap as fin
use Rattle.std.specs.List.Sorted.{IsStrictlySortedBy}
use Rattle.jc_classes.specs.NameLists.{has, Lists}
use Rattle.jc_classes.specs.Names.{Name, name_cmp}
use Rattle.jc_classes.specs.Parts.{Reach}
use Rattle.jc_index.specs.Indexes.{users_of}
use Rattle.jc_linkage.specs.Linkages.{Linkage, given, world_held}
use Rattle.jc_linkage.specs.declared.dependants.Dependants.{Dependants}
use Rattle.jc_linkage.specs.inside.Holding.{IsHeld}
use Rattle.jc_linkage.specs.inside.Kept.{KeptMap, names_kept}
use Rattle.jc_linkage.specs.inside.Kept.Relation.{Reaches}
use Rattle.jc_linkage.proofs.held.Places.{kept_by, some_by}

pub are_dependants : (a : Linkage) (kept : KeptMap) (dependants : Dependants) → IsHeld a.classes a.prefixes kept dependants → (n : Name) (users : List Name)
    → users ≡ users_of dependants.reach n → IsStrictlySortedBy name_cmp (users_of dependants.reach n) → Lists users (λ d. (given a d ≡ true) × Reach (world_held a) d n)
are_dependants a kept dependants held n users is rises = record {
  rises = subst (IsStrictlySortedBy name_cmp) (sym is) rises;
  sound = λ d e.
      let found = kept_by Reaches (fin.get kept d) n (sym (held.linked Reaches n d) ∙ ap (λ xs. has xs d) (sym is) ∙ e) in
      (held.parts.only d found.0 found.1, (held.parts.sound d found.0 found.1).reach.sound n found.2);
  complete = λ d given_and_reaches.
      let found = some_by (fin.get kept d) (held.parts.complete d given_and_reaches.0) in
      ap (λ xs. has xs d) is ∙ held.linked Reaches n d ∙ ap (λ o. has (names_kept Reaches o) n) found.1
      ∙ (held.parts.sound d found.0 found.1).reach.complete n given_and_reaches.1;
}
