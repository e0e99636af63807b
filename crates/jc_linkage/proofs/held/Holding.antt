-- A linkage holds what its fields hold, and at first nothing.
use Rattle.std.proofs.Common.{◌≡◌, ◌∙◌, false, List, Some, None, is_some, sym, ap, subst}
use Rattle.std.proofs.lemmas.Bool.{false≢true}
use Rattle.std.specs.FinMap as fin
use Rattle.jc_classes.specs.NameLists.{has}
use Rattle.jc_classes.specs.Names.{Name, name_cmp}
use Rattle.jc_link.specs.Tables.{Places, class_at, placed}
use Rattle.jc_linkage.specs.Linkages.{Linkage}
use Rattle.jc_linkage.specs.declared.dependants.Dependants.{Dependants}
use Rattle.jc_linkage.specs.inside.Holding.{AreNamed, IsHeld}
use Rattle.jc_linkage.specs.inside.Kept.{KeptMap, Relation, linked, names_kept}
use Rattle.jc_linkage.specs.inside.Stepping.{NoneVacant}

module _ (a : Linkage) (places : Places) (prefixes : List Name) (is : record { classes = places; prefixes = prefixes } ≡ a) where
  pub held_of : (kept : KeptMap) (dependants : Dependants) → IsHeld places prefixes kept dependants → IsHeld a.classes a.prefixes kept dependants
  held_of kept dependants h = subst (λ (b : Linkage). IsHeld b.classes b.prefixes kept dependants) is h

  pub named_of : AreNamed places → AreNamed a.classes
  named_of h = subst (λ (b : Linkage). AreNamed b.classes) is h

-- ---- nothing

none_some : {X A : Type 0} {x : X} → None ≡ Some x → A
none_some e = absurd cc

module _ (places : Places) (prefixes : List Name) (kept : KeptMap) (dependants : Dependants) (no_place : places ≡ fin.empty) (none_kept : kept ≡ fin.empty) where
  no_class : (d : Name) → class_at places d ≡ None
  no_class d = ap (λ m. class_at m d) no_place ∙ ap placed (fin.get-empty name_cmp d)

  nothing_kept : (d : Name) → fin.get kept d ≡ None
  nothing_kept d = ap (λ m. fin.get m d) none_kept ∙ fin.get-empty name_cmp d

  pub nothing_held : ((r : Relation) (n d : Name) → linked r dependants n d ≡ false) → IsHeld places prefixes kept dependants
  nothing_held no_link = record {
    parts = record {
      only = λ d k e. none_some (sym (nothing_kept d) ∙ e);
      sound = λ d k e. none_some (sym (nothing_kept d) ∙ e);
      complete = λ d e. absurd (false≢true (sym (ap is_some (no_class d)) ∙ e));
    };
    linked = λ r n d. no_link r n d ∙ sym (ap (λ o. has (names_kept r o) n) (nothing_kept d));
  }

  pub nothing_named : AreNamed places
  nothing_named = λ name facts e. none_some (sym (no_class name) ∙ e)

-- no place is there
pub nothing_vacant : (places : Places) → places ≡ fin.empty → NoneVacant places
nothing_vacant places none = λ n v there. absurd (false≢true (sym (ap is_some (ap (λ m. fin.get m n) none ∙ fin.get-empty name_cmp n)) ∙ there))
