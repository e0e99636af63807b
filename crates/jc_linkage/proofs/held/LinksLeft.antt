-- The links of a class that goes.
use Rattle.std.proofs.Common.{◌≡◌, Bool, true, false, not, ◌&&◌, ◌||◌, cond, List, None, refl, sym, ap, ◌∙◌, ⊎_elim}
use Rattle.std.proofs.lemmas.Bool.{cases_Bool, false≢true}
use Rattle.std.specs.FinMap as map
use Rattle.jc_classes.specs.NameLists.{has}
use Rattle.jc_classes.specs.Names.{Name}
use Rattle.jc_linkage.specs.declared.class_entry.NewEntry.{NewEntry}
use Rattle.jc_linkage.specs.inside.Kept.{KeptMap, Relation, fresh_has, fresh_names, held_in, names_kept}
use Rattle.jc_linkage.proofs.equations.LinkTests.{gone_over}
use Rattle.jc_linkage.proofs.fresh.FreshLists.{fresh_absent}

held_gone : (gone : Name → Bool) (kept now : KeptMap) → ((d : Name) → map.get now d ≡ cond (gone d) None (map.get kept d))
    → (r : Relation) (d n : Name) → held_in r now d n ≡ cond (gone d) false (held_in r kept d n)
held_gone gone kept now at r d n = ap (λ o. has (names_kept r o) n) (at d) ∙ by (gone d)
  where
    by : (b : Bool) → has (names_kept r (cond b None (map.get kept d))) n ≡ cond b false (held_in r kept d n)
    by true = refl
    by false = refl

-- nothing is fresh of the one that goes
pub links_left : (gone : Name → Bool) (kept now : KeptMap) (fresh : List NewEntry) → ((d : Name) → map.get now d ≡ cond (gone d) None (map.get kept d))
    → ((d : Name) → has (fresh_names fresh) d ≡ true → gone d ≡ false)
    → (r : Relation) (n d : Name) → ((held_in r kept d n || fresh_has r fresh d n) && not (gone d && held_in r kept d n)) ≡ (held_in r now d n || fresh_has r fresh d n)
links_left gone kept now fresh at stays r n d =
    gone_over (held_in r kept d n) (fresh_has r fresh d n) (gone d)
    (λ g. fresh_absent r fresh d n (⊎_elim (λ h. absurd (false≢true (sym (stays d h) ∙ g))) (λ h. h) (cases_Bool (has (fresh_names fresh) d))))
    ∙ ap (λ b. b || fresh_has r fresh d n) (sym (held_gone gone kept now at r d n))
