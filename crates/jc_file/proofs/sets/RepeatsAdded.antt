-- The places of faults against one rule.
use Rattle.std.proofs.Common.{◌≡◌, ◌∙◌, ℕ, Bool, true, false, cond, List, [], ◌∷◌, filter, map, refl, ap}
use Rattle.jc_file.specs.declared.fault.Fault.{Fault}
use Rattle.jc_file.specs.declared.fault.FormatRule.{FormatRule}
use Rattle.jc_file.specs.Faults.{fault_at}
use Rattle.jc_file.specs.inside.RuleSets.{same_rule}

abbrev pub places_against : FormatRule → List Fault → List ℕ
places_against rule faults = map (λ fault. fault.place) (filter (λ fault. same_rule fault.rule rule) faults)

by_rule : (r rule : FormatRule) (ns : List ℕ) (b : Bool) → same_rule r rule ≡ b → places_against rule (map (fault_at r) ns) ≡ cond b ns []
by_rule r rule [] true e = refl
by_rule r rule [] false e = refl
by_rule r rule (n ∷ ns) true e =
    ap (λ b. map (λ (fault : Fault). fault.place) (cond b (fault_at r n ∷ filter (λ fault. same_rule fault.rule rule) (map (fault_at r) ns)) (filter (λ fault. same_rule fault.rule rule) (map (fault_at r) ns)))) e
    ∙ ap (λ l. n ∷ l) (by_rule r rule ns true e)
by_rule r rule (n ∷ ns) false e =
    ap (λ b. map (λ (fault : Fault). fault.place) (cond b (fault_at r n ∷ filter (λ fault. same_rule fault.rule rule) (map (fault_at r) ns)) (filter (λ fault. same_rule fault.rule rule) (map (fault_at r) ns)))) e
    ∙ by_rule r rule ns false e

-- those of the rule's own faults, and none against others
pub places_of : (r rule : FormatRule) (ns : List ℕ) (faults : List Fault) → faults ≡ map (fault_at r) ns → places_against rule faults ≡ cond (same_rule r rule) ns []
places_of r rule ns faults is = ap (places_against rule) is ∙ by_rule r rule ns (same_rule r rule) refl
