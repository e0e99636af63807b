-- The faults against a rule, while the places where rules are broken are looked at one after the other.
use Rattle.std.proofs.Common.{◌≡◌, ◌∙◌, Bool, true, false, cond, List, [], ◌∷◌, ◌++◌, filter, map, refl, ap}
use Rattle.std.specs.List.{flat_map}
use Rattle.jc_file.specs.declared.broken.Broken.{Broken}
use Rattle.jc_file.specs.declared.fault.Fault.{Fault}
use Rattle.jc_file.specs.declared.fault.FormatRule.{FormatRule}
use Rattle.jc_file.specs.Faults.{fault_at}
use Rattle.jc_file.specs.inside.Broken.{places_in}
use Rattle.jc_file.specs.inside.RuleSets.{has}

-- the fault at a place, if the rule is broken there
abbrev pub fault_if : FormatRule → Broken → List Fault
fault_if rule at = cond (has at.rules rule) (fault_at rule at.place ∷ []) []

one_more : (rule : FormatRule) (b : Bool) (at : Broken) (rest : List Broken) → cond b (fault_at rule at.place ∷ []) [] ++ map (fault_at rule) (map (λ k. k.place) rest) ≡ map (fault_at rule) (map (λ k. k.place) (cond b (at ∷ rest) rest))
one_more rule true at rest = refl
one_more rule false at rest = refl

pub faults_if : (rule : FormatRule) (broken : List Broken) → flat_map (fault_if rule) broken ≡ map (fault_at rule) (places_in rule broken)
faults_if rule [] = refl
faults_if rule (at ∷ broken) = ap (λ v. fault_if rule at ++ v) (faults_if rule broken) ∙ one_more rule (has at.rules rule) at (filter (λ k. has k.rules rule) broken)

-- they are added by the answer of a test
pub added_if : (b test : Bool) (added before after : List Fault) → after ≡ before ++ cond b added [] → b ≡ test → after ≡ before ++ cond test added []
added_if b test added before after more is_test = more ∙ ap (λ t. before ++ cond t added []) is_test
