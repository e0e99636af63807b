use Rattle.std.proofs.Common.{◌≡◌, List, sym, subst}
use Rattle.std.proofs.lemmas.Result.{IfOk-weaker}
use Rattle.std.specs.List.{Contains}
use Rattle.jc_file.specs.declared.fault.Fault.{Fault}
use Rattle.jc_view.specs.ClassFile.{layout}
use Rattle.jc_view.specs.Outcome.{AreBytes}
use Rattle.jc_file.specs.Faults.{faults}
use Rattle.jc_file.specs.Violations.{Violates}
use Rattle.jc_file.proofs.faults.format_faults.Goals as goal

are_bytes : (c : goal.After-find_faults) → AreBytes (layout c.args.class.now)
are_bytes c = subst AreBytes (sym c.bytes-file.ensures.layout.bytes) c.bytes-file.ensures.numbers

violated : (c : goal.After-find_faults) (items : List Fault) → items ≡ faults c.args.class.now → (fault : Fault)
    → (Contains items fault → Violates fault.rule c.args.class.now fault.place) × (Violates fault.rule c.args.class.now fault.place → Contains items fault)
violated c items e fault =
    let class = c.args.class.now in
    let exact = c.faults_are_exact.ensures.exact class fault in
    let means = c.faults_are_violations.ensures class fault.rule fault.place (are_bytes c) in (
      λ h. means.0 (exact.0 (subst (λ (l : List Fault). Contains l fault) e h)),
      λ v. subst (λ (l : List Fault). Contains l fault) (sym e) (exact.1 (means.1 v)),
    )

pub returns-clause-violated : goal.returns-clause-violated
returns-clause-violated c = IfOk-weaker c.find_faults.result _ _ (λ found e. violated c found.items e) c.find_faults.ensures
