use Rattle.std.proofs.Common.{◌≡◌, ◌∙◌, List, [], ◌++◌, length, inl, inr, ap, sym}
use Rattle.std.specs.List.{flat_map}
use Rattle.std.proofs.lemmas.Bool.{cases_lt}
use Rattle.std.proofs.lemmas.Result.{IfOk-weaker}
use Rattle.jc_code.specs.CodeFaults.{scope_with}
use Rattle.jc_code.specs.CodeRules.{Scope}
use Rattle.jc_code.specs.declared.code_fault.CodeFault.{CodeFault}
use Rattle.jc_code.specs.inside.Found.{by_rule, faults_of_others, handler_faults, insn_faults, without_starts}
use Rattle.jc_code.proofs.faults.list_passed.Goals as goal
use Rattle.jc_code.proofs.orders.ByRule.{all_found, listed_by_rule}
use Rattle.jc_code.proofs.orders.FaultsOfCode.{listed_cut, listed_whole}

pub returns : goal.returns
returns c =
    let k = c.args.code.now.code in
    let pass = c.requires in
    let items = pass.items in
    let s : Scope = c.scope_with-scope.result in
    let is : s ≡ scope_with c.args.sizes.now k c.args.pass.starts = c.scope_with-scope.ensures in
    let found : List CodeFault = c.args.pass.found.items ++ flat_map (insn_faults s) c.deref.result.now ++ handler_faults s 0 k.handlers in
    let bare : scope_with c.args.sizes.now k [] ≡ without_starts s = sym (ap without_starts is) in
    let all : found ≡ all_found s items k.handlers =
    ap (λ fs. fs ++ flat_map (insn_faults s) c.deref.result.now ++ handler_faults s 0 k.handlers) (pass.are_faults ∙ ap (λ z. faults_of_others z items) bare)
    ∙ ap (λ js. faults_of_others (without_starts s) items ++ flat_map (insn_faults s) js ++ handler_faults s 0 k.handlers) (c.deref.ensures.value ∙ pass.are_jumps) in
    elim (cases_lt c.args.pass.end (length k.code)) [
      | inl short ↦ IfOk-weaker c.list_all.result _ _ (λ faults e. listed_cut c.args.sizes.now k items c.args.pass.end pass.is_code faults.items short (e short)) c.list_all.ensures.cut
      | inr long ↦
          IfOk-weaker c.list_all.result _ _
          (λ faults e.
          listed_whole c.args.sizes.now k items c.args.pass.end pass.is_code s faults.items long (ap (λ z. z.class) is) (ap (λ z. z.max_locals) is) (ap (λ z. z.size) is) (ap (λ z. z.starts) is ∙ pass.are_starts)
          (e long ∙ ap by_rule all ∙ listed_by_rule s items k.handlers))
          c.list_all.ensures.whole
    ]
