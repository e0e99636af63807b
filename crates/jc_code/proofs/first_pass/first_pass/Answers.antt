use Rattle.std.proofs.Common.{◌≡◌, ℕ, ◌++◌, ◌∷◌, [], ◌∙◌, ap, cond, sym, subst, refl, true, false, length, map, append-nil, replicate, arith}
use Rattle.jc_code.specs.declared.insn.Insn.{Insn}
use Rattle.jc_code.specs.Insns.{IsCode}
use Rattle.jc_code.specs.inside.Found.{faults_of_others, has_targets, insn_faults, jumps_of}
use Rattle.jc_code.specs.inside.Marks.{marked}
use Rattle.jc_code.proofs.appended.Fronts.{added, begins_through, begins_whole}
use Rattle.jc_code.proofs.marks.Marked.{has_marked, marked_none, marks_long, none_marked, place_within}
use Rattle.jc_code.specs.InsnsLeft.{InsnsLeft}
use Rattle.jc_code.specs.inside.FirstPass.{name_if, named_if, use_if, uses_if}
use Rattle.jc_code.proofs.first_pass.first_pass.Goals as goal

pub loop-place-init : goal.loop-place-init
loop-place-init c =
    let code = c.args.code.now in
    let none : c.in_ok-marks.marks.items ≡ replicate (length code) false = c.in_ok-marks.ensures.items_if_clones_equal (λ y e. e) in
    let no_jumps = c.new-jumps.ensures.items in
    let none_found = c.new-found.ensures.items in
    rw (no_jumps, none_found)
    (record {
      end = refl;
      all = ap (λ starts. starts ++ map (λ item. item.0) c.new-insns.result.left) (marked_none (length code) none);
      marks = none_marked code c.new-insns.result.left c.new-insns.ensures.code none;
      jumps = refl;
      found = refl;
      uses = refl;
      names = refl;
      uses_kept = begins_whole c.args.uses.now.items;
      names_kept = begins_whole c.args.names.now.items;
    })

pub overflow_cast-place-in-Some : goal.overflow_cast-place-in-Some
overflow_cast-place-in-Some c =
    let l = place_within c.args.code.now c.new-insns.result.left _ c.in-Some.place c.in-Some.insn c.next.new.self.left c.new-insns.ensures.code c.in-Some.ensures.steps.1.0 c.loop-place.invariant.marks in
    omega (arith, l, c.requires)

pub index_mut-requires : goal.index_mut-requires
index_mut-requires c =
    let l = place_within c.args.code.now c.new-insns.result.left _ c.in-Some.place c.in-Some.insn c.next.new.self.left c.new-insns.ensures.code c.in-Some.ensures.steps.1.0 c.loop-place.invariant.marks in
    let long = marks_long c.loop-place.invariant.marks in
    omega (arith, l, long)

-- an instruction with targets
pub loop-place-preserved-in-Continue-branch-3 : goal.loop-place-preserved-in-Continue-branch-3
loop-place-preserved-in-Continue-branch-3 c =
    let scope = c.args.scope.now in
    let method = c.args.method in
    let wanted = c.args.are_wanted in
    let item : ℕ × Insn = (c.in-Some.place, c.in-Some.insn) in
    let left = c.next.new.self.left in
    let first = c.in-Some.ensures.steps.1.0 in
    let held = c.loop-place.invariant in
    let more = has_marked c.args.code.now c.new-insns.result.left _ c.in-Some.place c.in-Some.insn left c.new-insns.ensures.code first held.marks refl in
    let is_jump : has_targets c.in-Some.insn ≡ true = sym c.has_targets.ensures ∙ c.if-has_targets.true in
    record {
      end = c.in-Some.ensures.steps.0 ∙ held.end;
      all = added (map (λ item. item.0)) _ _ (c.in-Some.place ∷ []) _ item left _ first refl more.marked_more held.all;
      marks = more.marks;
      jumps = added jumps_of _ _ (item ∷ []) _ item left _ first (ap (λ b. cond b (item ∷ jumps_of left) (jumps_of left)) is_jump) c.in_ok-push.ensures.items held.jumps;
      found = added (faults_of_others scope) _ _ [] _ item left _ first (ap (λ b. cond b [] (insn_faults scope item) ++ faults_of_others scope left) is_jump) (sym (append-nil c.loop-place.found.items)) held.found;
      uses = added (uses_if wanted method) _ _ (use_if wanted method item) _ item left _ first refl c.in_ok-push_if.ensures.uses held.uses;
      names = added (named_if wanted) _ _ (name_if wanted item) _ item left _ first refl c.in_ok-push_if.ensures.names held.names;
      uses_kept = begins_through c.args.uses.now.items c.loop-place.uses.items _ held.uses_kept c.push_if.ensures.uses_kept;
      names_kept = begins_through c.args.names.now.items c.loop-place.names.items _ held.names_kept c.push_if.ensures.names_kept;
    }

-- an instruction without targets
pub loop-place-preserved : goal.loop-place-preserved
loop-place-preserved c =
    let scope = c.args.scope.now in
    let method = c.args.method in
    let wanted = c.args.are_wanted in
    let item : ℕ × Insn = (c.in-Some.place, c.in-Some.insn) in
    let left = c.next.new.self.left in
    let first = c.in-Some.ensures.steps.1.0 in
    let held = c.loop-place.invariant in
    let more = has_marked c.args.code.now c.new-insns.result.left _ c.in-Some.place c.in-Some.insn left c.new-insns.ensures.code first held.marks refl in
    let is_other : has_targets c.in-Some.insn ≡ false = sym c.has_targets.ensures ∙ c.if-has_targets.false in
    record {
      end = c.in-Some.ensures.steps.0 ∙ held.end;
      all = added (map (λ item. item.0)) _ _ (c.in-Some.place ∷ []) _ item left _ first refl more.marked_more held.all;
      marks = more.marks;
      jumps = added jumps_of _ _ [] _ item left _ first (ap (λ b. cond b (item ∷ jumps_of left) (jumps_of left)) is_other) (sym (append-nil c.loop-place.jumps.items)) held.jumps;
      found = added (faults_of_others scope) _ _ (insn_faults scope item) _ item left _ first (ap (λ b. cond b [] (insn_faults scope item) ++ faults_of_others scope left) is_other) c.in_ok-add_insn_faults.ensures held.found;
      uses = added (uses_if wanted method) _ _ (use_if wanted method item) _ item left _ first refl c.in_ok-push_if.ensures.uses held.uses;
      names = added (named_if wanted) _ _ (name_if wanted item) _ item left _ first refl c.in_ok-push_if.ensures.names held.names;
      uses_kept = begins_through c.args.uses.now.items c.loop-place.uses.items _ held.uses_kept c.push_if.ensures.uses_kept;
      names_kept = begins_through c.args.names.now.items c.loop-place.names.items _ held.names_kept c.push_if.ensures.names_kept;
    }

pub returns-clause-found : goal.returns-clause-found
returns-clause-found c =
    let none = c.in_default.ensures.steps.1.0 in
    record {
      items = c.new-insns.result.left;
      is_code = subst (λ end. IsCode c.args.code.now c.new-insns.result.left end) (sym (c.rest.ensures.ended c.in_default.ensures.steps.1.1 ∙ c.in_default.ensures.steps.0 ∙ c.loop-place.invariant.end)) c.new-insns.ensures.code;
      are_starts =
          sym (append-nil (marked c.loop-place.marks.items))
          ∙ ap (λ items. marked c.loop-place.marks.items ++ map (λ item. item.0) items) (sym none)
          ∙ c.loop-place.invariant.all;
      are_jumps =
          sym (append-nil c.loop-place.jumps.items)
          ∙ ap (λ items. c.loop-place.jumps.items ++ jumps_of items) (sym none)
          ∙ c.loop-place.invariant.jumps;
      are_faults =
          sym (append-nil c.loop-place.found.items)
          ∙ ap (λ items. c.loop-place.found.items ++ faults_of_others c.args.scope.now items) (sym none)
          ∙ c.loop-place.invariant.found;
    }

pub returns-clause-uses : goal.returns-clause-uses
returns-clause-uses c =
    let method = c.args.method in
    sym (append-nil c.loop-place.uses.items)
    ∙ ap (λ items. c.loop-place.uses.items ++ uses_if c.args.are_wanted method items) (sym c.in_default.ensures.steps.1.0)
    ∙ c.loop-place.invariant.uses
    ∙ ap (λ (read : InsnsLeft). c.args.uses.now.items ++ uses_if c.args.are_wanted method read.left) c.new-insns.ensures.read

pub returns-clause-names : goal.returns-clause-names
returns-clause-names c =
    sym (append-nil c.loop-place.names.items)
    ∙ ap (λ items. c.loop-place.names.items ++ named_if c.args.are_wanted items) (sym c.in_default.ensures.steps.1.0)
    ∙ c.loop-place.invariant.names
    ∙ ap (λ (read : InsnsLeft). c.args.names.now.items ++ named_if c.args.are_wanted read.left) c.new-insns.ensures.read

pub returns-clause-uses_kept : goal.returns-clause-uses_kept
returns-clause-uses_kept c = c.loop-place.invariant.uses_kept

pub returns-clause-names_kept : goal.returns-clause-names_kept
returns-clause-names_kept c = c.loop-place.invariant.names_kept

-- ---- where memory is refused

pub returns-in_err-marks-clause-uses_kept : goal.returns-in_err-marks-clause-uses_kept
returns-in_err-marks-clause-uses_kept c = begins_whole c.args.uses.now.items

pub returns-in_err-marks-clause-names_kept : goal.returns-in_err-marks-clause-names_kept
returns-in_err-marks-clause-names_kept c = begins_whole c.args.names.now.items

pub returns-in_err-push_if-clause-uses_kept : goal.returns-in_err-push_if-clause-uses_kept
returns-in_err-push_if-clause-uses_kept c = begins_through c.args.uses.now.items c.loop-place.uses.items _ c.loop-place.invariant.uses_kept c.push_if.ensures.uses_kept

pub returns-in_err-push_if-clause-names_kept : goal.returns-in_err-push_if-clause-names_kept
returns-in_err-push_if-clause-names_kept c = begins_through c.args.names.now.items c.loop-place.names.items _ c.loop-place.invariant.names_kept c.push_if.ensures.names_kept

pub returns-in_err-push-clause-uses_kept : goal.returns-in_err-push-clause-uses_kept
returns-in_err-push-clause-uses_kept c = begins_through c.args.uses.now.items c.loop-place.uses.items _ c.loop-place.invariant.uses_kept c.push_if.ensures.uses_kept

pub returns-in_err-push-clause-names_kept : goal.returns-in_err-push-clause-names_kept
returns-in_err-push-clause-names_kept c = begins_through c.args.names.now.items c.loop-place.names.items _ c.loop-place.invariant.names_kept c.push_if.ensures.names_kept

pub returns-in_err-add_insn_faults-clause-uses_kept : goal.returns-in_err-add_insn_faults-clause-uses_kept
returns-in_err-add_insn_faults-clause-uses_kept c = begins_through c.args.uses.now.items c.loop-place.uses.items _ c.loop-place.invariant.uses_kept c.push_if.ensures.uses_kept

pub returns-in_err-add_insn_faults-clause-names_kept : goal.returns-in_err-add_insn_faults-clause-names_kept
returns-in_err-add_insn_faults-clause-names_kept c = begins_through c.args.names.now.items c.loop-place.names.items _ c.loop-place.invariant.names_kept c.push_if.ensures.names_kept
