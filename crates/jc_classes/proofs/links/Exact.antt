-- The errors of a class's instructions are those of the instructions that do not link, in order.
use Rattle.std.proofs.Common.{◌≡◌, ◌∙◌, ◌⊎◌, inl, inr, ◌↔◌, ℕ, ◌+◌, List, [], ◌∷◌, length, Some, refl, sym, ap, subst, arith}
use Rattle.std.specs.Prelude.{◌==◌, if◌then◌else◌, option_and_then}
use Rattle.std.specs.List.{Contains, slice_get}
use Rattle.std.specs.List.Sorted.{IsStrictlySortedBy}
use Rattle.std.specs.declared.cmp.Ordering.TheVariants.{Less}
use Rattle.jc_base.proofs.Membership.{Has, has_from, from_has}
use Rattle.jc_view.specs.ClassFile.{ClassFile, all_slots}
use Rattle.jc_view.proofs.reading.BigEndian.{then_some}
use Rattle.jc_file.specs.declared.fault.Fault as fault
use Rattle.jc_file.specs.Faults.{faults}
use Rattle.jc_code.specs.declared.method_use.MethodUse.{MethodUse}
use Rattle.jc_code.specs.InsnReading.{insns_of}
use Rattle.jc_code.specs.MethodUses.{uses}
use Rattle.jc_classes.specs.Facts.{Facts, Reference}
use Rattle.jc_classes.specs.FactsOf.{facts_of, faulty_facts, references_in, sound_facts}
use Rattle.jc_classes.specs.LinkErrors.{LinkError, answered, link_at, link_by, link_error, link_of, links_of, method_name, site_of}
use Rattle.jc_classes.specs.LinkLaws.{DoesNotLink, link_cmp}
use Rattle.jc_classes.specs.Names.{Name}
use Rattle.jc_classes.specs.Resolution.{Answer}
use Rattle.jc_classes.specs.Worlds.{Stands as stands}
use Rattle.jc_classes.proofs.links.InOrder.{some_is, not_empty, has_picked, picked_has, sorted-picked, same_order}
use Rattle.jc_classes.proofs.links.Uses.{IsUseOf, use_of, has_use, uses_sorted}
use Rattle.jc_classes.specs.FactsOrder.{use_cmp}
use Rattle.jc_classes.proofs.links.Answered.{references_rise, answered_is, is_answered}
use Rattle.jc_classes.proofs.links.Methods.{has_name, method_is_named}

-- ---- the error at one instruction

-- an instruction has the error, by its reference and the answer to that
pub record IsLinkOf (d : Name) (f : Facts) (answers : List Answer) (u : MethodUse) (l : LinkError) : Type 0 where
  pub reference : Reference
  pub answer : Answer
  pub found : answered u.index f.references answers ≡ Some (reference, answer)
  pub judged : link_error (site_of d f u reference) u.kind answer ≡ Some (l.error, l.class)
  pub method : l.method ≡ u.method
  pub place : l.place ≡ u.place

module _ (d : Name) (f : Facts) (answers : List Answer) (u : MethodUse) (l : LinkError) where
  link_is : link_of d f answers u ≡ Some l → IsLinkOf d f answers u l
  link_is e =
      let r = then_some (answered u.index f.references answers) (link_by d f u) l e in
      let found = then_some (link_error (site_of d f u r.0.0) u.kind r.0.1) (λ fault. Some (link_at u fault)) l r.2 in
      let same : link_at u found.0 ≡ l = some_is found.2 in
      record {
        reference = r.0.0;
        answer = r.0.1;
        found = r.1;
        judged = found.1 ∙ ap (λ (k : LinkError). Some (k.error, k.class)) same;
        method = sym (ap (λ (k : LinkError). k.method) same);
        place = sym (ap (λ (k : LinkError). k.place) same);
      }

  is_link : IsLinkOf d f answers u l → link_of d f answers u ≡ Some l
  is_link h =
      ap (option_and_then (link_by d f u)) h.found
      ∙ ap (option_and_then (λ fault. Some (link_at u fault))) h.judged
      ∙ ap (λ n. Some (record { method = n; place = u.place; error = l.error; class = l.class })) (sym h.method)
      ∙ ap (λ n. Some (record { method = l.method; place = n; error = l.error; class = l.class })) (sym h.place)

-- ---- of a class without a format fault

module _ (path : List ℕ) (c : ClassFile) (d : Name) (answers : List Answer) where
  abbrev sound : Facts
  sound = sound_facts path c

  module _ (l : LinkError) (none : faults c ≡ []) where
    link_listed : Contains (links_of d (stands.Class sound) answers) l → DoesNotLink d c answers l
    unfolding uses
    link_listed h =
        let at = has_picked (link_of d sound answers) (uses c) l (has_from (links_of d (stands.Class sound) answers) l h) in
        let u = at.0 in
        let is = link_is d sound answers u l at.2 in
        let told = use_of c 0 c.methods u at.1 in
        let is_use = told.told in
        let number : told.n ≡ l.method = omega (arith, told.numbered, is.method) in
        let got : slice_get c.methods l.method ≡ Some told.method = subst (λ n. slice_get c.methods n ≡ Some told.method) number told.got in
        let name = has_name c none l.method told.method got in
        let named : method_name sound u.method ≡ name.0 =
        ap (method_name sound) (sym is.method) ∙ method_is_named c none path l.method told.method name.0 got name.1 in
        let found = answered_is u.index (references_in c) answers is.reference is.answer is.found in
        record {
          no_format_fault = none;
          method = told.method;
          has_method = got;
          name = name.0;
          has_name = name.1;
          code = is_use.code;
          has_code = is_use.coded;
          no_code_fault = is_use.clean;
          insn = is_use.insn;
          has_insn = from_has (insns_of is_use.code.code) (l.place, is_use.insn) (subst (λ n. Has (insns_of is_use.code.code) (n, is_use.insn)) (sym is.place) is_use.placed);
          kind = u.kind;
          reference = is.reference;
          has_reference = is_use.does ∙ ap (λ n. Some (u.kind, n)) (sym found.1);
          answer = is.answer;
          has_answer = found.0;
          has_fault =
              ap (λ n. link_error (record { class = d; method = n; named = is.reference.named }) u.kind is.answer) (sym named) ∙ is.judged;
        }

    listed_link : DoesNotLink d c answers l → Contains (links_of d (stands.Class sound) answers) l
    unfolding uses
    listed_link h =
        let u : MethodUse = record { method = l.method; place = l.place; kind = h.kind; index = h.reference.index } in
        let is_use : IsUseOf c h.method u = record {
          code = h.code;
          coded = h.has_code;
          clean = h.no_code_fault;
          insn = h.insn;
          placed = has_from (insns_of h.code.code) (l.place, h.insn) h.has_insn;
          does = h.has_reference;
        } in
        let there : Has (uses c) u = has_use c 0 c.methods u l.method h.method h.has_method (omega arith) is_use in
        let answer = h.has_answer in
        let named = method_is_named c none path l.method h.method h.name h.has_method h.has_name in
        let is : IsLinkOf d sound answers u l = record {
          reference = h.reference;
          answer = h.answer;
          found = is_answered h.reference.index 1 (1 + all_slots c.constants) (references_in c) answers h.reference h.answer answer.0 (references_rise c) answer.1 answer.2 refl;
          judged = ap (λ n. link_error (record { class = d; method = n; named = h.reference.named }) h.kind h.answer) named ∙ h.has_fault;
          method = refl;
          place = refl;
        } in
        from_has (links_of d (stands.Class sound) answers) l (picked_has (link_of d sound answers) (uses c) u l there (is_link d sound answers u l is))

-- ---- of every class

sound_or_faulty : (path : List ℕ) (c : ClassFile) → (faults c ≡ []) × (facts_of path c ≡ sound_facts path c) ⊎ (faults c ≡ [] → ⊥) × (facts_of path c ≡ faulty_facts path c)
sound_or_faulty path c = by (faults c) refl
  where
    by : (fs : List fault.Fault) → faults c ≡ fs → (faults c ≡ []) × (facts_of path c ≡ sound_facts path c) ⊎ (faults c ≡ [] → ⊥) × (facts_of path c ≡ faulty_facts path c)
    by [] e = inl (e, ap (λ (fs : List fault.Fault). if length fs == 0 then sound_facts path c else faulty_facts path c) e)
    by (f ∷ fs) e = inr (
      λ none. some (sym e ∙ none),
      ap (λ (fs : List fault.Fault). if length fs == 0 then sound_facts path c else faulty_facts path c) e ∙ ap (λ b. if b then sound_facts path c else faulty_facts path c) (not_empty f fs),
    )
      where
        some : f ∷ fs ≡ [] → ⊥
        some same = cc

nothing : {X : Type 0} (x : X) → Contains [] x → ⊥
nothing x h = let lt = h.1 in omega arith

pub links_exact : (path : List ℕ) (c : ClassFile) (d : Name) (answers : List Answer) (l : LinkError) → Contains (links_of d (stands.Class (facts_of path c)) answers) l ↔ DoesNotLink d c answers l
links_exact path c d answers l =
    elim (sound_or_faulty path c) [
      | inl (none, is) ↦ (
        λ h. link_listed path c d answers l none (subst (λ f. Contains (links_of d (stands.Class f) answers) l) is h),
        λ h. subst (λ f. Contains (links_of d (stands.Class f) answers) l) (sym is) (listed_link path c d answers l none h),
      )
      | inr (some, is) ↦ (
        λ h. absurd (nothing l (subst (λ f. Contains (links_of d (stands.Class f) answers) l) is h)),
        λ h. absurd (some h.no_format_fault),
      )
    ]

-- ---- in order

links_less : (d : Name) (f : Facts) (answers : List Answer) (a b : MethodUse) (y z : LinkError) → link_of d f answers a ≡ Some y → link_of d f answers b ≡ Some z → use_cmp a b ≡ Less → link_cmp y z ≡ Less
links_less d f answers a b y z e g lt =
    let p = link_is d f answers a y e in
    let q = link_is d f answers b z g in
    same_order p.method q.method p.place q.place ∙ lt

none_sorted : IsStrictlySortedBy link_cmp []
unfolding IsStrictlySortedBy
none_sorted = tt

pub links_sorted : (path : List ℕ) (c : ClassFile) (d : Name) (answers : List Answer) → IsStrictlySortedBy link_cmp (links_of d (stands.Class (facts_of path c)) answers)
links_sorted path c d answers =
    elim (sound_or_faulty path c) [
      | inl (none, is) ↦
          subst (λ f. IsStrictlySortedBy link_cmp (links_of d (stands.Class f) answers)) (sym is)
          (sorted-picked use_cmp link_cmp (link_of d (sound_facts path c) answers) (links_less d (sound_facts path c) answers) (uses c) (uses_sorted c))
      | inr (some, is) ↦ subst (λ f. IsStrictlySortedBy link_cmp (links_of d (stands.Class f) answers)) (sym is) none_sorted
    ]
