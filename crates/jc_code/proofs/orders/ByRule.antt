-- The faults in the order of their rules, from those that were found at single instructions and handlers.
use Rattle.std.proofs.Common.{◌≡◌, ◌∙◌, ℕ, ◌+◌, Bool, true, false, cond, not, ◌&&◌, eqb, List, [], ◌∷◌, ◌++◌, map, filter, refl, ap, sym, append-nil}
use Rattle.std.specs.List.{flat_map}
use Rattle.std.proofs.lemmas.Bool.{false≢true}
use Rattle.std.proofs.lemmas.List.{map-append}
use Rattle.std.proofs.lemmas.List.Elements.{filter-append}
use Rattle.jc_view.specs.Attributes.{Handler}
use Rattle.jc_code.specs.declared.code_fault.CodeFault.{CodeFault}
use Rattle.jc_code.specs.declared.code_fault.CodeRule.{CodeRule}
use Rattle.jc_code.specs.declared.code_fault.CodeRule.TheVariants as rules
use Rattle.jc_code.specs.declared.code_fault.TheConstants.CodeRule.{ALL}
use Rattle.jc_code.specs.declared.insn.Insn.{Insn}
use Rattle.jc_code.specs.declared.insn.Insn.TheVariants as insns
use Rattle.jc_code.specs.CodeFaultOrder.{rule_number}
use Rattle.jc_code.specs.CodeRules.{Scope}
use Rattle.jc_code.specs.CodeFaults.{fault_at, faults_against, handler_breaks, insn_breaks, numbers_of, places_of}
use Rattle.jc_code.proofs.orders.RulePlaces.{no_places}
use Rattle.jc_code.specs.inside.Found.{against, by_rule, faults_at, faults_of_others, handler_faults, has_targets, insn_faults, jumps_of, without_starts}

-- ---- the faults of one instruction or handler against a rule

abbrev same : CodeRule → CodeRule → Bool
same rule other = eqb (rule_number other) (rule_number rule)

none_either_way : (b : Bool) → cond {A = List CodeFault} b [] [] ≡ []
none_either_way true = refl
none_either_way false = refl

module _ (breaks : CodeRule → Bool) (place : ℕ) (rule : CodeRule) where
  of_one : (b : Bool) (r : CodeRule) → against rule (cond b (fault_at r place ∷ []) []) ≡ cond (same rule r) (cond b (fault_at r place ∷ []) []) []
  of_one true r = refl
  of_one false r = sym (none_either_way (same rule r))

  of_all : (rs : List CodeRule) → against rule (flat_map (λ r. cond (breaks r) (fault_at r place ∷ []) []) rs) ≡ flat_map (λ r. cond (same rule r) (cond (breaks r) (fault_at r place ∷ []) []) []) rs
  of_all [] = refl
  of_all (r ∷ rs) =
      filter-append (λ f. same rule f.rule) (cond (breaks r) (fault_at r place ∷ []) []) (flat_map (λ q. cond (breaks q) (fault_at q place ∷ []) []) rs)
      ∙ ap (λ l. l ++ against rule (flat_map (λ q. cond (breaks q) (fault_at q place ∷ []) []) rs)) (of_one (breaks r) r)
      ∙ ap (λ l. cond (same rule r) (cond (breaks r) (fault_at r place ∷ []) []) [] ++ l) (of_all rs)

-- among all rules each is once
alone : (breaks : CodeRule → Bool) (place : ℕ) (rule : CodeRule) → flat_map (λ r. cond (same rule r) (cond (breaks r) (fault_at r place ∷ []) []) []) ALL ≡ cond (breaks rule) (fault_at rule place ∷ []) []
alone breaks place rules.S1 = append-nil _
alone breaks place rule = append-nil _

against_at : (breaks : CodeRule → Bool) (place : ℕ) (rule : CodeRule) → against rule (faults_at breaks place) ≡ cond (breaks rule) (fault_at rule place ∷ []) []
against_at breaks place rule = of_all breaks place rule ALL ∙ alone breaks place rule

-- ---- of all instructions and handlers

placed_first : (rule : CodeRule) (b : Bool) (item : ℕ × Insn) (items : List (ℕ × Insn)) → cond b (fault_at rule item.0 ∷ []) [] ++ map (fault_at rule) (map (λ i. i.0) items) ≡ map (fault_at rule) (map (λ i. i.0) (cond b (item ∷ items) items))
placed_first rule true item items = refl
placed_first rule false item items = refl

-- with these faults of each
module _ (faults : ℕ × Insn → List CodeFault) (test : Insn → Bool) (rule : CodeRule) (each : (item : ℕ × Insn) → against rule (faults item) ≡ cond (test item.1) (fault_at rule item.0 ∷ []) []) where
  against_items : (items : List (ℕ × Insn)) → against rule (flat_map faults items) ≡ map (fault_at rule) (places_of test items)
  against_items [] = refl
  against_items (item ∷ items) =
      filter-append (λ f. same rule f.rule) (faults item) (flat_map faults items)
      ∙ ap (λ l. l ++ against rule (flat_map faults items)) (each item)
      ∙ ap (λ l. cond (test item.1) (fault_at rule item.0 ∷ []) [] ++ l) (against_items items)
      ∙ placed_first rule (test item.1) item (filter (λ i. test i.1) items)

-- the others than those with targets
other : (rule : CodeRule) (s : Scope) (b : Bool) (item : ℕ × Insn) → against rule (cond b [] (insn_faults s item)) ≡ cond (not b && insn_breaks rule s item.1) (fault_at rule item.0 ∷ []) []
other rule s true item = refl
other rule s false item = against_at (λ r. insn_breaks r s item.1) item.0 rule

numbered_first : (rule : CodeRule) (b : Bool) (n : ℕ) (ns : List ℕ) → cond b (fault_at rule n ∷ []) [] ++ map (fault_at rule) ns ≡ map (fault_at rule) (cond b (n ∷ []) [] ++ ns)
numbered_first rule true n ns = refl
numbered_first rule false n ns = refl

against_handlers : (rule : CodeRule) (s : Scope) (n : ℕ) (handlers : List Handler) → against rule (handler_faults s n handlers) ≡ map (fault_at rule) (numbers_of (handler_breaks rule s) n handlers)
against_handlers rule s n [] = refl
against_handlers rule s n (h ∷ handlers) =
    filter-append (λ f. same rule f.rule) (faults_at (λ r. handler_breaks r s h) n) (handler_faults s (n + 1) handlers)
    ∙ ap (λ l. l ++ against rule (handler_faults s (n + 1) handlers)) (against_at (λ r. handler_breaks r s h) n rule)
    ∙ ap (λ l. cond (handler_breaks rule s h) (fault_at rule n ∷ []) [] ++ l) (against_handlers rule s (n + 1) handlers)
    ∙ numbered_first rule (handler_breaks rule s h) n (numbers_of (handler_breaks rule s) (n + 1) handlers)

-- ---- a rule is over instructions with targets alone, or over others alone

abbrev is_of_jumps : CodeRule → Bool
is_of_jumps rules.S2 = true
is_of_jumps rules.S3 = true
is_of_jumps rules.S4 = true
is_of_jumps rules.S5 = true
is_of_jumps rule = false

others_keep : (rule : CodeRule) (s : Scope) (insn : Insn) → is_of_jumps rule ≡ true → has_targets insn ≡ false → insn_breaks rule s insn ≡ false
unfolding insn_breaks
others_keep rules.S2 s (insns.Branch opcode target) e f = absurd (false≢true (sym f))
others_keep rules.S2 s insn e f = refl
others_keep rules.S3 s (insns.Branch opcode target) e f = absurd (false≢true (sym f))
others_keep rules.S3 s insn e f = refl
others_keep rules.S4 s (insns.TableSwitch switch) e f = absurd (false≢true (sym f))
others_keep rules.S4 s (insns.LookupSwitch switch) e f = absurd (false≢true (sym f))
others_keep rules.S4 s insn e f = refl
others_keep rules.S5 s (insns.LookupSwitch switch) e f = absurd (false≢true (sym f))
others_keep rules.S5 s insn e f = refl
others_keep rule s insn e f = absurd (false≢true e)

jumps_keep : (rule : CodeRule) (s : Scope) (insn : Insn) → is_of_jumps rule ≡ false → has_targets insn ≡ true → insn_breaks rule s insn ≡ false
unfolding insn_breaks
jumps_keep rules.S2 s insn e f = absurd (false≢true (sym e))
jumps_keep rules.S3 s insn e f = absurd (false≢true (sym e))
jumps_keep rules.S4 s insn e f = absurd (false≢true (sym e))
jumps_keep rules.S5 s insn e f = absurd (false≢true (sym e))
jumps_keep rule s (insns.Branch opcode target) e f = refl
jumps_keep rule s (insns.TableSwitch switch) e f = refl
jumps_keep rule s (insns.LookupSwitch switch) e f = refl
jumps_keep rule s insn e f = absurd (false≢true f)

-- the rules over the others don't ask for starts
alike : (rule : CodeRule) (s : Scope) (insn : Insn) → has_targets insn ≡ false → insn_breaks rule (without_starts s) insn ≡ insn_breaks rule s insn
unfolding insn_breaks
alike rule s (insns.Branch opcode target) f = absurd (false≢true (sym f))
alike rule s (insns.TableSwitch switch) f = absurd (false≢true (sym f))
alike rule s (insns.LookupSwitch switch) f = absurd (false≢true (sym f))
alike rules.S1 s insn f = refl
alike rule s insn f = refl

module _ (rule : CodeRule) (s : Scope) where
  -- of the others alone, before a start is known
  abbrev of_other : Insn → Bool
  of_other insn = not (has_targets insn) && insn_breaks rule (without_starts s) insn

  never : is_of_jumps rule ≡ true → (insn : Insn) → of_other insn ≡ false
  never e insn = decide (has_targets insn) refl
    where
      decide : (b : Bool) → has_targets insn ≡ b → not b && insn_breaks rule (without_starts s) insn ≡ false
      decide true f = refl
      decide false f = others_keep rule (without_starts s) insn e f

  as_ever : is_of_jumps rule ≡ false → (insn : Insn) → of_other insn ≡ insn_breaks rule s insn
  as_ever e insn = decide (has_targets insn) refl
    where
      decide : (b : Bool) → has_targets insn ≡ b → not b && insn_breaks rule (without_starts s) insn ≡ insn_breaks rule s insn
      decide true f = sym (jumps_keep rule s insn e f)
      decide false f = alike rule s insn f

-- ---- both together are all

first_place : (b : Bool) (item : ℕ × Insn) (items : List (ℕ × Insn)) → map (λ i. i.0) (cond b (item ∷ items) items) ≡ cond b (item.0 ∷ []) [] ++ map (λ i. i.0) items
first_place true item items = refl
first_place false item items = refl

places_alike : (a t : Insn → Bool) → ((insn : Insn) → a insn ≡ t insn) → (items : List (ℕ × Insn)) → places_of a items ≡ places_of t items
places_alike a t e [] = refl
places_alike a t e (item ∷ items) =
    first_place (a item.1) item (filter (λ i. a i.1) items)
    ∙ ap (λ b. cond b (item.0 ∷ []) [] ++ places_of a items) (e item.1)
    ∙ ap (λ ns. cond (t item.1) (item.0 ∷ []) [] ++ ns) (places_alike a t e items)
    ∙ sym (first_place (t item.1) item (filter (λ i. t i.1) items))

module _ (t : Insn → Bool) (item : ℕ × Insn) (items : List (ℕ × Insn)) where
  one_of_jumps : (b : Bool) → (b ≡ false → t item.1 ≡ false) → places_of t (jumps_of items) ≡ places_of t items → places_of t (cond b (item ∷ jumps_of items) (jumps_of items)) ≡ places_of t (item ∷ items)
  one_of_jumps true none so_far =
      first_place (t item.1) item (filter (λ i. t i.1) (jumps_of items))
      ∙ ap (λ ns. cond (t item.1) (item.0 ∷ []) [] ++ ns) so_far
      ∙ sym (first_place (t item.1) item (filter (λ i. t i.1) items))
  one_of_jumps false none so_far =
      so_far
      ∙ ap (λ b. cond b (item.0 ∷ []) [] ++ places_of t items) (sym (none refl))
      ∙ sym (first_place (t item.1) item (filter (λ i. t i.1) items))

  none_of_jumps : (b : Bool) → (b ≡ true → t item.1 ≡ false) → places_of t (jumps_of items) ≡ [] → places_of t (cond b (item ∷ jumps_of items) (jumps_of items)) ≡ []
  none_of_jumps true none so_far =
      first_place (t item.1) item (filter (λ i. t i.1) (jumps_of items))
      ∙ ap (λ b. cond b (item.0 ∷ []) [] ++ places_of t (jumps_of items)) (none refl)
      ∙ so_far
  none_of_jumps false none so_far = so_far

places_of_jumps : (t : Insn → Bool) → ((insn : Insn) → has_targets insn ≡ false → t insn ≡ false) → (items : List (ℕ × Insn)) → places_of t (jumps_of items) ≡ places_of t items
places_of_jumps t none [] = refl
places_of_jumps t none (item ∷ items) = one_of_jumps t item items (has_targets item.1) (none item.1) (places_of_jumps t none items)

no_place_of_jumps : (t : Insn → Bool) → ((insn : Insn) → has_targets insn ≡ true → t insn ≡ false) → (items : List (ℕ × Insn)) → places_of t (jumps_of items) ≡ []
no_place_of_jumps t none [] = refl
no_place_of_jumps t none (item ∷ items) = none_of_jumps t item items (has_targets item.1) (none item.1) (no_place_of_jumps t none items)

split : (rule : CodeRule) (s : Scope) (items : List (ℕ × Insn)) → places_of (of_other rule s) items ++ places_of (insn_breaks rule s) (jumps_of items) ≡ places_of (insn_breaks rule s) items
split rule s items = decide (is_of_jumps rule) refl
  where
    decide : (b : Bool) → is_of_jumps rule ≡ b → places_of (of_other rule s) items ++ places_of (insn_breaks rule s) (jumps_of items) ≡ places_of (insn_breaks rule s) items
    decide true e =
        ap (λ ns. ns ++ places_of (insn_breaks rule s) (jumps_of items)) (no_places (of_other rule s) items (never rule s e))
        ∙ places_of_jumps (insn_breaks rule s) (λ insn f. others_keep rule s insn e f) items
    decide false e =
        ap (λ ns. ns ++ places_of (insn_breaks rule s) (jumps_of items)) (places_alike (of_other rule s) (insn_breaks rule s) (as_ever rule s e) items)
        ∙ ap (λ ns. places_of (insn_breaks rule s) items ++ ns) (no_place_of_jumps (insn_breaks rule s) (λ insn f. jumps_keep rule s insn e f) items)
        ∙ append-nil (places_of (insn_breaks rule s) items)

flat_map_alike : {X A : Type 0} (f g : X → List A) → ((x : X) → f x ≡ g x) → (xs : List X) → flat_map f xs ≡ flat_map g xs
flat_map_alike f g e [] = refl
flat_map_alike f g e (x ∷ xs) = ap (λ l. l ++ flat_map f xs) (e x) ∙ ap (λ l. g x ++ l) (flat_map_alike f g e xs)

-- what was found at the others, at those with targets and at the handlers, in the order of the rules
module _ (s : Scope) (items : List (ℕ × Insn)) (handlers : List Handler) where
  abbrev pub all_found : List CodeFault
  all_found = faults_of_others (without_starts s) items ++ flat_map (insn_faults s) (jumps_of items) ++ handler_faults s 0 handlers

  listed_against : (rule : CodeRule) → against rule all_found ≡ faults_against s items handlers rule
  listed_against rule =
      let others = faults_of_others (without_starts s) items in
      let jumps = flat_map (insn_faults s) (jumps_of items) in
      let numbers = numbers_of (handler_breaks rule s) 0 handlers in
      filter-append (λ f. same rule f.rule) (others ++ jumps) (handler_faults s 0 handlers)
      ∙ ap (λ l. l ++ against rule (handler_faults s 0 handlers)) (filter-append (λ f. same rule f.rule) others jumps)
      ∙ ap (λ l. (against rule others ++ against rule jumps) ++ l) (against_handlers rule s 0 handlers)
      ∙ ap (λ l. (l ++ against rule jumps) ++ map (fault_at rule) numbers)
      (against_items (λ item. cond (has_targets item.1) [] (insn_faults (without_starts s) item)) (of_other rule s) rule (λ item. other rule (without_starts s) (has_targets item.1) item) items)
      ∙ ap (λ l. (map (fault_at rule) (places_of (of_other rule s) items) ++ l) ++ map (fault_at rule) numbers)
      (against_items (insn_faults s) (insn_breaks rule s) rule (λ item. against_at (λ r. insn_breaks r s item.1) item.0 rule) (jumps_of items))
      ∙ ap (λ l. l ++ map (fault_at rule) numbers) (sym (map-append (fault_at rule) (places_of (of_other rule s) items) (places_of (insn_breaks rule s) (jumps_of items))))
      ∙ ap (λ ns. map (fault_at rule) ns ++ map (fault_at rule) numbers) (split rule s items)
      ∙ sym (map-append (fault_at rule) (places_of (insn_breaks rule s) items) numbers)

  pub listed_by_rule : by_rule all_found ≡ flat_map (faults_against s items handlers) ALL
  listed_by_rule = flat_map_alike (λ rule. against rule all_found) (faults_against s items handlers) listed_against ALL
