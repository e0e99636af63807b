-- Without a format fault each method has a name and a descriptor, so the methods kept have the numbers of the file.
use Rattle.std.proofs.Common.{◌≡◌, ◌∙◌, ℕ, zero, suc, true, List, [], ◌∷◌, ◌++◌, Option, Some, None, refl, sym, ap, subst, arith}
use Rattle.std.specs.Prelude.{option_and_then}
use Rattle.std.specs.List.{Contains, flat_map, slice_get}
use Rattle.std.specs.Option.{option_map_or, option_to_list}
use Rattle.jc_view.specs.ClassFile as file
use Rattle.jc_view.specs.ClassFile.{ClassFile}
use Rattle.jc_view.specs.Lookups.{lacks, passes, utf8_at}
use Rattle.jc_base.specs.DescriptorTests.{method_type_of}
use Rattle.jc_base.specs.TextTests.{is_method_name_text}
use Rattle.jc_file.specs.declared.fault.FormatRule.{FormatRule}
use Rattle.jc_file.specs.declared.fault.FormatRule.TheVariants as rules
use Rattle.jc_file.specs.declared.fault.Fault.{Fault}
use Rattle.jc_file.specs.Faults.{fault_at, faults, places}
use Rattle.jc_file.specs.FormatRules.{breaks_f19, breaks_f20, fits_slots}
use Rattle.jc_file.proofs.orders.FaultOrder.{placed_fault}
use Rattle.jc_file.proofs.violations.Decisions.{numbers_decided}
use Rattle.jc_classes.specs.Facts.{Member}
use Rattle.jc_classes.specs.FactsOf.{member_of, sound_facts}
use Rattle.jc_classes.specs.LinkErrors.{method_name}
use Rattle.jc_classes.specs.Names.{Name}
use Rattle.jc_classes.proofs.links.InOrder.{some_is}

-- those that are there, where all are
numbered : {X Y : Type 0} (g : X → Option Y) (xs : List X) → ((n : ℕ) (x : X) → slice_get xs n ≡ Some x → (y : Y) × (g x ≡ Some y)) → (n : ℕ) (x : X) → slice_get xs n ≡ Some x
    → slice_get (flat_map (λ x. option_to_list (g x)) xs) n ≡ g x
numbered g [] each n x e = absurd cc
numbered g (y ∷ ys) each zero x e =
    let first = each 0 y refl in
    ap (λ o. slice_get (option_to_list o ++ flat_map (λ x. option_to_list (g x)) ys) 0) first.1 ∙ sym first.1 ∙ ap g (some_is e)
numbered g (y ∷ ys) each (suc n) x e =
    let first = each 0 y refl in
    ap (λ o. slice_get (option_to_list o ++ flat_map (λ x. option_to_list (g x)) ys) (suc n)) first.1 ∙ numbered g ys (λ k z f. each (suc k) z f) n x e

module _ (c : ClassFile) (sound : faults c ≡ []) where
  none_placed : (rule : FormatRule) (n : ℕ) → Contains (places c rule) n → ⊥
  none_placed rule n h =
      let there = subst (λ (fs : List Fault). Contains fs (fault_at rule n)) sound (placed_fault c (fault_at rule n) h) in
      let lt = there.1 in
      omega arith

  pub has_name : (n : ℕ) (m : file.Member) → slice_get c.methods n ≡ Some m → (name : List ℕ) × (utf8_at c m.name ≡ Some name)
  has_name n m got = by (utf8_at c m.name) refl
    where
      by : (o : Option (List ℕ)) → utf8_at c m.name ≡ o → (name : List ℕ) × (o ≡ Some name)
      by None e = absurd (none_placed rules.F19 n ((numbers_decided {test = breaks_f19 c} {Is = λ m. breaks_f19 c m ≡ true} c.methods (λ x there. (λ b. b, λ b. b)) n).1 (m, got, ap (lacks is_method_name_text) e)))
      by (Some name) e = (name, refl)

  has_descriptor : (n : ℕ) (m : file.Member) → slice_get c.methods n ≡ Some m → (descriptor : List ℕ) × (utf8_at c m.descriptor ≡ Some descriptor)
  has_descriptor n m got = by (utf8_at c m.descriptor) refl
    where
      by : (o : Option (List ℕ)) → utf8_at c m.descriptor ≡ o → (descriptor : List ℕ) × (o ≡ Some descriptor)
      by None e = absurd (none_placed rules.F20 n ((numbers_decided {test = breaks_f20 c} {Is = λ m. breaks_f20 c m ≡ true} c.methods (λ x there. (λ b. b, λ b. b)) n).1 (m, got, ap (lacks (λ text. passes (fits_slots m) (method_type_of text))) e)))
      by (Some descriptor) e = (descriptor, refl)

  abbrev kept_as : file.Member → List ℕ → List ℕ → Member
  kept_as m name descriptor = record { name = name; descriptor = descriptor; flags = m.flags }

  kept_is : (m : file.Member) (name descriptor : List ℕ) → utf8_at c m.name ≡ Some name → utf8_at c m.descriptor ≡ Some descriptor → member_of c m ≡ Some (kept_as m name descriptor)
  kept_is m name descriptor e f =
      ap (option_and_then (λ n. option_and_then (λ d. Some (kept_as m n d)) (utf8_at c m.descriptor))) e
      ∙ ap (option_and_then (λ d. Some (kept_as m name d))) f

  kept : (n : ℕ) (m : file.Member) → slice_get c.methods n ≡ Some m → (x : Member) × (member_of c m ≡ Some x)
  kept n m got =
      let name = has_name n m got in
      let descriptor = has_descriptor n m got in
      (kept_as m name.0 descriptor.0, kept_is m name.0 descriptor.0 name.1 descriptor.1)

  -- what is kept as the name of the method of a number
  pub method_is_named : (path : List ℕ) (n : ℕ) (m : file.Member) (name : Name) → slice_get c.methods n ≡ Some m → utf8_at c m.name ≡ Some name → method_name (sound_facts path c) n ≡ name
  method_is_named path n m name got named =
      let descriptor = has_descriptor n m got in
      ap (λ (o : Option Member). option_map_or (λ x. x.name) o []) (numbered (member_of c) c.methods kept n m got ∙ kept_is m name descriptor.0 named descriptor.1)
