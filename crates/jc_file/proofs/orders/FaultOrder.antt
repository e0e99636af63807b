-- The faults stand in order, and are those at the places of each rule.
use Rattle.std.proofs.Common.{◌≡◌, ◌∙◌, ℕ, ◌+◌, ◌-◌, ◌<◌, Bool, true, false, List, [], ◌∷◌, ◌++◌, length, take, map, filter, refl, ap, sym, subst, arith, lit<}
use Rattle.std.specs.Prelude.{slice_get}
use Rattle.std.specs.Option.{option_map_or}
use Rattle.std.specs.List.{Contains, AllByRecursion, flat_map, range_with_len}
use Rattle.std.specs.List.Sorted.{IsStrictlySortedBy}
use Rattle.std.specs.declared.cmp.Ordering.TheVariants.{Less, Equal}
use Rattle.std.specs.Ordering.{nat_cmp, ordering_then}
use Rattle.std.specs.Cmp.{nat_cmp_is}
use Rattle.jc_file.specs.declared.fault.Fault.{Fault}
use Rattle.jc_file.specs.declared.fault.FormatRule.{FormatRule}
use Rattle.jc_file.specs.declared.fault.FormatRule.TheVariants as rules
use Rattle.jc_view.specs.ConstantPool.{Constant}
use Rattle.jc_view.specs.ClassFile.{Member, ClassFile, all_slots, constant_at}
use Rattle.jc_view.specs.Places.{PlacedAttribute}
use Rattle.jc_view.specs.AttributeReading.{all_attributes}
use Rattle.jc_file.specs.Faults.{passing, constants_with, only_if, those_with, attributes_with, repeated, has_key, key_of, About, OfAttributes, OfClass, OfConstants, OfFields, OfInterfaces, OfMethods, OfRepeatedFields, OfRepeatedMethods, about, places, places_of, faults_against, faults, fault_at}
use Rattle.jc_file.specs.FaultOrder.{rule_number, fault_cmp}
use Rattle.jc_view.proofs.places.RisingLists.{RisesBy, rises_lower, rises-filter, rises-map, rises-range}
use Rattle.jc_view.proofs.places.AttributePlaces.{place_of, all_rise, attributes_end}
use Rattle.jc_file.specs.declared.fault.TheConstants.FormatRule.{ALL}
use Rattle.jc_base.proofs.Membership.{Has, has_from, from_has, has-map, has-from_map, has-flat_map, has-from_flat_map}

-- ---- the places of a rule rise

-- up to some bound
abbrev Rises : List ℕ → Type 0
Rises ns = (hi : ℕ) × RisesBy (λ n. n) 0 hi ns

of_passing : (test : ℕ → Bool) (first n : ℕ) → Rises (passing test first n)
of_passing test first n =
    (first + n, rises_lower (λ k. k) 0 first (first + n) (passing test first n) (omega arith) (rises-filter (λ k. k) test first (first + n) (range_with_len first n) (rises-range first n)))

of_constants : (c : ClassFile) (test : Constant → Bool) → Rises (constants_with c test)
of_constants c test = of_passing (λ k. option_map_or test (constant_at c (record { 0 = k })) false) 1 (all_slots c.constants)

of_class : (is_broken : Bool) → Rises (only_if is_broken)
of_class true = (1, (omega arith, omega arith))
of_class false = (0, omega arith)

of_items : {X : Type 0} (test : X → Bool) (xs : List X) → Rises (those_with test xs)
of_items test xs = of_passing (λ n. option_map_or test (slice_get xs n) false) 0 (length xs)

of_repeated : (c : ClassFile) (members : List Member) → Rises (repeated c members)
of_repeated c members =
    of_passing (λ n. option_map_or (λ m. option_map_or (has_key c (take n members)) (key_of c m) false) (slice_get members n) false) 0 (length members)

of_attributes : (c : ClassFile) (test : PlacedAttribute → Bool) → Rises (attributes_with c test)
of_attributes c test = (attributes_end c, rises-map place_of 0 (attributes_end c) (filter test (all_attributes c)) (rises-filter place_of test 0 (attributes_end c) (all_attributes c) (all_rise c)))

of_about : (c : ClassFile) (what : About) → Rises (places_of c what)
of_about c (OfClass is_broken) = of_class is_broken
of_about c (OfConstants breaks) = of_constants c breaks
of_about c (OfInterfaces breaks) = of_items breaks c.interfaces
of_about c (OfFields breaks) = of_items breaks c.fields
of_about c (OfMethods breaks) = of_items breaks c.methods
of_about c OfRepeatedFields = of_repeated c c.fields
of_about c OfRepeatedMethods = of_repeated c c.methods
of_about c (OfAttributes breaks) = of_attributes c breaks

places_rise : (c : ClassFile) (rule : FormatRule) → Rises (places c rule)
places_rise c rule = of_about c (about c rule)

-- ---- in order

less : (a b : ℕ) → a < b → nat_cmp a b ≡ Less
less a b h = sym (nat_cmp_is a b Less h)

same_rule : (rule : FormatRule) (m n : ℕ) → m < n → fault_cmp (fault_at rule m) (fault_at rule n) ≡ Less
same_rule rule m n h = ap (λ o. ordering_then o (nat_cmp m n)) (sym (nat_cmp_is (rule_number rule) (rule_number rule) Equal refl)) ∙ less m n h

later_rule : (x y : Fault) → rule_number x.rule < rule_number y.rule → fault_cmp x y ≡ Less
later_rule x y h = ap (λ o. ordering_then o (nat_cmp x.place y.place)) (less (rule_number x.rule) (rule_number y.rule) h)

-- each of these comes behind the fault
abbrev Before : Fault → List Fault → Type 0
Before x ys = AllByRecursion (λ y. fault_cmp x y ≡ Less) ys

before-append : (x : Fault) (ys zs : List Fault) → Before x ys → Before x zs → Before x (ys ++ zs)
before-append x [] zs h k = k
before-append x (y ∷ ys) zs h k = (h.0, before-append x ys zs h.1 k)

before_places : (rule : FormatRule) (m lo hi : ℕ) (ns : List ℕ) → m < lo → RisesBy (λ n. n) lo hi ns → Before (fault_at rule m) (map (fault_at rule) ns)
before_places rule m lo hi [] lt h = tt
before_places rule m lo hi (n ∷ ns) lt h = (same_rule rule m n (omega (arith, h.0)), before_places rule m (n + 1) hi ns (omega (arith, h.0)) h.1)

sorted_places : (rule : FormatRule) (lo hi : ℕ) (ns : List ℕ) → RisesBy (λ n. n) lo hi ns → IsStrictlySortedBy fault_cmp (map (fault_at rule) ns)
unfolding IsStrictlySortedBy
sorted_places rule lo hi [] h = tt
sorted_places rule lo hi (n ∷ ns) h = (before_places rule n (n + 1) hi ns (omega arith) h.1, sorted_places rule (n + 1) hi ns h.1)

before_rule : (x : Fault) (rule : FormatRule) (ns : List ℕ) → rule_number x.rule < rule_number rule → Before x (map (fault_at rule) ns)
before_rule x rule [] lt = tt
before_rule x rule (n ∷ ns) lt = (later_rule x (fault_at rule n) lt, before_rule x rule ns lt)

before_rules : (c : ClassFile) (x : Fault) (lo hi : ℕ) (rs : List FormatRule) → rule_number x.rule < lo → RisesBy rule_number lo hi rs → Before x (flat_map (faults_against c) rs)
before_rules c x lo hi [] lt h = tt
before_rules c x lo hi (r ∷ rs) lt h =
    before-append x (faults_against c r) (flat_map (faults_against c) rs)
    (before_rule x r (places c r) (omega (arith, h.0)))
    (before_rules c x (rule_number r + 1) hi rs (omega (arith, h.0)) h.1)

sorted-append : (c : ClassFile) (rule : FormatRule) (ns : List ℕ) (ys : List Fault) → ((n : ℕ) → Before (fault_at rule n) ys) → IsStrictlySortedBy fault_cmp (map (fault_at rule) ns) → IsStrictlySortedBy fault_cmp ys → IsStrictlySortedBy fault_cmp (map (fault_at rule) ns ++ ys)
unfolding IsStrictlySortedBy
sorted-append c rule [] ys behind h k = k
sorted-append c rule (n ∷ ns) ys behind h k =
    (before-append (fault_at rule n) (map (fault_at rule) ns) ys h.0 (behind n), sorted-append c rule ns ys behind h.1 k)

sorted_rules : (c : ClassFile) (lo hi : ℕ) (rs : List FormatRule) → RisesBy rule_number lo hi rs → IsStrictlySortedBy fault_cmp (flat_map (faults_against c) rs)
unfolding IsStrictlySortedBy
sorted_rules c lo hi [] h = tt
sorted_rules c lo hi (r ∷ rs) h =
    let rise = places_rise c r in
    sorted-append c r (places c r) (flat_map (faults_against c) rs)
    (λ n. before_rules c (fault_at r n) (rule_number r + 1) hi rs (omega arith) h.1)
    (sorted_places r 0 rise.0 (places c r) rise.1)
    (sorted_rules c (rule_number r + 1) hi rs h.1)

rules_rise : RisesBy rule_number 1 (length ALL + 1) ALL
rules_rise = grind arith

pub faults_sorted : (c : ClassFile) → IsStrictlySortedBy fault_cmp (faults c)
unfolding faults
faults_sorted c = sorted_rules c 1 (length ALL + 1) ALL rules_rise

-- ---- those at the places of each rule

is_rule : (rule : FormatRule) → Contains ALL rule
is_rule rules.F1 = (0, lit< tt, refl)
is_rule rule = (rule_number rule - 1, lit< tt, refl)

pub fault_placed : (c : ClassFile) (fault : Fault) → Contains (faults c) fault → Contains (places c fault.rule) fault.place
unfolding faults
fault_placed c fault h =
    let against = has-from_flat_map (faults_against c) ALL fault (has_from (faults c) fault h) in
    let at = has-from_map (fault_at against.0) (places c against.0) fault against.2 in
    let same_rule : against.0 ≡ fault.rule = ap (λ f. f.rule) at.2 in
    let same_place : at.0 ≡ fault.place = ap (λ f. f.place) at.2 in
    let placed : Has (places c fault.rule) at.0 = subst (λ (r : FormatRule). Has (places c r) at.0) same_rule at.1 in
    from_has (places c fault.rule) fault.place (subst (λ (n : ℕ). Has (places c fault.rule) n) same_place placed)

pub placed_fault : (c : ClassFile) (fault : Fault) → Contains (places c fault.rule) fault.place → Contains (faults c) fault
unfolding faults
placed_fault c fault h =
    let at = has-map (fault_at fault.rule) (places c fault.rule) fault.place (has_from (places c fault.rule) fault.place h) in
    from_has (faults c) fault (has-flat_map (faults_against c) ALL fault.rule fault (has_from ALL fault.rule (is_rule fault.rule)) at)
