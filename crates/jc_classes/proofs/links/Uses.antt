-- What the instructions of a class's methods do with references: each by its method and its code, and in order.
use Rattle.std.proofs.Common.{◌≡◌, ◌∙◌, inl, inr, ℕ, zero, suc, ◌+◌, ◌-◌, Bool, true, false, List, [], ◌∷◌, length, Option, Some, None, refl, sym, ap, subst, arith}
use Rattle.std.specs.Prelude.{◌==◌, if◌then◌else◌, option_map}
use Rattle.std.specs.List.{slice_get}
use Rattle.std.specs.List.Sorted.{IsStrictlySortedBy}
use Rattle.std.specs.Option.{option_map_or}
use Rattle.std.specs.Ordering.{nat_cmp}
use Rattle.std.specs.declared.cmp.Ordering.{Ordering}
use Rattle.std.specs.declared.cmp.Ordering.TheVariants.{Less}
use Rattle.jc_base.proofs.Membership.{Has, has-cases, has-left, has-right}
use Rattle.jc_view.specs.Attributes.{Code}
use Rattle.jc_view.specs.ClassFile.{ClassFile, Member}
use Rattle.jc_view.proofs.places.RisingLists.{RisesBy, rises_lower}
use Rattle.jc_code.specs.declared.code_fault.CodeFault.{CodeFault}
use Rattle.jc_code.specs.declared.insn.Insn.{Insn}
use Rattle.jc_code.specs.declared.insn.LinkKind.{LinkKind}
use Rattle.jc_code.specs.declared.method_use.MethodUse.{MethodUse}
use Rattle.jc_code.specs.CodeFaults.{code_of_member, faults_of}
use Rattle.jc_code.specs.InsnReading.{after_insn, insn_value, insns_from, insns_of, insns_within}
use Rattle.jc_code.specs.Insns.{link_use}
use Rattle.jc_code.specs.MethodUses.{code_uses, method_uses, use_at, uses, uses_among, uses_from}
use Rattle.jc_code.proofs.decoding.Shorter.{insn_shorter}
use Rattle.jc_classes.specs.FactsOrder.{use_cmp}
use Rattle.jc_classes.proofs.links.InOrder.{map_some, not_empty, some_is, has_picked, picked_has, sorted-append, sorted-picked, sorted_rises, then_less, first_less, same_order}

-- ---- instructions rise

within_rises : (fuel at : ℕ) (xs : List ℕ) → (hi : ℕ) × RisesBy (λ (item : ℕ × Insn). item.0) at hi (insns_within fuel at xs)
unfolding insns_within
within_rises zero at xs = (at, omega arith)
within_rises (suc fuel) at xs = by (λ next rest. within_rises fuel next rest) (after_insn at xs) refl
  where
    by : ((next : ℕ) (rest : List ℕ) → (hi : ℕ) × RisesBy (λ (item : ℕ × Insn). item.0) next hi (insns_within fuel next rest)) → (o : Option (List ℕ)) → after_insn at xs ≡ o
        → (hi : ℕ) × RisesBy (λ (item : ℕ × Insn). item.0) at hi (option_map_or (λ rest. (at, insn_value at xs) ∷ insns_within fuel (at + length xs - length rest) rest) o [])
    by behind None e = (at, omega arith)
    by behind (Some rest) e =
        let shorter = insn_shorter at xs rest e in
        let next = at + length xs - length rest in
        let others = behind next rest in
        (others.0, (omega arith, rises_lower (λ (item : ℕ × Insn). item.0) (at + 1) next others.0 (insns_within fuel next rest) (omega (arith, shorter)) others.1))

insns_rise : (code : List ℕ) → (hi : ℕ) × RisesBy (λ (item : ℕ × Insn). item.0) 0 hi (insns_of code)
unfolding insns_from
insns_rise code = within_rises (length code) 0 code

-- ---- the uses of a class

-- an instruction of the method's code is the use
pub record IsUseOf (c : ClassFile) (m : Member) (u : MethodUse) : Type 0 where
  pub code : Code
  pub coded : code_of_member c m ≡ Some code
  pub clean : faults_of c code ≡ []
  pub insn : Insn
  pub placed : Has (insns_of code.code) (u.place, insn)
  pub does : link_use insn ≡ Some (u.kind, u.index)

abbrev made : ℕ → ℕ → LinkKind × ℕ → MethodUse
made number place u = record { method = number; place = place; kind = u.0; index = u.1 }

module _ (c : ClassFile) (number : ℕ) (m : Member) (u : MethodUse) where
  use_in : Has (method_uses c number m) u → (u.method ≡ number) × IsUseOf c m u
  use_in h = by (code_of_member c m) refl h
    where
      by_faults : (k : Code) → code_of_member c m ≡ Some k → (fs : List CodeFault) → faults_of c k ≡ fs → Has (if length fs == 0 then uses_among number (insns_of k.code) else []) u → (u.method ≡ number) × IsUseOf c m u
      by_faults k coded [] clean h =
          let o = has_picked (use_at number) (insns_of k.code) u h in
          let q = map_some (made number o.0.0) (link_use o.0.1) u o.2 in (
            sym (ap (λ (v : MethodUse). v.method) q.2),
            record {
              code = k;
              coded = coded;
              clean = clean;
              insn = o.0.1;
              placed = subst (λ n. Has (insns_of k.code) (n, o.0.1)) (ap (λ (v : MethodUse). v.place) q.2) o.1;
              does = q.1 ∙ ap (λ (v : MethodUse). Some (v.kind, v.index)) q.2;
            },
          )
      by_faults k coded (f ∷ fs) clean h = absurd (subst (λ b. Has (if b then uses_among number (insns_of k.code) else []) u) (not_empty f fs) h)

      by : (o : Option Code) → code_of_member c m ≡ o → Has (option_map_or (code_uses c number) o []) u → (u.method ≡ number) × IsUseOf c m u
      by None coded h = absurd h
      by (Some k) coded h = by_faults k coded (faults_of c k) refl h

  use_has : u.method ≡ number → IsUseOf c m u → Has (method_uses c number m) u
  use_has same is =
      let k = is.code in
      let told : use_at number (u.place, is.insn) ≡ Some u =
      ap (option_map (made number u.place)) is.does ∙ ap (λ n. Some (made n u.place (u.kind, u.index))) (sym same) in
      let here : Has (uses_among number (insns_of k.code)) u = picked_has (use_at number) (insns_of k.code) (u.place, is.insn) u is.placed told in
      let clean : Has (code_uses c number k) u =
      subst (λ (fs : List CodeFault). Has (if length fs == 0 then uses_among number (insns_of k.code) else []) u) (sym is.clean) here in
      subst (λ o. Has (option_map_or (code_uses c number) o []) u) (sym is.coded) clean

pub record IsUse (c : ClassFile) (number : ℕ) (methods : List Member) (u : MethodUse) : Type 0 where
  pub n : ℕ
  pub method : Member
  pub got : slice_get methods n ≡ Some method
  pub numbered : u.method ≡ number + n
  pub told : IsUseOf c method u

pub use_of : (c : ClassFile) (number : ℕ) (methods : List Member) (u : MethodUse) → Has (uses_from c number methods) u → IsUse c number methods u
use_of c number [] u h = absurd h
use_of c number (m ∷ methods) u h =
    elim (has-cases (method_uses c number m) (uses_from c (number + 1) methods) u h) [
      | inl here ↦ let q = use_in c number m u here in record { n = 0; method = m; got = refl; numbered = omega (arith, q.0); told = q.1 }
      | inr there ↦
          let q = use_of c (number + 1) methods u there in
          record { n = suc q.n; method = q.method; got = q.got; numbered = omega (arith, q.numbered); told = q.told }
    ]

pub has_use : (c : ClassFile) (number : ℕ) (methods : List Member) (u : MethodUse) (n : ℕ) (m : Member) → slice_get methods n ≡ Some m → u.method ≡ number + n → IsUseOf c m u → Has (uses_from c number methods) u
has_use c number [] u n m got same is = absurd cc
has_use c number (x ∷ methods) u zero m got same is =
    has-left (method_uses c number x) (uses_from c (number + 1) methods) u
    (use_has c number x u (omega (arith, same)) (subst (λ y. IsUseOf c y u) (sym (some_is got)) is))
has_use c number (x ∷ methods) u (suc n) m got same is =
    has-right (method_uses c number x) (uses_from c (number + 1) methods) u (has_use c (number + 1) methods u n m got (omega (arith, same)) is)

-- ---- in order

abbrev by_place : ℕ × Insn → ℕ × Insn → Ordering
by_place a b = nat_cmp a.0 b.0

module _ (c : ClassFile) (number : ℕ) where
  made_less : (a b : ℕ × Insn) (y z : MethodUse) → use_at number a ≡ Some y → use_at number b ≡ Some z → by_place a b ≡ Less → use_cmp y z ≡ Less
  made_less a b y z e f lt =
      let p = (map_some (made number a.0) (link_use a.1) y e).2 in
      let q = (map_some (made number b.0) (link_use b.1) z f).2 in
      sym (same_order (ap (λ (v : MethodUse). v.method) p) (ap (λ (v : MethodUse). v.method) q) (ap (λ (v : MethodUse). v.place) p) (ap (λ (v : MethodUse). v.place) q))
      ∙ then_less number number a.0 b.0 refl lt

  none_sorted : IsStrictlySortedBy use_cmp []
  unfolding IsStrictlySortedBy
  none_sorted = tt

  method_sorted : (m : Member) → IsStrictlySortedBy use_cmp (method_uses c number m)
  method_sorted m = by (code_of_member c m)
    where
      by_test : (k : Code) (b : Bool) → IsStrictlySortedBy use_cmp (if b then uses_among number (insns_of k.code) else [])
      by_test k true =
          let up = insns_rise k.code in
          sorted-picked by_place use_cmp (use_at number) made_less (insns_of k.code) (sorted_rises (λ (item : ℕ × Insn). item.0) 0 up.0 (insns_of k.code) up.1)
      by_test k false = none_sorted

      by : (o : Option Code) → IsStrictlySortedBy use_cmp (option_map_or (code_uses c number) o [])
      by None = none_sorted
      by (Some k) = by_test k (length (faults_of c k) == 0)

uses_rise : (c : ClassFile) (number : ℕ) (methods : List Member) → IsStrictlySortedBy use_cmp (uses_from c number methods)
uses_rise c number [] = none_sorted c number
uses_rise c number (m ∷ methods) =
    sorted-append use_cmp (method_uses c number m) (uses_from c (number + 1) methods) (method_sorted c number m) (uses_rise c (number + 1) methods)
    (λ x y here there.
    let p = (use_in c number m x here).0 in
    let q = (use_of c (number + 1) methods y there).numbered in
    first_less x.method y.method x.place y.place (omega (arith, p, q)))

pub uses_sorted : (c : ClassFile) → IsStrictlySortedBy use_cmp (uses c)
unfolding uses
uses_sorted c = uses_rise c 0 c.methods
