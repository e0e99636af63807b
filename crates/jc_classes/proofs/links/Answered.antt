-- The reference of an index and its answer: the search finds the one that there is.
use Rattle.std.proofs.Common.{◌≡◌, ◌∙◌, ℕ, zero, suc, ◌+◌, Bool, true, false, List, [], ◌∷◌, Some, refl, sym, ap, arith, subst}
use Rattle.std.specs.Prelude.{◌==◌, if◌then◌else◌}
use Rattle.std.specs.List.{slice_get}
use Rattle.std.proofs.lemmas.Bool.{cond-true, cond-false, ne_eqb}
use Rattle.std.proofs.lemmas.Bool.Decides.{Decides-eqb}
use Rattle.jc_view.specs.ConstantPool as pool
use Rattle.jc_view.specs.ClassFile.{ClassFile, all_slots, class_text_at, constant_at}
use Rattle.jc_view.specs.Lookups.{member_descriptor_at, member_name_at, utf8_at}
use Rattle.jc_view.proofs.places.RisingLists.{RisesBy}
use Rattle.jc_view.proofs.reading.BigEndian.{then_some}
use Rattle.jc_view.specs.declared.constant_pool.ConstantIndex.{ConstantIndex}
use Rattle.jc_classes.specs.declared.reference.ReferenceKind.{ReferenceKind}
use Rattle.jc_classes.specs.declared.reference.ReferenceKind.TheVariants as kinds
use Rattle.jc_classes.specs.Facts.{Reference}
use Rattle.jc_classes.specs.FactsOf.{class_reference, member_reference, reference_at, reference_of, references_in}
use Rattle.jc_classes.specs.LinkErrors.{answered}
use Rattle.jc_classes.specs.LinkLaws.{HasAnswer}
use Rattle.jc_classes.specs.Resolution.{Answer}
use Rattle.jc_classes.proofs.links.InOrder.{some_is, risen, rises-picked}

-- ---- references rise

class_tells : (c : ClassFile) (index : ℕ) (name : ConstantIndex) (r : Reference) → class_reference c index name ≡ Some r → r.index ≡ index
class_tells c index name r e =
    let text = then_some (utf8_at c name) _ r e in
    sym (ap (λ (s : Reference). s.index) (some_is text.2))

member_tells : (c : ClassFile) (index : ℕ) (kind : ReferenceKind) (class entry : ConstantIndex) (r : Reference) → member_reference c index kind class entry ≡ Some r → r.index ≡ index
member_tells c index kind class entry r e =
    let text = then_some (class_text_at c class) _ r e in
    let name = then_some (member_name_at c entry) _ r text.2 in
    let descriptor = then_some (member_descriptor_at c entry) _ r name.2 in
    sym (ap (λ (s : Reference). s.index) (some_is descriptor.2))

constant_tells : (c : ClassFile) (index : ℕ) (k : pool.Constant) (r : Reference) → reference_of c index k ≡ Some r → r.index ≡ index
constant_tells c index (pool.Class name) r e = class_tells c index name r e
constant_tells c index (pool.Fieldref class entry) r e = member_tells c index kinds.Field class entry r e
constant_tells c index (pool.Methodref class entry) r e = member_tells c index kinds.Method class entry r e
constant_tells c index (pool.InterfaceMethodref class entry) r e = member_tells c index kinds.InterfaceMethod class entry r e
constant_tells c index constant r e = absurd cc

reference_tells : (c : ClassFile) (index : ℕ) (r : Reference) → reference_at c index ≡ Some r → r.index ≡ index
reference_tells c index r e =
    let k = then_some (constant_at c (record { 0 = index })) (reference_of c index) r e in
    constant_tells c index k.0 r k.2

pub references_rise : (c : ClassFile) → RisesBy (λ (r : Reference). r.index) 1 (1 + all_slots c.constants) (references_in c)
unfolding references_in
references_rise c = rises-picked (λ (r : Reference). r.index) (reference_at c) (reference_tells c) 1 (all_slots c.constants)

-- ---- answers

pub answered_is : (index : ℕ) (rs : List Reference) (answers : List Answer) (r : Reference) (a : Answer) → answered index rs answers ≡ Some (r, a) → HasAnswer rs answers r a × (r.index ≡ index)
answered_is index [] answers r a e = absurd cc
answered_is index (x ∷ rs) [] r a e = absurd cc
answered_is index (x ∷ rs) (y ∷ answers) r a e = by (λ f. answered_is index rs answers r a f) (x.index == index) refl e
  where
    by : (answered index rs answers ≡ Some (r, a) → HasAnswer rs answers r a × (r.index ≡ index)) → (b : Bool) → x.index == index ≡ b → (if b then Some (x, y) else answered index rs answers) ≡ Some (r, a) → HasAnswer (x ∷ rs) (y ∷ answers) r a × (r.index ≡ index)
    by later true is e =
        let same = some_is e in
        let one : x ≡ r = ap (λ (p : Reference × Answer). p.0) same in
        ((0, ap Some one, ap (λ (p : Reference × Answer). Some p.1) same), subst (λ (s : Reference). s.index ≡ index) one ((Decides-eqb x.index index).0 is))
    by later false is e =
        let q = later e in
        ((suc q.0.0, q.0.1, q.0.2), q.1)

pub is_answered : (index lo hi : ℕ) (rs : List Reference) (answers : List Answer) (r : Reference) (a : Answer) (n : ℕ) → RisesBy (λ (r : Reference). r.index) lo hi rs → slice_get rs n ≡ Some r → slice_get answers n ≡ Some a → r.index ≡ index → answered index rs answers ≡ Some (r, a)
is_answered index lo hi [] answers r a n up e f is = absurd cc
is_answered index lo hi (x ∷ rs) [] r a n up e f is = absurd cc
is_answered index lo hi (x ∷ rs) (y ∷ answers) r a zero up e f is =
    let one : x ≡ r = some_is e in
    let here : x.index ≡ index = ap (λ (s : Reference). s.index) one ∙ is in
    cond-true (x.index == index) (Some (x, y)) (answered index rs answers) ((Decides-eqb x.index index).1 here)
    ∙ ap (λ s. Some (s, y)) one ∙ ap (λ b. Some (r, b)) (some_is f)
is_answered index lo hi (x ∷ rs) (y ∷ answers) r a (suc n) up e f is =
    let later = risen (λ (r : Reference). r.index) (x.index + 1) hi rs n r up.1 e in
    cond-false (x.index == index) (Some (x, y)) (answered index rs answers) (ne_eqb x.index index (λ same. omega (arith, same, later, is)))
    ∙ is_answered index (x.index + 1) hi rs answers r a n up.1 e f is
