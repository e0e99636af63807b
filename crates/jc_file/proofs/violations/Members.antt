-- What the tests of fields and methods decide.
use Rattle.std.proofs.Common.{◌≡◌, ◌⊎◌, ℕ, zero, suc, ◌<◌, ◌≤◌, Bool, true, false, cond, not, ◌&&◌, ◌||◌, ltb, List, [], ◌∷◌, length, take, Option, Some, None, refl, sym, ap, ◌∙◌, arith, inl, inr, codes, sum_by}
use Rattle.std.specs.Bool.{Decides}
use Rattle.std.proofs.lemmas.Bool.Decides.{Decides-at}
use Rattle.std.proofs.lemmas.Option.{slice_get_within}
use Rattle.std.proofs.lemmas.List.Elements.{All-contains, All-from_recursion}
use Rattle.std.specs.List.{AllByRecursion, Contains, slice_get}
use Rattle.std.specs.Option.{option_map_or}
use Rattle.std.proofs.lemmas.Bool.{cases_Bool, cond-true, cond-false}
use Rattle.jc_base.specs.Bytes.{same_bytes}
use Rattle.jc_base.specs.Descriptors.{MethodType, IsMethod, slots_of}
use Rattle.jc_base.specs.DescriptorTests.{method_type_of}
use Rattle.jc_view.specs.declared.constant_pool.ConstantKind.{ConstantKind}
use Rattle.jc_view.specs.declared.constant_pool.ConstantKind.TheVariants as kinds
use Rattle.jc_view.specs.declared.attribute_kind.AttributeKind.TheVariants as attributes
use Rattle.jc_view.specs.declared.attribute_kind.Holder.TheVariants as holders
use Rattle.jc_view.specs.ConstantPool as pool
use Rattle.jc_view.specs.ConstantPool.{index_value}
use Rattle.jc_view.specs.ClassFile.{Attribute, Member, ClassFile}
use Rattle.jc_file.specs.AccessFlags as flags
use Rattle.jc_view.specs.Lookups.{utf8_at}
use Rattle.jc_view.specs.Attributes.{is_recognised, IsCodeOf, AreExceptionsOf, AreBootstrapsOf, values_of, codes_of, exceptions_of}
use Rattle.jc_view.specs.AttributeReading.{code_in, exceptions_in, bootstraps_in}
use Rattle.jc_view.proofs.reading.BigEndian.{IsBytes}
use Rattle.jc_file.proofs.violations.Decisions.{like, neg, both, either, all_four, one_of_three, one_of_four, one_of_five, one_of_six, chosen, equal, below, at_most, Has as HasValue, has_by, every, one_of, one_where, passing_has, one_on, first_or, kept, Finds, none_found, fits_found, none_fits, missing_or_fits}
use Rattle.jc_file.proofs.violations.Lookups.{TextsDecided, entry_decided, text_at, has_text, no_text, field_decided, same_text, is_set}
use Rattle.jc_file.specs.Faults.{key_of, same_key, has_key, repeated}
use Rattle.jc_file.specs.FormatRules.{breaks_f15, breaks_f16, are_constant_flags, breaks_f17, constant_kind_of, names_other, misfits, breaks_f25, breaks_f19, fits_slots, breaks_f20, is_named_clinit, is_named_init, has_more_than_abstract, are_bad_interface_flags, same_answer, has_more_than_constructor, breaks_f21, breaks_f23, breaks_f24, breaks_f26}
use Rattle.jc_file.specs.Violations.{IsEntry, NamesKind, HasText, Has, IsRepeated, HasTwoAccesses, BreaksF15, BreaksF16, AreConstantFlags, BreaksF17, initializers, Misfits, BreaksF25, BreaksF19, FitsSlots, BreaksF20, HasMoreThanAbstract, HasOneOf, AreBadInterfaceFlags, HasMoreThanConstructor, BreaksF21, BreaksF23, BreaksF24, BreaksF26, IsInit, IsClinit}

-- ---- flags

two_decided : (f : ℕ) → Decides (flags.has_two_accesses f) (HasTwoAccesses f)
two_decided f = one_of_three
    (both (is_set f flags.public) (is_set f flags.private))
    (both (is_set f flags.public) (is_set f flags.protected))
    (both (is_set f flags.private) (is_set f flags.protected))

constant_flags_decided : (f : ℕ) → Decides (are_constant_flags f) (AreConstantFlags f)
constant_flags_decided f = like
    (λ h. record {
      is_public = h.0.0.0.0.0;
      is_static = h.0.0.0.0.1;
      is_final = h.0.0.0.0.2;
      not_private = h.0.0.0.0.3;
      not_protected = h.0.0.0.1;
      not_volatile = h.0.0.1;
      not_transient = h.0.1;
      not_enum = h.1;
    })
    (λ h. (((((h.is_public, h.is_static, h.is_final, h.not_private), h.not_protected), h.not_volatile), h.not_transient), h.not_enum))
    (both (both (both (both
    (all_four (is_set f flags.public) (is_set f flags.static) (is_set f flags.final) (neg (is_set f flags.private)))
    (neg (is_set f flags.protected))) (neg (is_set f flags.volatile))) (neg (is_set f flags.transient))) (neg (is_set f flags.enum)))

-- ---- fields

pub f15_decided : TextsDecided → (c : ClassFile) (f : Member) → Decides (breaks_f15 c f) (BreaksF15 c f)
f15_decided tests c f = no_text c tests.unqualified f.name

pub f16_decided : TextsDecided → (c : ClassFile) (f : Member) → Decides (breaks_f16 c f) (BreaksF16 c f)
f16_decided tests c f = no_text c (field_decided tests) f.descriptor

pub f17_decided : (c : ClassFile) (f : Member) → Decides (breaks_f17 c f) (BreaksF17 c f)
f17_decided c f = one_of_three
    (two_decided f.flags)
    (both (is_set f.flags flags.final) (is_set f.flags flags.volatile))
    (both (is_set c.flags flags.interface) (neg (constant_flags_decided f.flags)))

-- ---- initializers

-- the kind of the entry of a table that a text stands for
abbrev in_table : List (List ℕ × ConstantKind) → List ℕ → Option ConstantKind
in_table [] d = None
in_table (row ∷ rows) d = cond (same_bytes d row.0) (Some row.1) (in_table rows d)

joined : (a b c d e : Bool) (x y : Option ConstantKind) → cond (a || (b || (c || (d || (e || false))))) x y ≡ cond a x (cond b x (cond c x (cond d x (cond e x y))))
joined true b c d e x y = refl
joined false true c d e x y = refl
joined false false true d e x y = refl
joined false false false true e x y = refl
joined false false false false true x y = refl
joined false false false false false x y = refl

kind_in_table : (d : List ℕ) → constant_kind_of d ≡ in_table initializers d
kind_in_table d = joined (same_bytes d (codes "I")) (same_bytes d (codes "S")) (same_bytes d (codes "C")) (same_bytes d (codes "B")) (same_bytes d (codes "Z")) (Some kinds.Integer) _

table_listed : (rows : List (List ℕ × ConstantKind)) (d : List ℕ) (kind : ConstantKind) → in_table rows d ≡ Some kind → Contains rows (d, kind)
table_listed [] d kind e = absurd cc
table_listed (row ∷ rows) d kind e =
    elim (cases_Bool (same_bytes d row.0)) [
      | inl hit ↦
          let is : row.1 ≡ kind = (let f : Some row.1 ≡ Some kind = sym (cond-true (same_bytes d row.0) (Some row.1) (in_table rows d) hit) ∙ e in cc) in
          (0, omega arith, row_is row d kind ((same_text d row.0).0 hit) is)
      | inr miss ↦ one_on row rows (d, kind) (table_listed rows d kind (sym (cond-false (same_bytes d row.0) (Some row.1) (in_table rows d) miss) ∙ e))
    ]
  where
    row_is : (row : List ℕ × ConstantKind) (d : List ℕ) (kind : ConstantKind) → d ≡ row.0 → row.1 ≡ kind → row ≡ (d, kind)
    row_is row d kind e f i = (sym e i, f i)

each_listed : AllByRecursion (λ row. constant_kind_of row.0 ≡ Some row.1) initializers
each_listed = (refl, (refl, (refl, (refl, (refl, (refl, (refl, (refl, (refl, tt)))))))))

initializers_found : (d : List ℕ) → Finds (constant_kind_of d) (λ kind. Contains initializers (d, kind))
initializers_found d kind = (
  λ e. table_listed initializers d kind (sym (kind_in_table d) ∙ e),
  λ there. All-contains (λ row. constant_kind_of row.0 ≡ Some row.1) initializers (d, kind) (All-from_recursion (λ row. constant_kind_of row.0 ≡ Some row.1) initializers each_listed) there,
)

names_other_decided : (c : ClassFile) (kind : ConstantKind) (a : Attribute) → Decides (names_other c kind a) ((length a.bytes ≡ 2) × ¬ NamesKind c kind (index_value a.bytes))
names_other_decided c kind a = both (equal (length a.bytes) 2) (neg (entry_decided c kind (index_value a.bytes)))

misfits_decided : (c : ClassFile) (descriptor : List ℕ) (a : Attribute) → Decides (misfits c descriptor a) (Misfits c descriptor a)
misfits_decided c descriptor a =
    missing_or_fits (constant_kind_of descriptor) (λ kind. Contains initializers (descriptor, kind)) (initializers_found descriptor) (λ kind. names_other_decided c kind a)

pub f25_decided : TextsDecided → (c : ClassFile) (f : Member) → Decides (breaks_f25 c f) (BreaksF25 c f)
f25_decided tests c f =
    both (is_set f.flags flags.static)
    (either (at_most 2 (length (values_of c f))) (has_text c (λ descriptor. one_of (misfits_decided c descriptor) (values_of c f)) f.descriptor))

-- ---- methods

pub f19_decided : TextsDecided → (c : ClassFile) (m : Member) → Decides (breaks_f19 c m) (BreaksF19 c m)
f19_decided tests c m = no_text c tests.method_name m.name

slots_decided : (m : Member) (type : MethodType) → Decides (fits_slots m type) (FitsSlots m type)
slots_decided m type = either (is_set m.flags flags.static) (below (sum_by slots_of type.params) 255)

pub f20_decided : TextsDecided → (c : ClassFile) (m : Member) → Decides (breaks_f20 c m) (BreaksF20 c m)
f20_decided tests c m = no_text c (λ text. fits_found (method_type_of text) (IsMethod text) (tests.method text) (slots_decided m)) m.descriptor

clinit_decided : (c : ClassFile) (m : Member) → Decides (is_named_clinit c m) (HasText c IsClinit m.name)
clinit_decided c m = has_text c (λ name. same_text name (codes "<clinit>")) m.name

init_decided : (c : ClassFile) (m : Member) → Decides (is_named_init c m) (HasText c IsInit m.name)
init_decided c m = has_text c (λ name. same_text name (codes "<init>")) m.name

abstract_decided : (f : ℕ) → Decides (has_more_than_abstract f) (HasMoreThanAbstract f)
abstract_decided f = one_of_six (is_set f flags.private) (is_set f flags.static) (is_set f flags.final) (is_set f flags.synchronized) (is_set f flags.native) (is_set f flags.strict)

constructor_decided : (f : ℕ) → Decides (has_more_than_constructor f) (HasMoreThanConstructor f)
constructor_decided f = one_of_six (is_set f flags.static) (is_set f flags.final) (is_set f flags.synchronized) (is_set f flags.bridge) (is_set f flags.native) (is_set f flags.abstract)

by_version : {P Q : Type 0} (major : ℕ) → (major < 52) × P ⊎ ¬ (major < 52) × Q → (major < 52) × P ⊎ (52 ≤ major) × Q
by_version major (inl h) = inl h
by_version major (inr h) = let not_below = h.0 in inr (omega arith, h.1)

from_version : {P Q : Type 0} (major : ℕ) → (major < 52) × P ⊎ (52 ≤ major) × Q → (major < 52) × P ⊎ ¬ (major < 52) × Q
from_version major (inl h) = inl h
from_version major (inr h) = let le = h.0 in inr (λ lt. omega arith, h.1)

one_decided : (f a b : ℕ) → Decides (not (flags.has f a && flags.has f b) && (flags.has f a || flags.has f b)) (HasOneOf f a b)
one_decided f a b = like (λ h. (h.1, h.0)) (λ h. (h.1, h.0)) (both (neg (both (is_set f a) (is_set f b))) (either (is_set f a) (is_set f b)))

same_is : (a b : Bool) → same_answer a b ≡ not (not (a && b) && (a || b))
same_is true true = refl
same_is true false = refl
same_is false true = refl
same_is false false = refl

same_decided : (f a b : ℕ) → Decides (same_answer (flags.has f a) (flags.has f b)) (¬ HasOneOf f a b)
same_decided f a b = Decides-at _ _ (same_is (flags.has f a) (flags.has f b)) (neg (one_decided f a b))

-- the access of an interface's method, by the file's version
access_decided : (major f : ℕ)
    → Decides (cond (ltb major 52) (not (flags.has f flags.public && flags.has f flags.abstract)) (same_answer (flags.has f flags.public) (flags.has f flags.private)))
    ((major < 52) × ¬ (Has f flags.public × Has f flags.abstract) ⊎ (52 ≤ major) × ¬ HasOneOf f flags.public flags.private)
access_decided major f =
    like (by_version major) (from_version major)
    (chosen (below major 52) (neg (both (is_set f flags.public) (is_set f flags.abstract))) (same_decided f flags.public flags.private))

interface_decided : (major f : ℕ) → Decides (are_bad_interface_flags major f) (AreBadInterfaceFlags major f)
interface_decided major f =
    one_of_five (is_set f flags.protected) (is_set f flags.final) (is_set f flags.synchronized) (is_set f flags.native) (access_decided major f)

pub f21_decided : (c : ClassFile) (m : Member) → Decides (breaks_f21 c m) (BreaksF21 c m)
f21_decided c m = both (neg (clinit_decided c m)) (one_of_four
    (two_decided m.flags)
    (both (is_set m.flags flags.abstract) (abstract_decided m.flags))
    (both (is_set c.flags flags.interface) (interface_decided c.major m.flags))
    (both (init_decided c m) (constructor_decided m.flags)))

pub f23_decided : (c : ClassFile) (m : Member) → Decides (breaks_f23 c m) (BreaksF23 c m)
f23_decided c m = chosen
    (both (either (is_set m.flags flags.native) (is_set m.flags flags.abstract)) (neg (clinit_decided c m)))
    (below 0 (length (codes_of c m)))
    (neg (equal (length (codes_of c m)) 1))

-- what the bytes of attributes are read as
pub record BytesRead : Type 0 where
  pub code : (b : List ℕ) → IsBytes b → Finds (code_in b) (IsCodeOf b)
  pub exceptions : (b : List ℕ) → IsBytes b → Finds (exceptions_in b) (AreExceptionsOf b)
  pub bootstraps : (b : List ℕ) → IsBytes b → Finds (bootstraps_in b) (AreBootstrapsOf b)

-- the bytes of the attributes are bytes
abbrev pub HaveBytes : List Attribute → Type 0
HaveBytes attributes = (a : Attribute) → Contains attributes a → IsBytes a.bytes

module _ (reads : BytesRead) (c : ClassFile) (m : Member) (bytes : HaveBytes m.attributes) where
  pub f24_decided : Decides (breaks_f24 c m) (BreaksF24 c m)
  f24_decided = one_where (codes_of c m) (λ a there.
      none_found (code_in a.bytes) (IsCodeOf a.bytes) (reads.code a.bytes (bytes a (kept (is_recognised c attributes.Code holders.Method) m.attributes a there).0)))

  pub f26_decided : Decides (breaks_f26 c m) (BreaksF26 c m)
  f26_decided = either (at_most 2 (length (exceptions_of c m))) (one_where (exceptions_of c m) (λ a there.
      none_fits (exceptions_in a.bytes) (AreExceptionsOf a.bytes) (reads.exceptions a.bytes (bytes a (kept (is_recognised c attributes.Exceptions holders.Method) m.attributes a there).0))
      (λ list. every (entry_decided c kinds.Class) list)))

-- ---- repeated members

-- the name and the descriptor
abbrev IsKey : ClassFile → Member → List ℕ × List ℕ → Type 0
IsKey c m key = IsEntry c m.name (pool.Utf8 key.0) × IsEntry c m.descriptor (pool.Utf8 key.1)

key_from : (c : ClassFile) (m : Member) (name : Option (List ℕ)) (descriptor : Option (List ℕ)) (key : List ℕ × List ℕ)
    → option_map_or (λ n. option_map_or (λ d. Some (n, d)) descriptor None) name None ≡ Some key → (name ≡ Some key.0) × (descriptor ≡ Some key.1)
key_from c m None descriptor key e = absurd cc
key_from c m (Some n) None key e = absurd cc
key_from c m (Some n) (Some d) key e =
    let is : ◌≡◌ {A = List ℕ × List ℕ} (n, d) key = cc in
    (ap (λ (p : List ℕ × List ℕ). Some p.0) is, ap (λ (p : List ℕ × List ℕ). Some p.1) is)

key_to : (name : Option (List ℕ)) (descriptor : Option (List ℕ)) (key : List ℕ × List ℕ) → name ≡ Some key.0 → descriptor ≡ Some key.1
    → option_map_or (λ n. option_map_or (λ d. Some (n, d)) descriptor None) name None ≡ Some key
key_to name descriptor key e f =
    ap (λ o. option_map_or (λ n. option_map_or (λ d. Some (n, d)) descriptor None) o None) e ∙ ap (λ o. option_map_or (λ d. Some (key.0, d)) o None) f

keys_found : (c : ClassFile) (m : Member) → Finds (key_of c m) (IsKey c m)
keys_found c m key = (
  λ e. let k = key_from c m (utf8_at c m.name) (utf8_at c m.descriptor) key e in ((text_at c m.name key.0).0 k.0, (text_at c m.descriptor key.1).0 k.1),
  λ h. key_to (utf8_at c m.name) (utf8_at c m.descriptor) key ((text_at c m.name key.0).1 h.0) ((text_at c m.descriptor key.1).1 h.1),
)

-- the other member has the same key
abbrev HasKey : ClassFile → List ℕ × List ℕ → Member → Type 0
HasKey c key m = HasValue (λ other. (key.0 ≡ other.0) × (key.1 ≡ other.1)) (key_of c m)

key_decided : (c : ClassFile) (key : List ℕ × List ℕ) (m : Member) → Decides (option_map_or (same_key key) (key_of c m) false) (HasKey c key m)
key_decided c key m = has_by (λ other. both (same_text key.0 other.0) (same_text key.1 other.1)) (key_of c m)

-- an element of the first n
in_front : {X : Type 0} (n : ℕ) (xs : List X) (x : X) → Contains (take n xs) x → (k : ℕ) × (k < n) × (slice_get xs k ≡ Some x)
in_front zero xs x h = absurd (let lt = h.1 in omega arith)
in_front (suc n) [] x h = absurd (let lt = h.1 in omega arith)
in_front (suc n) (y ∷ ys) x h =
    elim (first_or y (take n ys) x h) [
      | inl is ↦ (0, omega arith, ap (λ z. Some z) is)
      | inr there ↦ let k = in_front n ys x there in (suc k.0, omega (arith, k.1), k.2)
    ]

stands_front : {X : Type 0} (n : ℕ) (xs : List X) (x : X) (k : ℕ) → k < n → slice_get xs k ≡ Some x → Contains (take n xs) x
stands_front zero xs x k lt e = absurd (omega arith)
stands_front (suc n) [] x k lt e = absurd cc
stands_front (suc n) (y ∷ ys) x zero lt e = (0, omega arith, (let is : y ≡ x = cc in is))
stands_front (suc n) (y ∷ ys) x (suc k) lt e = one_on y (take n ys) x (stands_front n ys x k (omega arith) e)

module _ (c : ClassFile) (members : List Member) (n : ℕ) where
  -- what the test finds
  abbrev FindsKey : Type 0
  FindsKey = HasValue (λ m. HasValue (λ key. (e : Member) × Contains (take n members) e × HasKey c key e) (key_of c m)) (slice_get members n)

  finds_decided : Decides (option_map_or (λ m. option_map_or (has_key c (take n members)) (key_of c m) false) (slice_get members n) false) FindsKey
  finds_decided = has_by (λ m. has_by (λ key. one_of (key_decided c key) (take n members)) (key_of c m)) (slice_get members n)

  to_repeated : FindsKey → IsRepeated c members n
  to_repeated (m, is_m, (key, is_key, (e, there, (other, is_other, same)))) =
      let mine = (keys_found c m key).0 is_key in
      let its = (keys_found c e other).0 is_other in
      let at = in_front n members e there in
      record {
        later = m;
        is_later = is_m;
        number = at.0;
        before = at.1;
        earlier = e;
        is_earlier = at.2;
        name = key.0;
        later_name = mine.0;
        earlier_name = its.0 ∙ ap (λ t. Some (pool.Utf8 t)) (sym same.0);
        descriptor = key.1;
        later_descriptor = mine.1;
        earlier_descriptor = its.1 ∙ ap (λ t. Some (pool.Utf8 t)) (sym same.1);
      }

  from_repeated : IsRepeated c members n → FindsKey
  from_repeated h =
      let key : List ℕ × List ℕ = (h.name, h.descriptor) in (
        h.later,
        h.is_later,
        (
          key,
          (keys_found c h.later key).1 (h.later_name, h.later_descriptor),
          (h.earlier, stands_front n members h.earlier h.number h.before h.is_earlier, (key, (keys_found c h.earlier key).1 (h.earlier_name, h.earlier_descriptor), (refl, refl))),
        ),
      )

  pub repeated_decided : (Contains (repeated c members) n → IsRepeated c members n) × (IsRepeated c members n → Contains (repeated c members) n)
  repeated_decided =
      passing_has (λ k. option_map_or (λ m. option_map_or (has_key c (take k members)) (key_of c m) false) (slice_get members k) false) 0 (length members) n (IsRepeated c members n)
      (like to_repeated from_repeated finds_decided) (λ h. let lt = slice_get_within members n h.later h.is_later in (omega arith, omega arith))
