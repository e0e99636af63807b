-- The sizes that a constant gives, by its kind.
use Rattle.std.proofs.Common.{◌≡◌, ◌∙◌, ◌⊎◌, inl, inr, ℕ, zero, suc, ◌+◌, ◌-◌, ◌≤◌, Bool, true, false, List, [], ◌∷◌, ◌++◌, Option, Some, None, refl, ap, sym, replicate, arith, slice_index_or, slice_set}
use Rattle.std.specs.Prelude.{if◌then◌else◌, nat_lt, option_and_then, sum_by}
use Rattle.std.specs.Option.{option_map, option_map_or}
use Rattle.std.proofs.lemmas.Bool.{ne_eqb, le-ltb}
use Rattle.jc_base.specs.Descriptors.{FieldType, slots_of}
use Rattle.jc_base.specs.DescriptorTests.{begins_with, field_type_of, leading_dims, method_type_of}
use Rattle.jc_view.specs.declared.constant_pool.Constant.{Constant as Lent}
use Rattle.jc_view.specs.declared.constant_pool.Constant.TheVariants as lent
use Rattle.jc_view.specs.declared.constant_pool.ConstantIndex.{ConstantIndex}
use Rattle.jc_view.specs.declared.constant_pool.ConstantKind.TheVariants as kinds
use Rattle.jc_view.specs.ConstantPool as pool
use Rattle.jc_view.specs.ConstantPool.{Constant, utf8_text}
use Rattle.jc_view.specs.ClassFile.{ClassFile, slots, all_slots, constant_at, constant_from_first}
use Rattle.jc_view.specs.Lent.{constant_of}
use Rattle.jc_view.specs.Lookups.{member_descriptor_at, is_entry, is_kind, name_and_type_index, utf8_at}
use Rattle.jc_view.proofs.reading.Pools.{slots_is}
use Rattle.jc_code.specs.CodeRules.{dimensions_of, slots_at}
use Rattle.jc_code.specs.inside.TextSizes.{AreKnown, at_index, dimensions_in, entry_slots, interface_slots, slots_in, slots_of_text}
use Rattle.jc_code.proofs.sizes.FilledLists.{padded}

-- ---- where no constant is

-- behind the last constant there is none
past_all : (constants : List Constant) (i : ℕ) → all_slots constants ≤ i → constant_from_first constants i ≡ None
past_all [] i le = refl
past_all (k ∷ constants) i le =
    let size = slots_is k in
    let some : (i ≡ 0) → ⊥ = λ z. absurd (omega (arith, size, z)) in
    let later : slots k ≤ i = omega (arith, le) in
    ap (λ b. if b then Some k else (if nat_lt i (slots k) then None else constant_from_first constants (i - slots k))) (ne_eqb i 0 some)
    ∙ ap (λ b. if b then None else constant_from_first constants (i - slots k)) (le-ltb i (slots k) later)
    ∙ past_all constants (i - slots k) (omega arith)

no_constant : (c : ClassFile) (i : ℕ) → 1 + all_slots c.constants ≤ i → constant_at c (at_index i) ≡ None
no_constant c i le =
    let some : (i ≡ 0) → ⊥ = λ z. absurd (omega (arith, z)) in
    ap (λ b. if b then None else constant_from_first c.constants (i - 1)) (ne_eqb i 0 some) ∙ past_all c.constants (i - 1) (omega arith)

-- ---- by the constant

module _ (c : ClassFile) (i : ℕ) where
  pub dims_none : None ≡ utf8_at c (at_index i) → dimensions_in c i ≡ 0
  dims_none e = ap (λ o. option_map_or dimensions_of o 0) (sym e)

  pub dims_text : (text : List ℕ) → Some text ≡ utf8_at c (at_index i) → dimensions_in c i ≡ dimensions_of text
  dims_text text e = ap (λ o. option_map_or dimensions_of o 0) (sym e)

  pub slots_none : is_entry c kinds.InterfaceMethodref (at_index i) ≡ false → interface_slots c i ≡ None
  slots_none e = ap (λ b. if b then slots_at c (at_index i) else None) e

  -- behind the last
  pub past_dims : 1 + all_slots c.constants ≤ i → dimensions_in c i ≡ 0
  past_dims le = dims_none (sym (ap (option_and_then utf8_text) (no_constant c i le)))

  pub past_slots : 1 + all_slots c.constants ≤ i → interface_slots c i ≡ None
  past_slots le = slots_none (ap (λ o. option_map_or (is_kind kinds.InterfaceMethodref) o false) (no_constant c i le))

  slots_text_in : (o : Option Constant) (text : List ℕ) → Some text ≡ option_and_then utf8_text o → option_map_or (is_kind kinds.InterfaceMethodref) o false ≡ false
  slots_text_in None text e = refl
  slots_text_in (Some (pool.Utf8 t)) text e = refl
  slots_text_in (Some (pool.Integer bits)) text e = refl
  slots_text_in (Some (pool.Float bits)) text e = refl
  slots_text_in (Some (pool.Long bits)) text e = refl
  slots_text_in (Some (pool.Double bits)) text e = refl
  slots_text_in (Some (pool.Class name)) text e = refl
  slots_text_in (Some (pool.String s)) text e = refl
  slots_text_in (Some (pool.Fieldref class entry)) text e = refl
  slots_text_in (Some (pool.Methodref class entry)) text e = refl
  slots_text_in (Some (pool.InterfaceMethodref class entry)) text e = absurd cc
  slots_text_in (Some (pool.NameAndType name descriptor)) text e = refl
  slots_text_in (Some (pool.MethodHandle kind reference)) text e = refl
  slots_text_in (Some (pool.MethodType descriptor)) text e = refl
  slots_text_in (Some (pool.InvokeDynamic bootstrap entry)) text e = refl

  pub slots_text : (text : List ℕ) → Some text ≡ utf8_at c (at_index i) → interface_slots c i ≡ None
  slots_text text e = slots_none (slots_text_in (constant_at c (at_index i)) text e)

  as_read : (o : Option (List ℕ)) → option_map (λ type. sum_by slots_of type.params) (option_and_then method_type_of o) ≡ option_and_then slots_of_text o
  as_read None = refl
  as_read (Some text) = refl

  abbrev slots_by : Option Constant → Option ℕ
  slots_by o =
      if option_map_or (is_kind kinds.InterfaceMethodref) o false
      then option_map (λ type. sum_by slots_of type.params) (option_and_then method_type_of (option_and_then (λ entry. option_and_then (member_descriptor_at c) (name_and_type_index entry)) o))
      else None

  pub slots_missing : None ≡ constant_at c (at_index i) → interface_slots c i ≡ None
  slots_missing is = ap slots_by (sym is)

  pub slots_other : (k : Lent) → Some (constant_of k) ≡ constant_at c (at_index i) → ((class entry : ConstantIndex) → k ≡ lent.InterfaceMethodref class entry → ⊥) → interface_slots c i ≡ None
  slots_other (lent.Utf8 text) is no_method = ap slots_by (sym is)
  slots_other (lent.Integer bits) is no_method = ap slots_by (sym is)
  slots_other (lent.Float bits) is no_method = ap slots_by (sym is)
  slots_other (lent.Long bits) is no_method = ap slots_by (sym is)
  slots_other (lent.Double bits) is no_method = ap slots_by (sym is)
  slots_other (lent.Class name) is no_method = ap slots_by (sym is)
  slots_other (lent.String text) is no_method = ap slots_by (sym is)
  slots_other (lent.Fieldref class entry) is no_method = ap slots_by (sym is)
  slots_other (lent.Methodref class entry) is no_method = ap slots_by (sym is)
  slots_other (lent.InterfaceMethodref class entry) is no_method = absurd (no_method class entry refl)
  slots_other (lent.NameAndType name descriptor) is no_method = ap slots_by (sym is)
  slots_other (lent.MethodHandle kind reference) is no_method = ap slots_by (sym is)
  slots_other (lent.MethodType descriptor) is no_method = ap slots_by (sym is)
  slots_other (lent.InvokeDynamic bootstrap entry) is no_method = ap slots_by (sym is)

  pub slots_method : (k : Lent) → Some (constant_of k) ≡ constant_at c (at_index i) → (class entry : ConstantIndex) → k ≡ lent.InterfaceMethodref class entry → interface_slots c i ≡ entry_slots c entry
  slots_method k is class entry e = ap slots_by (sym is ∙ ap (λ x. Some (constant_of x)) e) ∙ as_read (member_descriptor_at c entry)

-- ---- a text that begins with another byte than `[`

no_dims : (text : List ℕ) → begins_with 91 text ≡ false → leading_dims text ≡ 0
unfolding leading_dims
no_dims [] h = refl
no_dims (first ∷ rest) h = ap (λ b. if b then 1 + leading_dims rest else 0) h

dims_if : (is_field : Bool) (n : ℕ) (element : List ℕ) → n ≡ 0 → option_map_or (λ (type : FieldType). type.dims) (if is_field then Some (record { dims = n; element = element }) else None) 0 ≡ 0
dims_if true n element h = h
dims_if false n element h = refl

pub no_array : (text : List ℕ) → begins_with 91 text ≡ false → dimensions_of text ≡ 0
unfolding field_type_of
no_array text h = dims_if _ (leading_dims text) _ (no_dims text h)

-- ---- what is known

-- what is read after a write was written there, or read before
read_back : (known : List (Option (Option ℕ))) (j i : ℕ) (written read : Option ℕ) → slice_index_or (slice_set known j (Some written)) i None ≡ Some read → ((j ≡ i) × (written ≡ read)) ⊎ (slice_index_or known i None ≡ Some read)
read_back [] j i written read e = inr e
read_back (x ∷ known) zero zero written read e = inl (refl, cc)
read_back (x ∷ known) zero (suc i) written read e = inr e
read_back (x ∷ known) (suc j) zero written read e = inr e
read_back (x ∷ known) (suc j) (suc i) written read e = elim (read_back known j i written read e) [
  | inl same ↦ inl (ap suc same.0, same.1)
  | inr before ↦ inr before
]

module _ (c : ClassFile) (known : List (Option (Option ℕ))) (right : AreKnown c known) where
  pub one_known : (j : ℕ) (slots : Option ℕ) → slots ≡ slots_in c j → AreKnown c (slice_set known j (Some slots))
  one_known j slots is i read e = elim (read_back known j i slots read e) [
    | inl same ↦ sym same.1 ∙ is ∙ ap (slots_in c) same.0
    | inr before ↦ right i read before
  ]

  pub none_known : (k : ℕ) → AreKnown c (known ++ replicate k None)
  none_known k i read e = right i read (sym (padded None known k i) ∙ e)
