-- The parts of a class file's bytes are bytes.
use Rattle.std.proofs.Common.{ℕ, List, [], ◌∷◌, ◌++◌, length, refl, subst, arith, inl, inr}
use Rattle.std.specs.List.{flat_map, Contains}
use Rattle.std.proofs.lemmas.List.{take_at, drop_at}
use Rattle.jc_base.specs.Endian.{big_bytes}
use Rattle.jc_view.specs.ConstantPool.{constant_bytes, index_bytes}
use Rattle.jc_view.specs.ClassFile.{Attribute, Member, ClassFile, counted, attribute_bytes, member_bytes, head_bytes, tail_bytes, layout}
use Rattle.jc_view.proofs.reading.BigEndian.{IsBytes, IsBytes-drop, IsBytes-take}
use Rattle.jc_file.proofs.violations.Decisions.{first_or}
use Rattle.jc_file.proofs.violations.Members.{HaveBytes}

front_bytes : (xs ys : List ℕ) → IsBytes (xs ++ ys) → IsBytes xs
front_bytes xs ys h = subst (λ (zs : List ℕ). IsBytes zs) (take_at xs ys (length xs) refl) (IsBytes-take (length xs) (xs ++ ys) h)

rest_bytes : (xs ys : List ℕ) → IsBytes (xs ++ ys) → IsBytes ys
rest_bytes xs ys h = subst (λ (zs : List ℕ). IsBytes zs) (drop_at xs ys (length xs) refl) (IsBytes-drop (length xs) (xs ++ ys) h)

one_bytes : {X : Type 0} (bytes : X → List ℕ) (table : List X) (x : X) → Contains table x → IsBytes (flat_map bytes table) → IsBytes (bytes x)
one_bytes bytes [] x there h = absurd (let lt = there.1 in omega arith)
one_bytes bytes (y ∷ ys) x there h =
    elim (first_or y ys x there) [
      | inl is ↦ subst (λ z. IsBytes (bytes z)) is (front_bytes (bytes y) (flat_map bytes ys) h)
      | inr later ↦ one_bytes bytes ys x later (rest_bytes (bytes y) (flat_map bytes ys) h)
    ]

entry_bytes : {X : Type 0} (bytes : X → List ℕ) (table : List X) (x : X) → Contains table x → IsBytes (counted bytes table) → IsBytes (bytes x)
entry_bytes bytes table x there h = one_bytes bytes table x there (rest_bytes (big_bytes 2 (length table)) (flat_map bytes table) h)

have_bytes : (attributes : List Attribute) → IsBytes (counted attribute_bytes attributes) → HaveBytes attributes
have_bytes attributes h a there = rest_bytes (index_bytes a.name ++ big_bytes 4 (length a.bytes)) a.bytes (entry_bytes attribute_bytes attributes a there h)

member_have : (members : List Member) (m : Member) → Contains members m → IsBytes (counted member_bytes members) → HaveBytes m.attributes
member_have members m there h =
    have_bytes m.attributes (rest_bytes (big_bytes 2 m.flags ++ index_bytes m.name ++ index_bytes m.descriptor) (counted attribute_bytes m.attributes) (entry_bytes member_bytes members m there h))

-- what stands in front of a class's attributes, and of its methods
abbrev to_methods : ClassFile → List ℕ
to_methods c = big_bytes 2 c.flags ++ index_bytes c.this_class ++ index_bytes c.super_class ++ counted index_bytes c.interfaces ++ counted member_bytes c.fields

behind_constants : (c : ClassFile) → IsBytes (layout c) → IsBytes (tail_bytes c)
unfolding layout
behind_constants c h = rest_bytes (head_bytes c ++ flat_map constant_bytes c.constants) (tail_bytes c) h

pub field_have : (c : ClassFile) → IsBytes (layout c) → (m : Member) → Contains c.fields m → HaveBytes m.attributes
field_have c h m there =
    let to_fields = big_bytes 2 c.flags ++ index_bytes c.this_class ++ index_bytes c.super_class ++ counted index_bytes c.interfaces in
    let front = front_bytes (to_methods c) (counted member_bytes c.methods) (front_bytes (to_methods c ++ counted member_bytes c.methods) (counted attribute_bytes c.attributes) (behind_constants c h)) in
    member_have c.fields m there (rest_bytes to_fields (counted member_bytes c.fields) front)

pub class_have : (c : ClassFile) → IsBytes (layout c) → HaveBytes c.attributes
class_have c h = have_bytes c.attributes (rest_bytes (to_methods c ++ counted member_bytes c.methods) (counted attribute_bytes c.attributes) (behind_constants c h))

pub method_have : (c : ClassFile) → IsBytes (layout c) → (m : Member) → Contains c.methods m → HaveBytes m.attributes
method_have c h m there =
    member_have c.methods m there (rest_bytes (to_methods c) (counted member_bytes c.methods) (front_bytes (to_methods c ++ counted member_bytes c.methods) (counted attribute_bytes c.attributes) (behind_constants c h)))
