-- Keys of members and their numbers.
use Rattle.std.proofs.Common.{◌≡◌, ◌∙◌, ℕ, Bool, true, false, ◌||◌, ◌&&◌, List, [], ◌∷◌, ◌++◌, Option, None, Some, nat_eq, refl, ap, sym, subst, if◌then◌else◌}
use Rattle.std.specs.List.{list_any, AllZip}
use Rattle.std.specs.Cmp.{unsigned_Decides}
use Rattle.std.specs.Option.{option_map_or, option_zip}
use Rattle.std.proofs.lemmas.Bool.Decides.{same_from_decides}
use Rattle.std.proofs.lemmas.Option.{same_Some}
use Rattle.indexmap.specs.IndexSet.{insert_key}
use Rattle.jc_base.specs.Bytes.{same_bytes}
use Rattle.jc_base.proofs.maps.FiniteMaps.{same_bytes_decides}
use Rattle.jc_view.specs.declared.constant_pool.ConstantIndex.{ConstantIndex}
use Rattle.jc_file.specs.declared.text_numbers.TextNumbers.{TextNumbers}
use Rattle.jc_view.specs.ClassFile.{ClassFile, Member}
use Rattle.jc_view.specs.Lookups.{utf8_at}
use Rattle.jc_file.specs.Faults.{key_of, same_key}
use Rattle.jc_file.specs.inside.TextNumbers.{number_of, IsNumberAt, AreNumbers, KeepsNumbers, IsNumbered, same_numbers, IsNumberedKey}
use Rattle.jc_file.proofs.keys.KeysSeen.{any_inserted, same_key_equiv}

abbrev pub Key : Type 0
Key = List ℕ × List ℕ

abbrev pub Numbers : Type 0
Numbers = ConstantIndex × ConstantIndex

-- ---- a key from the numbers of its two texts

pub number_is : (c : ClassFile) (t : TextNumbers) (i : ConstantIndex) (class : ClassFile) (index : ConstantIndex) (n : Option ConstantIndex) → class ≡ c → index ≡ i → IsNumberAt class t index n → IsNumberAt c t i n
number_is c t i class index n is_class is_index h =
    subst (λ (d : ClassFile). IsNumberAt d t i n) is_class (subst (λ (k : ConstantIndex). IsNumberAt class t k n) is_index h)

pub key_numbered : (c : ClassFile) (old t : TextNumbers) (m : Member) (name descriptor : Option ConstantIndex) → IsNumberAt c old m.name name → KeepsNumbers old t → IsNumberAt c t m.descriptor descriptor → IsNumberedKey c t m (option_zip name descriptor)
key_numbered c old t m None descriptor n keeps d =
    ap (λ o. option_map_or (λ x. option_map_or (λ y. Some (x, y)) (utf8_at c m.descriptor) None) o None) n
key_numbered c old t m (Some name) None n keeps d =
    ap (λ o. option_map_or (λ x. option_map_or (λ y. Some (x, y)) (utf8_at c m.descriptor) None) o None) n.1 ∙ ap (λ o. option_map_or (λ y. Some (n.0, y)) o None) d
key_numbered c old t m (Some name) (Some descriptor) n keeps d = (
  (n.0, d.0),
  ap (λ o. option_map_or (λ x. option_map_or (λ y. Some (x, y)) (utf8_at c m.descriptor) None) o None) n.1 ∙ ap (λ o. option_map_or (λ y. Some (n.0, y)) o None) d.1,
  (keeps n.0 name n.2, d.2),
)

-- ---- two keys are the same where their numbers are

same_number : (c : ClassFile) (t : TextNumbers) → AreNumbers c t → (p q : List ℕ) (a b : ConstantIndex) → number_of t p ≡ Some a → number_of t q ≡ Some b → nat_eq a.0 b.0 ≡ same_bytes p q
same_number c t sound p q a b e f =
    same_from_decides (nat_eq a.0 b.0) (same_bytes p q) (
      λ h. same_Some p q (sym (sound.by_text p a e) ∙ ap (λ n. utf8_at c (record { 0 = n })) ((unsigned_Decides a.0 b.0).0 h) ∙ sound.by_text q b f),
      λ h. (unsigned_Decides a.0 b.0).1 (ap (λ (i : ConstantIndex). i.0) (same_Some a b (sym e ∙ ap (number_of t) h ∙ f))),
    )
    (same_bytes_decides p q)

module _ (c : ClassFile) (t : TextNumbers) (sound : AreNumbers c t) where
  same_numbered : (p q : Key) (a b : Numbers) → IsNumbered t p a → IsNumbered t q b → same_numbers a b ≡ same_key p q
  same_numbered p q a b h k =
      ap (λ x. x && nat_eq a.1.0 b.1.0) (same_number c t sound p.0 q.0 a.0 b.0 h.0 k.0)
      ∙ ap (λ y. same_bytes p.0 q.0 && y) (same_number c t sound p.1 q.1 a.1 b.1 h.1 k.1)

  any_numbered : (p : Key) (a : Numbers) → IsNumbered t p a → (keys : List Key) (numbers : List Numbers) → AllZip (IsNumbered t) keys numbers → list_any (same_numbers a) numbers ≡ list_any (same_key p) keys
  any_numbered p a h [] [] all = refl
  any_numbered p a h [] (b ∷ numbers) all = absurd all
  any_numbered p a h (q ∷ keys) [] all = absurd all
  any_numbered p a h (q ∷ keys) (b ∷ numbers) all =
      ap (λ x. x || list_any (same_numbers a) numbers) (same_numbered p q a b h all.0)
      ∙ ap (λ x. same_key p q || x) (any_numbered p a h keys numbers all.1)

-- ---- lists of keys and their numbers

pub zip_kept : {X Y : Type 0} (R S : X → Y → Type 0) → ((x : X) (y : Y) → R x y → S x y) → (xs : List X) (ys : List Y) → AllZip R xs ys → AllZip S xs ys
zip_kept R S keeps [] [] all = all
zip_kept R S keeps [] (y ∷ ys) all = absurd all
zip_kept R S keeps (x ∷ xs) [] all = absurd all
zip_kept R S keeps (x ∷ xs) (y ∷ ys) all = (keeps x y all.0, zip_kept R S keeps xs ys all.1)

zip_push : {X Y : Type 0} (R : X → Y → Type 0) (x : X) (y : Y) → R x y → (xs : List X) (ys : List Y) → AllZip R xs ys → AllZip R (xs ++ x ∷ []) (ys ++ y ∷ [])
zip_push R x y h [] [] all = (h, all)
zip_push R x y h [] (b ∷ ys) all = absurd all
zip_push R x y h (a ∷ xs) [] all = absurd all
zip_push R x y h (a ∷ xs) (b ∷ ys) all = (all.0, zip_push R x y h xs ys all.1)

-- the keys with this one put in, if it is one
abbrev pub with_key : List Key → Option Key → List Key
with_key keys key = option_map_or (insert_key same_key keys) key keys

-- what is among them then
pub any_with_key : (keys : List Key) (key : Option Key) (q : Key) → list_any (same_key q) (with_key keys key) ≡ (list_any (same_key q) keys || option_map_or (same_key q) key false)
any_with_key keys None q = sym (or_none (list_any (same_key q) keys))
  where
    or_none : (b : Bool) → (b || false) ≡ b
    or_none true = refl
    or_none false = refl
any_with_key keys (Some key) q = any_inserted same_key same_key_equiv keys key q

module _ (c : ClassFile) (t : TextNumbers) (sound : AreNumbers c t) (m : Member) (keys : List Key) (numbers : List Numbers) (all : AllZip (IsNumbered t) keys numbers) where
  -- a key was noted where its numbers were
  pub was_noted : (o : Option Numbers) → IsNumberedKey c t m o → option_map_or (λ k. list_any (same_numbers k) numbers) o false ≡ option_map_or (λ k. list_any (same_key k) keys) (key_of c m) false
  was_noted None h = ap (λ k. option_map_or (λ q. list_any (same_key q) keys) k false) (sym h)
  was_noted (Some a) h = any_numbered c t sound h.0 a h.2 keys numbers all ∙ ap (λ k. option_map_or (λ q. list_any (same_key q) keys) k false) (sym h.1)

  inserted : (p : Key) (a : Numbers) → IsNumbered t p a → (b : Bool) → AllZip (IsNumbered t) (if b then keys else keys ++ p ∷ []) (if b then numbers else numbers ++ a ∷ [])
  inserted p a h true = all
  inserted p a h false = zip_push (IsNumbered t) p a h keys numbers all

  -- the keys and the numbers with it put in
  pub numbered_with_key : (o : Option Numbers) → IsNumberedKey c t m o → AllZip (IsNumbered t) (with_key keys (key_of c m)) (option_map_or (insert_key same_numbers numbers) o numbers)
  numbered_with_key None h = subst (λ k. AllZip (IsNumbered t) (with_key keys k) numbers) (sym h) all
  numbered_with_key (Some a) h =
      subst (λ k. AllZip (IsNumbered t) (with_key keys k) (insert_key same_numbers numbers a)) (sym h.1)
      (subst (λ b. AllZip (IsNumbered t) (if list_any (same_key h.0) keys then keys else keys ++ h.0 ∷ []) (if b then numbers else numbers ++ a ∷ [])) (sym (any_numbered c t sound h.0 a h.2 keys numbers all))
      (inserted h.0 a h.2 (list_any (same_key h.0) keys)))
