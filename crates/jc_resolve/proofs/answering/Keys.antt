-- What look-up finds has the key that was asked for.
use Rattle.std.proofs.Common.{◌≡◌, ◌==◌, Bool, true, false, ◌&&◌, ◌||◌, not, cond, List, [], ◌∷◌, Option, Some, None, ◌⊎◌, inl, inr, refl, sym, ap, subst, ◌∙◌}
use Rattle.std.specs.Option.{option_or}
use Rattle.jc_classes.specs.Facts.{Key, Member}
use Rattle.jc_classes.specs.MethodLookup.{count_named, declared, first_named, given_by, if_polymorphic, is_polymorphic, of_object, only_inheritable, only_open, polymorphic, sole_named}
use Rattle.jc_classes.specs.Names.{Name, method_handle, polymorphic_descriptor, same_name}
use Rattle.jc_classes.specs.Worlds.{Stands, is_at, is_interface, member, methods_of}
use Rattle.jc_file.specs.AccessFlags.{has, native, private, public, static, varargs}
use Rattle.jc_classes.proofs.worlds.NameTests.{same_is, same_self}
use Rattle.std.proofs.lemmas.Bool.{false≢true}
use Rattle.jc_classes.specs.Resolution.Answer.{ToMember}
use Rattle.jc_resolve.specs.inside.Entries.{IsKeyed}

some_is : {X : Type 0} {x y : X} → Some x ≡ Some y → x ≡ y
some_is e = cc

no_some : {X : Type 0} {x : X} → None ≡ Some x → ⊥
no_some e = cc

pub both_true : (a b : Bool) → (a && b) ≡ true → (a ≡ true) × (b ≡ true)
both_true true b e = (refl, e)
both_true false b e = absurd cc

-- where a test has passed
passed : {X : Type 0} (b : Bool) (x y : X) → cond b (Some x) None ≡ Some y → (b ≡ true) × (x ≡ y)
passed true x y e = (refl, some_is e)
passed false x y e = absurd (no_some e)

at_is : (k : Key) (x : Member) → is_at k x ≡ true → IsKeyed k x
at_is k x e =
    let p = both_true (same_name x.name k.name) (same_name x.descriptor k.descriptor) e in
    (same_is x.name k.name p.0, inl (same_is x.descriptor k.descriptor p.1))

pub member_keyed : (xs : List Member) (k : Key) (x : Member) → member xs k ≡ Some x → IsKeyed k x
member_keyed [] k x e = absurd (no_some e)
member_keyed (y ∷ ys) k x e = by (is_at k y) refl e (member_keyed ys k x)
  where
    by : (b : Bool) → is_at k y ≡ b → cond b (Some y) (member ys k) ≡ Some x → (member ys k ≡ Some x → IsKeyed k x) → IsKeyed k x
    by true t f h = subst (IsKeyed k) (some_is f) (at_is k y t)
    by false t f h = h f

named_is : (xs : List Member) (name : Name) (x : Member) → first_named xs name ≡ Some x → x.name ≡ name
named_is [] name x e = absurd (no_some e)
named_is (y ∷ ys) name x e = by (same_name y.name name) refl e (named_is ys name x)
  where
    by : (b : Bool) → same_name y.name name ≡ b → cond b (Some y) (first_named ys name) ≡ Some x → (first_named ys name ≡ Some x → x.name ≡ name) → x.name ≡ name
    by true t f h = ap (λ (z : Member). z.name) (sym (some_is f)) ∙ same_is y.name name t
    by false t f h = h f

if_is : (o : Option Member) (x : Member) → if_polymorphic o ≡ Some x → (o ≡ Some x) × (is_polymorphic x ≡ true)
if_is None x e = absurd (no_some e)
if_is (Some y) x e = let p = passed (is_polymorphic y) y x e in (ap Some p.1, subst (λ z. is_polymorphic z ≡ true) p.1 p.0)

cond_none : (b : Bool) (o : Option Member) (x : Member) → cond b o None ≡ Some x → o ≡ Some x
cond_none true o x e = e
cond_none false o x e = absurd (no_some e)

polymorphic_keyed : (c : Name) (xs : List Member) (k : Key) (x : Member) → polymorphic c xs k.name ≡ Some x → IsKeyed k x
polymorphic_keyed c xs k x e =
    let p = if_is (sole_named xs k.name) x (cond_none (same_name c method_handle) (if_polymorphic (sole_named xs k.name)) x e) in
    let d = both_true (same_name x.descriptor polymorphic_descriptor) (has x.flags varargs && has x.flags native) p.1 in
    (named_is xs k.name x (cond_none (count_named xs k.name == 1) (first_named xs k.name) x p.0), inr (same_is x.descriptor polymorphic_descriptor d.0))

pub declared_keyed : (c : Name) (r : Stands) (k : Key) (x : Member) → declared c r k ≡ Some x → IsKeyed k x
declared_keyed c r k x e = by (polymorphic c (methods_of r) k.name) refl e
  where
    by : (o : Option Member) → polymorphic c (methods_of r) k.name ≡ o → option_or o (member (methods_of r) k) ≡ Some x → IsKeyed k x
    by None t f = member_keyed (methods_of r) k x f
    by (Some y) t f = polymorphic_keyed c (methods_of r) k x (t ∙ f)

inheritable_keyed : (k : Key) (o : Option Member) (x : Member) → ((y : Member) → o ≡ Some y → IsKeyed k y) → only_inheritable o ≡ Some x → IsKeyed k x
inheritable_keyed k None x h e = absurd (no_some e)
inheritable_keyed k (Some y) x h e = by (has y.flags private || has y.flags static) e
  where
    by : (b : Bool) → cond b None (Some y) ≡ Some x → IsKeyed k x
    by true f = absurd (no_some f)
    by false f = subst (IsKeyed k) (some_is f) (h y refl)

pub given_keyed : (r : Stands) (k : Key) (x : Member) → given_by r k ≡ Some x → IsKeyed k x
given_keyed r k x e = inheritable_keyed k (member (methods_of r) k) x (member_keyed (methods_of r) k) (cond_none (is_interface r) _ x e)

open_keyed_of : (k : Key) (o : Option Member) (x : Member) → ((y : Member) → o ≡ Some y → IsKeyed k y) → only_open o ≡ Some x → IsKeyed k x
open_keyed_of k None x h e = absurd (no_some e)
open_keyed_of k (Some y) x h e = let p = passed (has y.flags public && not (has y.flags static)) y x e in subst (IsKeyed k) p.1 (h y refl)

pub open_keyed : (r : Stands) (k : Key) (x : Member) → of_object r k ≡ Some x → IsKeyed k x
open_keyed r k x e = open_keyed_of k (member (methods_of r) k) x (member_keyed (methods_of r) k) e

-- ---- what is found, by its descriptor

pub hit_same : (name : Name) (k asked : Key) (x : Member) → k ≡ asked → IsKeyed k x → same_name x.descriptor asked.descriptor ≡ true → ToMember name (record { name = k.name; descriptor = k.descriptor; flags = x.flags }) ≡ ToMember name x
hit_same name k asked x e h s =
    let n = h.0 in
    let d = same_is x.descriptor asked.descriptor s ∙ ap (λ (z : Key). z.descriptor) (sym e) in
    ap (ToMember name) (λ i. record { name = sym n i; descriptor = sym d i; flags = x.flags })

pub hit_other : (name : Name) (k asked : Key) (x : Member) → k ≡ asked → IsKeyed k x → same_name x.descriptor asked.descriptor ≡ false → ToMember name (record { name = k.name; descriptor = polymorphic_descriptor; flags = x.flags }) ≡ ToMember name x
hit_other name k asked x e h s = by h.1
  where
    by : (x.descriptor ≡ k.descriptor) ⊎ (x.descriptor ≡ polymorphic_descriptor) → ToMember name (record { name = k.name; descriptor = polymorphic_descriptor; flags = x.flags }) ≡ ToMember name x
    by (inl d) =
        let t : same_name x.descriptor asked.descriptor ≡ true = subst (λ z. same_name x.descriptor z ≡ true) (d ∙ ap (λ (z : Key). z.descriptor) e) (same_self x.descriptor) in
        absurd (false≢true (sym s ∙ t))
    by (inr d) =
        let n = h.0 in
        ap (ToMember name) (λ i. record { name = sym n i; descriptor = sym d i; flags = x.flags })
