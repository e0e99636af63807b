-- A reference has at most one answer.
use Rattle.jc_classes.specs.Worlds.{Stands as stands}
use Rattle.jc_classes.specs.Resolution.{Answer as answer}
use Rattle.std.proofs.Common.{◌≡◌, Bool, true, false, List, Option, Some, None, refl, sym, ap, subst, ◌∙◌}
use Rattle.std.proofs.lemmas.Bool.{false≢true}
use Rattle.std.specs.declared.cmp.Ordering.{Ordering}
use Rattle.std.specs.declared.cmp.Ordering.TheVariants.{Less, Equal, Greater}
use Rattle.std.specs.Ordering.{is_lt, ordering_reverse}
use Rattle.std.specs.Cmp.Lexicographic.{nat_list_cmp_total}
use Rattle.std.specs.FinMap.{nat_cmp-IsAntisymmetric, slice_cmp-IsAntisymmetric}
use Rattle.jc_classes.specs.Facts.{is_faulty, Facts, Key, Member, Named}
use Rattle.jc_classes.specs.Names.{Name, name_cmp, name_less, object}
use Rattle.jc_classes.specs.Worlds.{World, Stands, Found, flags_of, is_interface}
use Rattle.jc_classes.specs.FieldLookup.{FindsField, FindsFirst}
use Rattle.jc_classes.specs.FieldLookup.{FindsField as field}
use Rattle.jc_classes.specs.FieldLookup.{FindsFirst as first}
use Rattle.jc_classes.specs.MethodLookup.{IsCandidate, given_by, FindsInClasses, FindsAbove, FindsMethod, FindsInterfaceMethod}
use Rattle.jc_classes.specs.MethodLookup.{FindsInClasses as chain}
use Rattle.jc_classes.specs.MethodLookup.{FindsAbove as above}
use Rattle.jc_classes.specs.MethodLookup.{FindsMethod as method}
use Rattle.jc_classes.specs.MethodLookup.{FindsInterfaceMethod as imethod}
use Rattle.jc_classes.specs.Loading.{Load, LoadEach, Loading, Supertype, direct_supertypes, can_see, judged_supertype}
use Rattle.jc_classes.specs.declared.linkage_error.LinkageError.{LinkageError}
use Rattle.jc_classes.specs.Loading.{Load as load}
use Rattle.jc_classes.specs.Loading.{LoadEach as each}
use Rattle.jc_classes.specs.declared.linkage_error.LinkageError.TheVariants.{Incompatible}
use Rattle.jc_classes.specs.Resolution.{Answer, Start, ResolvesClass, Starts, start_of, class_answer, Settles, ResolvesField, ResolvesMethod, ResolvesInterfaceMethod}
use Rattle.jc_classes.specs.Resolution.{ResolvesClass as rclass}
use Rattle.jc_classes.specs.Resolution.Starts.{starts}
use Rattle.jc_classes.specs.Resolution.Start.{At, Ends}
use Rattle.jc_classes.specs.Resolution.{Settles as settles}
use Rattle.jc_classes.specs.Resolution.{ResolvesField as rfield}
use Rattle.jc_classes.specs.Resolution.{ResolvesMethod as rmethod}
use Rattle.jc_classes.specs.Resolution.{ResolvesInterfaceMethod as rimethod}

-- two answers of one option
some_none : {X A : Type 0} {o : Option X} {x : X} → o ≡ Some x → o ≡ None → A
some_none e f = absurd cc

some_one : {X : Type 0} {o : Option X} {x y : X} → o ≡ Some x → o ≡ Some y → x ≡ y
some_one e f = cc

apart : {A : Type 0} {b : Bool} → b ≡ true → b ≡ false → A
apart e f = absurd (false≢true (sym f ∙ e))

none_some : {X A : Type 0} {x : X} → None ≡ Some x → A
none_some e = absurd cc

record_nothing : {A : Type 0} {o : Stands} {r : Facts} → o ≡ stands.Class r → o ≡ stands.Absent → A
record_nothing e f = absurd cc

record_outside : {A : Type 0} {o : Stands} {r : Facts} → o ≡ stands.Class r → o ≡ stands.Outside → A
record_outside e f = absurd cc

nothing_outside : {A : Type 0} {o : Stands} → o ≡ stands.Absent → o ≡ stands.Outside → A
nothing_outside e f = absurd cc

record_one : {o : Stands} {x y : Facts} → o ≡ stands.Class x → o ≡ stands.Class y → x ≡ y
record_one e f = cc

at_home : (c : Name) (x y : Member) → x ≡ y → Some (let f : Found = record { home = c; member = x } in f) ≡ Some (record { home = c; member = y })
at_home c x y e = ap (λ z. Some (let f : Found = record { home = c; member = z } in f)) e

-- ---- fields

mutual
  pub field_one : {m : World} {k : Key} {c : Name} {a b : Option Found} → FindsField m k c a → FindsField m k c b → a ≡ b
  field_one (field.own {c} {x} e) (field.own {x = y} f) = at_home c x y (some_one e f)
  field_one (field.own e) (field.inherited f r) = some_none e f
  field_one (field.inherited e l) (field.own f) = some_none f e
  field_one (field.inherited e l) (field.inherited f r) = first_one l r

  first_one : {m : World} {k : Key} {ss : List Name} {a b : Option Found} → FindsFirst m k ss a → FindsFirst m k ss b → a ≡ b
  first_one first.nowhere first.nowhere = refl
  first_one (first.here l) (first.here r) = field_one l r
  first_one (first.here l) (first.later r s) = none_some (sym (field_one l r))
  first_one (first.later l n) (first.here r) = none_some (field_one l r)
  first_one (first.later l n) (first.later r s) = first_one n s

-- ---- methods

pub chain_one : {m : World} {k : Key} {c : Name} {a b : Option Found} → FindsInClasses m k c a → FindsInClasses m k c b → a ≡ b
chain_one (chain.own {c} {x} e) (chain.own {x = y} f) = at_home c x y (some_one e f)
chain_one (chain.own e) (chain.inherited f s r) = some_none e f
chain_one (chain.own e) (chain.nowhere f s) = some_none e f
chain_one (chain.inherited e s l) (chain.own f) = some_none f e
chain_one {m} {k} {b = b} (chain.inherited e s l) (chain.inherited f t r) = chain_one l (subst (λ x. FindsInClasses m k x b) (some_one t s) r)
chain_one (chain.inherited e s l) (chain.nowhere f t) = some_none s t
chain_one (chain.nowhere e s) (chain.own f) = some_none f e
chain_one (chain.nowhere e s) (chain.inherited f t r) = some_none t s
chain_one (chain.nowhere e s) (chain.nowhere f t) = refl

-- two candidates of one interface are one
same_candidate : {m : World} {k : Key} {c : Name} (f g : Found) → IsCandidate m k c f → IsCandidate m k c g → f.home ≡ g.home → f ≡ g
same_candidate {m} {k} f g x y e =
    let p : f.member ≡ g.member = some_one (sym (ap (λ n. given_by (m n) k) e) ∙ x.given) y.given in
    by f.home g.home f.member g.member e p
  where
    by : (c d : Name) (x y : Member) → c ≡ d → x ≡ y → (let f : Found = record { home = c; member = x } in f) ≡ record { home = d; member = y }
    by c d x y e p = ap (λ n. let f : Found = record { home = n; member = x } in f) e ∙ ap (λ n. let f : Found = record { home = d; member = n } in f) p

neither : (o : Ordering) → is_lt o ≡ false → is_lt (ordering_reverse o) ≡ false → o ≡ Equal
neither Less e f = absurd (false≢true (sym e))
neither Equal e f = refl
neither Greater e f = absurd (false≢true (sym f))

-- two names of which neither is less are one
pub same_least : (a b : Name) → name_less a b ≡ false → name_less b a ≡ false → a ≡ b
same_least a b e f = slice_cmp-IsAntisymmetric nat_cmp-IsAntisymmetric a b (neither (name_cmp a b) e (sym (ap is_lt (nat_list_cmp_total.antisymm b a)) ∙ f))

pub above_one : {m : World} {k : Key} {c : Name} {a b : Option Found} → FindsAbove m k c a → FindsAbove m k c b → a ≡ b
above_one (above.only {f} i) (above.only {f = g} j) = ap Some (same_candidate f g i.maximal.candidate j.maximal.candidate (j.only f i.maximal i.concrete))
above_one (above.only {f} i) (above.least n j) = absurd (n f i)
above_one (above.only {f} i) (above.nowhere n) = absurd (n f i.maximal.candidate)
above_one (above.least n j) (above.only {f} i) = absurd (n f i)
above_one (above.least {f} n i) (above.least {f = g} p j) = ap Some (same_candidate f g i.candidate j.candidate (same_least f.home g.home (j.least f i.candidate) (i.least g j.candidate)))
above_one (above.least {f} n i) (above.nowhere p) = absurd (p f i.candidate)
above_one (above.nowhere n) (above.only {f} i) = absurd (n f i.maximal.candidate)
above_one (above.nowhere n) (above.least {f} p i) = absurd (n f i.candidate)
above_one (above.nowhere n) (above.nowhere p) = refl

pub method_one : {m : World} {k : Key} {c : Name} {a b : Option Found} → FindsMethod m k c a → FindsMethod m k c b → a ≡ b
method_one (method.in_class l) (method.in_class r) = chain_one l r
method_one (method.in_class l) (method.in_interface r s) = none_some (sym (chain_one l r))
method_one (method.in_interface l n) (method.in_class r) = none_some (chain_one l r)
method_one (method.in_interface l n) (method.in_interface r s) = above_one n s

pub imethod_one : {m : World} {k : Key} {c : Name} {a b : Option Found} → FindsInterfaceMethod m k c a → FindsInterfaceMethod m k c b → a ≡ b
imethod_one {c = c} (imethod.own {x} e) (imethod.own {x = y} f) = at_home c x y (some_one e f)
imethod_one (imethod.own e) (imethod.in_object f p) = some_none e f
imethod_one (imethod.own e) (imethod.in_interface f p r) = some_none e f
imethod_one (imethod.in_object e o) (imethod.own f) = some_none f e
imethod_one (imethod.in_object {x} e o) (imethod.in_object {x = y} f p) = at_home object x y (some_one o p)
imethod_one (imethod.in_object e o) (imethod.in_interface f p r) = some_none o p
imethod_one (imethod.in_interface e o l) (imethod.own f) = some_none f e
imethod_one (imethod.in_interface e o l) (imethod.in_object f p) = some_none p o
imethod_one (imethod.in_interface e o l) (imethod.in_interface f p r) = above_one l r

-- ---- loading

mutual
  pub load_one : {m : World} {n : Name} {a b : Loading} → Load m n a → Load m n b → a ≡ b
  load_one (load.missing e) (load.missing f) = refl
  load_one (load.missing e) (load.outside f) = nothing_outside e f
  load_one (load.missing e) (load.faulty f p) = record_nothing f e
  load_one (load.missing e) (load.round f p r) = record_nothing f e
  load_one (load.missing e) (load.through f p n r) = record_nothing f e
  load_one (load.outside e) (load.missing f) = nothing_outside f e
  load_one (load.outside e) (load.outside f) = refl
  load_one (load.outside e) (load.faulty f p) = record_outside f e
  load_one (load.outside e) (load.round f p r) = record_outside f e
  load_one (load.outside e) (load.through f p n r) = record_outside f e
  load_one (load.faulty e o) (load.missing f) = record_nothing e f
  load_one (load.faulty e o) (load.outside f) = record_outside e f
  load_one (load.faulty e o) (load.faulty f p) = refl
  load_one (load.faulty e o) (load.round f p r) = apart (ap (λ (x : Facts). is_faulty x) (record_one f e) ∙ o) p
  load_one (load.faulty e o) (load.through f p n r) = apart (ap (λ (x : Facts). is_faulty x) (record_one f e) ∙ o) p
  load_one (load.round e o l) (load.missing f) = record_nothing e f
  load_one (load.round e o l) (load.outside f) = record_outside e f
  load_one (load.round e o l) (load.faulty f p) = apart (ap (λ (x : Facts). is_faulty x) (record_one e f) ∙ p) o
  load_one (load.round e o l) (load.round f p r) = refl
  load_one (load.round e o l) (load.through f p n r) = absurd (n l)
  load_one (load.through e o n l) (load.missing f) = record_nothing e f
  load_one (load.through e o n l) (load.outside f) = record_outside e f
  load_one (load.through e o n l) (load.faulty f p) = apart (ap (λ (x : Facts). is_faulty x) (record_one e f) ∙ p) o
  load_one (load.through e o n l) (load.round f p r) = absurd (n r)
  load_one {m} {n} {b = b} (load.through e o x l) (load.through f p y r) = each_one l (subst (λ (q : Facts). LoadEach m n (direct_supertypes q) b) (record_one f e) r)

  each_one : {m : World} {n : Name} {ps : List Supertype} {a b : Loading} → LoadEach m n ps a → LoadEach m n ps b → a ≡ b
  each_one each.none each.none = refl
  each_one {m} {n} (each.stops {p = q} l e) (each.stops r f) = some_one e (ap (judged_supertype m n q) (load_one l r) ∙ f)
  each_one {m} {n} (each.stops {p = q} l e) (each.passes r f s) = some_none e (ap (judged_supertype m n q) (load_one l r) ∙ f)
  each_one {m} {n} (each.passes {p = q} l e x) (each.stops r f) = some_none f (sym (ap (judged_supertype m n q) (load_one l r)) ∙ e)
  each_one (each.passes l e x) (each.passes r f s) = each_one x s

-- ---- references

pub rclass_one : {m : World} {d : Name} {t : Named} {a b : Answer} → ResolvesClass m d t a → ResolvesClass m d t b → a ≡ b
rclass_one {m} {d} (rclass.class {c} l e) (rclass.class r f) = e ∙ ap (λ x. class_answer c c x (can_see d c (m c)) (flags_of (m c))) (load_one l r) ∙ sym f
rclass_one rclass.primitives rclass.primitives = refl
rclass_one {m} {d} (rclass.array {t} {e = c} l e) (rclass.array r f) = e ∙ ap (λ x. class_answer t c x (can_see d c (m c)) 0) (load_one l r) ∙ sym f

pub start_one : {m : World} {d : Name} {t : Named} {a b : Start} → Starts m d t a → Starts m d t b → a ≡ b
start_one {t = t} (starts {a} {l} x y e) (starts {a = b} {l = k} u v f) = e ∙ ap (λ z. start_of t z l) (rclass_one x u) ∙ ap (start_of t b) (load_one y v) ∙ sym f

settles_one : {m : World} {d : Name} {t : Named} {c : Name} {x : LinkageError} {f : Option Found} {a b : Answer} → Settles m d t c x f a → Settles m d t c x f b → a ≡ b
settles_one (settles.found u) (settles.found v) = refl
settles_one (settles.found u) (settles.hidden n) = absurd (n u)
settles_one (settles.hidden n) (settles.found u) = absurd (n u)
settles_one (settles.hidden n) (settles.hidden p) = refl
settles_one (settles.outside {n} i l) (settles.outside {n = p} j r) = ap answer.Outside (same_least n p (r n i) (l p j))
settles_one (settles.outside {n} i l) (settles.nowhere q) = absurd (q n i)
settles_one (settles.nowhere q) (settles.outside {n} i l) = absurd (q n i)
settles_one (settles.nowhere q) (settles.nowhere r) = refl

at_ends : {A : Type 0} {c : Name} {a : Answer} → At c ≡ Ends a → A
at_ends e = absurd cc

at_one : {c d : Name} → At c ≡ At d → c ≡ d
at_one e = cc

ends_one : {a b : Answer} → Ends a ≡ Ends b → a ≡ b
ends_one e = cc

-- what is settled from one place, of what is found there
settled_one : {m : World} {d : Name} {t : Named} {x : LinkageError} (Finds : Name → Option Found → Type 0) (c e : Name) (f g : Option Found) (a b : Answer)
    → ((c : Name) (f g : Option Found) → Finds c f → Finds c g → f ≡ g) → e ≡ c → Finds c f → Finds e g → Settles m d t c x f a → Settles m d t e x g b → a ≡ b
settled_one {m} {d} {t} {x} Finds c e f g a b one p u v l r =
    let v2 = subst (λ z. Finds z g) p v in
    settles_one l (subst (λ z. Settles m d t c x z b) (sym (one c f g u v2)) (subst (λ z. Settles m d t z x g b) p r))

pub rfield_one : {m : World} {d : Name} {t : Named} {k : Key} {a b : Answer} → ResolvesField m d t k a → ResolvesField m d t k b → a ≡ b
rfield_one (rfield.ends s) (rfield.ends r) = ends_one (start_one s r)
rfield_one (rfield.ends s) (rfield.looks r f g) = at_ends (start_one r s)
rfield_one (rfield.looks s x y) (rfield.ends r) = at_ends (start_one s r)
rfield_one {m = m} {k = k} {a = a} {b = b} (rfield.looks {c} {f} s x y) (rfield.looks {c = e} {f = g} r u v) =
    settled_one (FindsField m k) c e f g a b (λ c f g. field_one) (at_one (start_one r s)) x u y v

pub rmethod_one : {m : World} {d : Name} {t : Named} {k : Key} {a b : Answer} → ResolvesMethod m d t k a → ResolvesMethod m d t k b → a ≡ b
rmethod_one (rmethod.ends s) (rmethod.ends r) = ends_one (start_one s r)
rmethod_one (rmethod.ends s) (rmethod.interface r i e) = at_ends (start_one r s)
rmethod_one (rmethod.ends s) (rmethod.looks r i f g) = at_ends (start_one r s)
rmethod_one (rmethod.interface s i e) (rmethod.ends r) = at_ends (start_one s r)
rmethod_one (rmethod.interface s i e) (rmethod.interface r j f) = e ∙ ap (answer.Error Incompatible) (at_one (start_one s r)) ∙ sym f
rmethod_one {m = m} (rmethod.interface s i e) (rmethod.looks r j f g) = apart (ap (λ c. is_interface (m c)) (at_one (start_one r s)) ∙ i) j
rmethod_one (rmethod.looks s i x y) (rmethod.ends r) = at_ends (start_one s r)
rmethod_one {m = m} (rmethod.looks s i x y) (rmethod.interface r j e) = apart (ap (λ c. is_interface (m c)) (at_one (start_one s r)) ∙ j) i
rmethod_one {m = m} {k = k} {a = a} {b = b} (rmethod.looks {c} {f} s i x y) (rmethod.looks {c = e} {f = g} r j u v) =
    settled_one (FindsMethod m k) c e f g a b (λ c f g. method_one) (at_one (start_one r s)) x u y v

pub rimethod_one : {m : World} {d : Name} {t : Named} {k : Key} {a b : Answer} → ResolvesInterfaceMethod m d t k a → ResolvesInterfaceMethod m d t k b → a ≡ b
rimethod_one (rimethod.ends s) (rimethod.ends r) = ends_one (start_one s r)
rimethod_one (rimethod.ends s) (rimethod.no_interface r i e) = at_ends (start_one r s)
rimethod_one (rimethod.ends s) (rimethod.looks r i f g) = at_ends (start_one r s)
rimethod_one (rimethod.no_interface s i e) (rimethod.ends r) = at_ends (start_one s r)
rimethod_one (rimethod.no_interface s i e) (rimethod.no_interface r j f) = e ∙ sym f
rimethod_one {m = m} (rimethod.no_interface s i e) (rimethod.looks r j f g) = apart j (ap (λ c. is_interface (m c)) (at_one (start_one r s)) ∙ i)
rimethod_one (rimethod.looks s i x y) (rimethod.ends r) = at_ends (start_one s r)
rimethod_one {m = m} (rimethod.looks s i x y) (rimethod.no_interface r j e) = apart i (ap (λ c. is_interface (m c)) (at_one (start_one s r)) ∙ j)
rimethod_one {m = m} {k = k} {a = a} {b = b} (rimethod.looks {c} {f} s i x y) (rimethod.looks {c = e} {f = g} r j u v) =
    settled_one (FindsInterfaceMethod m k) c e f g a b (λ c f g. imethod_one) (at_one (start_one r s)) x u y v
