-- Locality: a rule asks only for names that are above what it was asked for.
use Rattle.jc_classes.specs.Resolution.{Answer as answer}
use Rattle.std.proofs.Common.{◌≡◌, true, false, List, [], ◌∷◌, ◌++◌, map, Option, Some, None, refl, sym, ap, subst, inl, inr, ⊎_elim, zero, arith}
use Rattle.std.specs.List.{Contains}
use Rattle.std.specs.Option.{option_to_list, option_map_or}
use Rattle.std.proofs.lemmas.List.Elements.{Contains-append_left, Contains-append_right, Contains-append_cases}
use Rattle.jc_classes.specs.Facts.{Facts, Key, Named}
use Rattle.jc_classes.specs.Names.{Name, object}
use Rattle.jc_classes.specs.Worlds.{World, Stands, Above, Extends, Found, superclass_of, interfaces_of, supertypes_of, fields_of, methods_of, flags_of, is_interface, member}
use Rattle.jc_classes.specs.Worlds.{Above as above, Extends as extends, Stands as stands}
use Rattle.jc_classes.specs.FieldLookup.{FindsField, FindsFirst, onward, FindsField as field, FindsFirst as first}
use Rattle.jc_classes.specs.MethodLookup.{IsCandidate, IsMaximal, IsOnly, IsLeast, given_by, declared, of_object, FindsInClasses, FindsAbove, FindsMethod, FindsInterfaceMethod}
use Rattle.jc_classes.specs.MethodLookup.{FindsInClasses as chain, FindsAbove as up, FindsMethod as method, FindsInterfaceMethod as imethod}
use Rattle.jc_classes.specs.Loading.{Load, LoadEach, Loading, Supertype, direct_supertypes, can_see, judged, same_bool, Load as load, LoadEach as each}
use Rattle.jc_classes.specs.declared.linkage_error.LinkageError.{LinkageError}
use Rattle.jc_classes.specs.Access.{CanUse, IsWithin, IsRelated, CanUse as may}
use Rattle.jc_classes.specs.Resolution.{Answer, Start, ResolvesClass, Starts, IsOutsideAbove, Settles, ResolvesField, ResolvesMethod, ResolvesInterfaceMethod}
use Rattle.jc_classes.specs.Resolution.{class_answer, ResolvesClass as rclass, Settles as settles, ResolvesField as rfield, ResolvesMethod as rmethod, ResolvesInterfaceMethod as rimethod}
use Rattle.jc_classes.specs.Resolution.Starts.{starts}
use Rattle.jc_classes.specs.Resolution.Start.{At}
use Rattle.jc_classes.specs.Resolution.{start_of, object_start}
use Rattle.jc_classes.specs.Loading.Loading.{Loaded, Outside, Fails}
use Rattle.jc_classes.specs.Facts.Named.{Class, Array}

-- two maps agree at a set of names that is closed under supertypes
pub record Agree (R : Name → Type 0) (m n : World) : Type 0 where
  pub same : (x : Name) → R x → m x ≡ n x
  pub closed : (x s : Name) → R x → Contains (supertypes_of (m x)) s → R s

-- the set holds the class that is named, or the innermost one of the array
abbrev pub Holds : (Name → Type 0) → Named → Type 0
Holds R (Class c) = R c
Holds R (Array t e) = (c : Name) → e ≡ Some c → R c

pub agree_back : (R : Name → Type 0) (m n : World) → Agree R m n → Agree R n m
agree_back R m n g = record {
  same = λ x r. sym (g.same x r);
  closed = λ x s r h. g.closed x s r (subst (λ o. Contains (supertypes_of o) s) (sym (g.same x r)) h);
}

pub contains_head : (s : Name) (ss : List Name) → Contains (s ∷ ss) s
contains_head s ss = (zero, omega arith, refl)

pub contains_later : (s : Name) (ss : List Name) (x : Name) → Contains ss x → Contains (s ∷ ss) x
contains_later s ss x h = Contains-append_right (s ∷ []) ss x h

pub super_in : (o : Stands) (s : Name) → superclass_of o ≡ Some s → Contains (supertypes_of o) s
super_in o s e = Contains-append_left (option_to_list (superclass_of o)) (interfaces_of o) s (subst (λ x. Contains (option_to_list x) s) (sym e) (contains_head s []))

pub onward_in : (o : Stands) (s : Name) → Contains (onward o) s → Contains (supertypes_of o) s
onward_in o s h = ⊎_elim
    (λ i. Contains-append_right (option_to_list (superclass_of o)) (interfaces_of o) s i)
    (λ i. Contains-append_left (option_to_list (superclass_of o)) (interfaces_of o) s i)
    (Contains-append_cases (interfaces_of o) (option_to_list (superclass_of o)) s h)

at_is : {c d : Name} → At c ≡ At d → c ≡ d
at_is e = cc

-- ---- what the rules read of a supertype

abbrev pub names_of : List Supertype → List Name
names_of ps = map (λ (p : Supertype). p.name) ps

supertype_head : (p : Supertype) (ps : List Supertype) → Contains (names_of (p ∷ ps)) p.name
supertype_head p ps = contains_head p.name (names_of ps)

supertype_later : (p : Supertype) (ps : List Supertype) (s : Name) → Contains (names_of ps) s → Contains (names_of (p ∷ ps)) s
supertype_later p ps s h = contains_later p.name (names_of ps) s h

pub direct_supertypes_are : (r : Facts) → names_of (direct_supertypes r) ≡ option_to_list r.superclass ++ r.interfaces
direct_supertypes_are r = by r.superclass r.interfaces
  where
    names : (xs : List Name) → map (λ (p : Supertype). p.name) (map (λ x. let p : Supertype = record { is_class = false; name = x } in p) xs) ≡ xs
    names [] = refl
    names (x ∷ xs) = ap (λ ys. x ∷ ys) (names xs)

    by : (o : Option Name) (is : List Name) → map (λ (p : Supertype). p.name) (option_map_or (λ s. (let p : Supertype = record { is_class = true; name = s } in p) ∷ []) o [] ++ map (λ s. let p : Supertype = record { is_class = false; name = s } in p) is) ≡ option_to_list o ++ is
    by None is = names is
    by (Some s) is = ap (λ ys. s ∷ ys) (names is)

pub above_in : {R : Name → Type 0} {m n : World} {b x : Name} → Agree R m n → R b → Above m b x → R x
above_in {b = b} {x = x} g r (above.direct h) = g.closed b x r h
above_in {x = x} g r (above.further {mid} a h) = g.closed mid x (above_in g r a) h

module _ (R : Name → Type 0) (m n : World) (g : Agree R m n) where
  along : (P : Stands → Type 0) (x : Name) → R x → P (m x) → P (n x)
  along P x r h = subst P (g.same x r) h

  pub above_there : {b x : Name} → R b → Above m b x → Above n b x
  above_there {b} {x} r (above.direct h) = above.direct (along (λ o. Contains (supertypes_of o) x) b r h)
  above_there {b} {x} r (above.further {mid} a h) = above.further (above_there r a) (along (λ o. Contains (supertypes_of o) x) mid (above_in g r a) h)

  pub extends_there : {b x : Name} → R b → Extends m b x → Extends n b x
  extends_there r extends.itself = extends.itself
  extends_there {b} r (extends.through {s = s} e h) =
      extends.through (along (λ o. superclass_of o ≡ Some s) b r e) (extends_there (g.closed b s r (super_in (m b) s e)) h)

  abbrev Within : List Name → Type 0
  Within ss = (s : Name) → Contains ss s → R s

  onward_within : (c : Name) → R c → Within (onward (m c))
  onward_within c r s h = g.closed c s r (onward_in (m c) s h)

  mutual
    pub field_there : {k : Key} {c : Name} {a : Option Found} → R c → FindsField m k c a → FindsField n k c a
    field_there {k} {c} r (field.own {x = x} e) = field.own (along (λ o. member (fields_of o) k ≡ Some x) c r e)
    field_there {k} {c} {a} r (field.inherited e l) =
        field.inherited (along (λ o. member (fields_of o) k ≡ None) c r e) (along (λ o. FindsFirst n k (onward o) a) c r (first_there (onward_within c r) l))

    pub first_there : {k : Key} {ss : List Name} {a : Option Found} → Within ss → FindsFirst m k ss a → FindsFirst n k ss a
    first_there w first.nowhere = first.nowhere
    first_there w (first.here {s} {more} l) = first.here (field_there (w s (contains_head s more)) l)
    first_there w (first.later {s} {more} l x) = first.later (field_there (w s (contains_head s more)) l) (first_there (λ y h. w y (contains_later s more y h)) x)

  pub chain_there : {k : Key} {c : Name} {a : Option Found} → R c → FindsInClasses m k c a → FindsInClasses n k c a
  chain_there {k} {c} r (chain.own {x = x} e) = chain.own (along (λ o. declared c o k ≡ Some x) c r e)
  chain_there {k} {c} r (chain.inherited {s = s} e f l) =
      chain.inherited (along (λ o. declared c o k ≡ None) c r e) (along (λ o. superclass_of o ≡ Some s) c r f) (chain_there (g.closed c s r (super_in (m c) s f)) l)
  chain_there {k} {c} r (chain.nowhere e f) = chain.nowhere (along (λ o. declared c o k ≡ None) c r e) (along (λ o. superclass_of o ≡ None) c r f)

  pub candidate_there : {k : Key} {c : Name} {f : Found} → R c → IsCandidate m k c f → IsCandidate n k c f
  candidate_there {k} {c} {f} r i = record {
    above = above_there r i.above;
    given = along (λ o. given_by o k ≡ Some f.member) f.home (above_in g r i.above) i.given;
  }

  pub outside_there : {c x : Name} → R c → IsOutsideAbove m c x → IsOutsideAbove n c x
  outside_there {x = x} r i = record { above = above_there r i.above; outside = along (λ o. o ≡ stands.Outside) x (above_in g r i.above) i.outside }

  pub within_there : {a b : Name} → R a → IsWithin m a b → IsWithin n a b
  within_there r h = ⊎_elim (λ e. inl (extends_there r e)) inr h

module _ (R : Name → Type 0) (m n : World) (g : Agree R m n) where
  back : Agree R n m
  back = agree_back R m n g

  pub maximal_there : {k : Key} {c : Name} {f : Found} → R c → IsMaximal m k c f → IsMaximal n k c f
  maximal_there r i = record {
    candidate = candidate_there R m n g r i.candidate;
    lowest = λ j x a. let y = candidate_there R n m back r x in i.lowest j y (above_there R n m back (above_in g r y.above) a);
  }

module _ (R : Name → Type 0) (m n : World) (g : Agree R m n) where
  back2 : Agree R n m
  back2 = agree_back R m n g

  pub only_there : {k : Key} {c : Name} {f : Found} → R c → IsOnly m k c f → IsOnly n k c f
  only_there r i = record {
    maximal = maximal_there R m n g r i.maximal;
    concrete = i.concrete;
    only = λ j x h. i.only j (maximal_there R n m back2 r x) h;
  }

  pub least_there : {k : Key} {c : Name} {f : Found} → R c → IsLeast m k c f → IsLeast n k c f
  least_there r i = record {
    candidate = candidate_there R m n g r i.candidate;
    least = λ j x. i.least j (candidate_there R n m back2 r x);
  }

module _ (R : Name → Type 0) (m n : World) (g : Agree R m n) where
  back3 : Agree R n m
  back3 = agree_back R m n g

  pub up_there : {k : Key} {c : Name} {a : Option Found} → R c → FindsAbove m k c a → FindsAbove n k c a
  up_there r (up.only i) = up.only (only_there R m n g r i)
  up_there r (up.least x i) = up.least (λ j y. x j (only_there R n m back3 r y)) (least_there R m n g r i)
  up_there r (up.nowhere x) = up.nowhere (λ j y. x j (candidate_there R n m back3 r y))

  pub method_there : {k : Key} {c : Name} {a : Option Found} → R c → FindsMethod m k c a → FindsMethod n k c a
  method_there r (method.in_class l) = method.in_class (chain_there R m n g r l)
  method_there r (method.in_interface l x) = method.in_interface (chain_there R m n g r l) (up_there r x)

  pub imethod_there : {k : Key} {c : Name} {a : Option Found} → R c → R object → FindsInterfaceMethod m k c a → FindsInterfaceMethod n k c a
  imethod_there {k} {c} r o (imethod.own {x} e) = imethod.own (along R m n g (λ q. member (methods_of q) k ≡ Some x) c r e)
  imethod_there {k} {c} r o (imethod.in_object {x} e f) = imethod.in_object (along R m n g (λ q. member (methods_of q) k ≡ None) c r e) (along R m n g (λ q. of_object q k ≡ Some x) object o f)
  imethod_there {k} {c} r o (imethod.in_interface e f l) = imethod.in_interface (along R m n g (λ q. member (methods_of q) k ≡ None) c r e) (along R m n g (λ q. of_object q k ≡ None) object o f) (up_there r l)

  -- ---- loading

  abbrev Each : List Supertype → Type 0
  Each ps = (s : Name) → Contains (names_of ps) s → R s

  mutual
    pub load_there : {x : Name} {a : Loading} → R x → Load m x a → Load n x a
    load_there {x = x} r (load.missing e) = load.missing (along R m n g (λ q. q ≡ stands.Absent) x r e)
    load_there {x = x} r (load.outside e) = load.outside (along R m n g (λ q. q ≡ stands.Outside) x r e)
    load_there {x = x} r (load.faulty {r = y} e o) = load.faulty (along R m n g (λ q. q ≡ stands.Class y) x r e) o
    load_there {x = x} r (load.round {r = y} e o a) = load.round (along R m n g (λ q. q ≡ stands.Class y) x r e) o (above_there R m n g r a)
    load_there {x = x} r (load.through {r = y} e o z l) = load.through (along R m n g (λ q. q ≡ stands.Class y) x r e) o (λ a. z (above_there R n m back3 r a))
        (each_there r (λ s h. g.closed x s r (subst (λ q. Contains (supertypes_of q) s) (sym e) (subst (λ ss. Contains ss s) (direct_supertypes_are y) h))) l)

    pub each_there : {x : Name} {ps : List Supertype} {a : Loading} → R x → Each ps → LoadEach m x ps a → LoadEach n x ps a
    each_there r h each.none = each.none
    each_there {x} r h (each.stops {p = p} {ps = ps} {a = a} {b = b} l e) = let q = h p.name (supertype_head p ps) in
        each.stops (load_there q l) (along R m n g (λ o. judged a (can_see x p.name o) (same_bool (is_interface o) p.is_class) p.name ≡ Some b) p.name q e)
    each_there {x} r h (each.passes {p = p} {ps = ps} {a = a} l e y) = let q = h p.name (supertype_head p ps) in
        each.passes (load_there q l) (along R m n g (λ o. judged a (can_see x p.name o) (same_bool (is_interface o) p.is_class) p.name ≡ None) p.name q e) (each_there r (λ s i. h s (supertype_later p ps s i)) y)

  -- ---- references

  pub rclass_there : {d : Name} {t : Named} {a : Answer} → Holds R t → ResolvesClass m d t a → ResolvesClass n d t a
  rclass_there {d} {a = a} r (rclass.class {c} {l} h e) = rclass.class (load_there r h) (along R m n g (λ o. a ≡ class_answer c c l (can_see d c o) (flags_of o)) c r e)
  rclass_there r rclass.primitives = rclass.primitives
  rclass_there {d} {a = a} r (rclass.array {t} {e = c} {l} h e) = let q = r c refl in
      rclass.array (load_there q h) (along R m n g (λ o. a ≡ class_answer t c l (can_see d c o) 0) c q e)

  pub start_there : {d : Name} {t : Named} {s : Start} → R object → Holds R t → Starts m d t s → Starts n d t s
  start_there o r (starts x l e) = starts (rclass_there r x) (load_there o l) e

  related_there : (t : Named) (d : Name) → R d → Holds R t → IsRelated m t d → IsRelated n t d
  related_there (Class t) d r h x = ⊎_elim (λ e. inl (within_there R m n g h e)) (λ e. inr (within_there R m n g r e)) x
  related_there (Array t e) d r h x = x

  pub may_there : {d : Name} {t : Named} {f : Found} → R d → Holds R t → CanUse m d t f → CanUse n d t f
  may_there r h (may.open_to_all e) = may.open_to_all e
  may_there {d = d} {t = t} r h (may.inherited e i x) = may.inherited e (within_there R m n g r i) (⊎_elim inl (λ y. inr (related_there t d r h y)) x)
  may_there r h (may.in_package e i) = may.in_package e i
  may_there r h (may.own e i) = may.own e i

module _ (R : Name → Type 0) (m n : World) (g : Agree R m n) where
  back4 : Agree R n m
  back4 = agree_back R m n g

  pub settles_there : {d : Name} {t : Named} {c : Name} {x : LinkageError} {f : Option Found} {a : Answer} → R d → R c → Holds R t → Settles m d t c x f a → Settles n d t c x f a
  settles_there r s h (settles.found u) = settles.found (may_there R m n g r h u)
  settles_there r s h (settles.hidden u) = settles.hidden (λ v. u (may_there R n m back4 r h v))
  settles_there r s h (settles.outside i l) = settles.outside (outside_there R m n g s i) (λ j y. l j (outside_there R n m back4 s y))
  settles_there r s h (settles.nowhere l) = settles.nowhere (λ j y. l j (outside_there R n m back4 s y))

  -- look-up begins at a name of the set
  object_within : (l : Loading) (c : Name) → R object → At c ≡ object_start l → R c
  object_within Loaded c o e = subst R (sym (at_is e)) o
  object_within Outside c o e = absurd cc
  object_within (Fails y x) c o e = absurd cc

  start_within : (t : Named) (a : Answer) (l : Loading) (c : Name) → R object → Holds R t → At c ≡ start_of t a l → R c
  start_within (Class t) (answer.ToClass x f) l c o h e = subst R (sym (at_is e)) h
  start_within (Class t) (answer.ToMember x y) l c o h e = absurd cc
  start_within (Class t) (answer.Outside x) l c o h e = absurd cc
  start_within (Class t) answer.NotLoaded l c o h e = absurd cc
  start_within (Class t) (answer.Error y x) l c o h e = absurd cc
  start_within (Array t i) (answer.ToClass x f) l c o h e = object_within l c o e
  start_within (Array t i) (answer.ToMember x y) l c o h e = object_within l c o e
  start_within (Array t i) (answer.Outside x) l c o h e = object_within l c o e
  start_within (Array t i) answer.NotLoaded l c o h e = object_within l c o e
  start_within (Array t i) (answer.Error y x) l c o h e = absurd cc

  starts_within : {d : Name} {t : Named} {c : Name} → R object → Holds R t → Starts m d t (At c) → R c
  starts_within {t = t} {c = c} o h (starts {a} {l} x y e) = start_within t a l c o h e

  pub rfield_there : {d : Name} {t : Named} {k : Key} {a : Answer} → R d → R object → Holds R t → ResolvesField m d t k a → ResolvesField n d t k a
  rfield_there r o h (rfield.ends s) = rfield.ends (start_there R m n g o h s)
  rfield_there r o h (rfield.looks s f x) = let q = starts_within o h s in rfield.looks (start_there R m n g o h s) (field_there R m n g q f) (settles_there r q h x)

  pub rmethod_there : {d : Name} {t : Named} {k : Key} {a : Answer} → R d → R object → Holds R t → ResolvesMethod m d t k a → ResolvesMethod n d t k a
  rmethod_there r o h (rmethod.ends s) = rmethod.ends (start_there R m n g o h s)
  rmethod_there r o h (rmethod.interface {c} s i e) = rmethod.interface (start_there R m n g o h s) (along R m n g (λ q. is_interface q ≡ true) c (starts_within o h s) i) e
  rmethod_there r o h (rmethod.looks {c} s i f x) = let q = starts_within o h s in
      rmethod.looks (start_there R m n g o h s) (along R m n g (λ q. is_interface q ≡ false) c q i) (method_there R m n g q f) (settles_there r q h x)

  pub rimethod_there : {d : Name} {t : Named} {k : Key} {a : Answer} → R d → R object → Holds R t → ResolvesInterfaceMethod m d t k a → ResolvesInterfaceMethod n d t k a
  rimethod_there r o h (rimethod.ends s) = rimethod.ends (start_there R m n g o h s)
  rimethod_there r o h (rimethod.no_interface {c} s i e) = rimethod.no_interface (start_there R m n g o h s) (along R m n g (λ q. is_interface q ≡ false) c (starts_within o h s) i) e
  rimethod_there r o h (rimethod.looks {c} s i f x) = let q = starts_within o h s in
      rimethod.looks (start_there R m n g o h s) (along R m n g (λ q. is_interface q ≡ true) c q i) (imethod_there R m n g q o f) (settles_there r q h x)
