-- Locality of reach and parts, and that a class has one part.
use Rattle.std.proofs.Common.{◌≡◌, Bool, true, false, List, [], ◌∷◌, Some, None, refl, sym, ap, subst, ◌∙◌, ◌⊎◌, inl, inr, ⊎_elim}
use Rattle.std.specs.List.{Contains}
use Rattle.std.proofs.lemmas.List.Elements.{Contains-append_left, Contains-append_right}
use Rattle.jc_classes.specs.Facts.{Named, Reference}
use Rattle.jc_classes.specs.LinkErrors.{links_of}
use Rattle.jc_classes.specs.Names.{Name, object}
use Rattle.jc_classes.specs.declared.reference.ReferenceKind.{ReferenceKind}
use Rattle.jc_classes.specs.declared.reference.ReferenceKind.TheVariants as kind
use Rattle.jc_classes.specs.Worlds.{World, Above, supertypes_of, references_of, format_faults_of, code_faults_of}
use Rattle.jc_classes.specs.Facts.Named.{Class, Array}
use Rattle.jc_classes.specs.Loading.{Loading}
use Rattle.jc_classes.specs.Loading.Loading.{Loaded, Outside, Fails}
use Rattle.jc_classes.specs.Resolution.{Answer}
use Rattle.jc_classes.specs.Parts.{class_in, names_in, Reach, ResolvesOf, IsAnswer, AreAnswers, Part, IsPart}
use Rattle.jc_classes.specs.Parts.Reach.{itself, always, reference, upward}
use Rattle.jc_classes.specs.Laws.{Differ, Avoids, Hits}
use Rattle.jc_classes.proofs.worlds.Local.{Agree, Holds}
use Rattle.jc_classes.proofs.worlds.One.{load_one, rclass_one, rfield_one, rmethod_one, rimethod_one}
use Rattle.jc_classes.proofs.worlds.Local.{contains_head, above_there, load_there, rclass_there, rfield_there, rmethod_there, rimethod_there}

bool_cases : (b : Bool) → (b ≡ true) ⊎ (b ≡ false)
bool_cases true = inl refl
bool_cases false = inr refl

-- ---- reach

module _ (touched : Name → Bool) (m k : World) (d : Name) (differ : Differ touched m k) where
  -- up to the first touched name, a way in one map is a way in the other
  pub reach_or_hits : {n : Name} → Reach m d n → Reach k d n ⊎ Hits touched k d
  reach_or_hits itself = inl itself
  reach_or_hits always = inl always
  reach_or_hits {n} (reference h) =
      ⊎_elim
      (λ t. inr (d, t, itself))
      (λ t. inl (reference (subst (λ r. Contains (names_in (references_of r)) n) (differ d t) h)))
      (bool_cases (touched d))
  reach_or_hits {n} (upward {mid} r h) =
      ⊎_elim
      (λ q. ⊎_elim
      (λ t. inr (mid, t, q))
      (λ t. inl (upward q (subst (λ r. Contains (supertypes_of r) n) (differ mid t) h)))
      (bool_cases (touched mid)))
      inr
      (reach_or_hits r)

  pub hits_either : Hits touched m d → Hits touched k d
  hits_either h = ⊎_elim (λ q. (h.0, h.1, q)) (λ q. q) (reach_or_hits h.2)

module _ (touched : Name → Bool) (m k : World) (d : Name) (differ : Differ touched m k) (avoids : Avoids touched m d) where
  same_at : {n : Name} → Reach m d n → m n ≡ k n
  same_at {n} r = differ n (avoids n r)

  pub reach_there : {n : Name} → Reach m d n → Reach k d n
  reach_there itself = itself
  reach_there always = always
  reach_there {n} (reference h) = reference (subst (λ o. Contains (names_in (references_of o)) n) (same_at itself) h)
  reach_there {n} (upward r h) = upward (reach_there r) (subst (λ o. Contains (supertypes_of o) n) (same_at r) h)

  pub reach_back : {n : Name} → Reach k d n → Reach m d n
  reach_back itself = itself
  reach_back always = always
  reach_back {n} (reference h) = reference (subst (λ o. Contains (names_in (references_of o)) n) (sym (same_at itself)) h)
  reach_back {n} (upward q h) = let r = reach_back q in upward r (subst (λ o. Contains (supertypes_of o) n) (sym (same_at r)) h)

  pub agree : Agree (Reach m d) m k
  agree = record { same = λ x r. same_at r; closed = λ x s r h. upward r h }

  pub agree_back : Agree (Reach m d) k m
  agree_back = record { same = λ x r. sym (same_at r); closed = λ x s r h. upward r (subst (λ o. Contains (supertypes_of o) s) (sym (same_at r)) h) }

-- ---- parts

module _ (R : Name → Type 0) (m k : World) (d : Name) (g : Agree R m k) (rd : R d) (ro : R object) where
  abbrev Within : List Name → Type 0
  Within ns = (s : Name) → Contains ns s → R s

  holds : (t : Named) → Within (class_in t) → Holds R t
  holds (Class c) h = h c (contains_head c [])
  holds (Array t None) h = λ c e. absurd cc
  holds (Array t (Some i)) h = λ c e. let same : i ≡ c = cc in subst R same (h i (contains_head i []))

  resolves_there : (j : ReferenceKind) (r : Reference) (a : Answer) → Holds R r.named → ResolvesOf m d j r a → ResolvesOf k d j r a
  resolves_there kind.Class r a h x = rclass_there R m k g h x
  resolves_there kind.Field r a h x = rfield_there R m k g rd ro h x
  resolves_there kind.Method r a h x = rmethod_there R m k g rd ro h x
  resolves_there kind.InterfaceMethod r a h x = rimethod_there R m k g rd ro h x

  answer_there : (l : Loading) (r : Reference) (a : Answer) → Holds R r.named → IsAnswer m d l r a → IsAnswer k d l r a
  answer_there Loaded r a h x = resolves_there r.kind r a h x
  answer_there Outside r a h x = x
  answer_there (Fails e n) r a h x = x

  pub answers_there : (l : Loading) (rs : List Reference) (more : List Answer) → Within (names_in rs) → AreAnswers m d l rs more → AreAnswers k d l rs more
  answers_there l [] [] h x = tt
  answers_there l (r ∷ rs) (a ∷ more) h x = (
    answer_there l r a (holds r.named (λ s c. h s (Contains-append_left (class_in r.named) (names_in rs) s c))) x.0,
    answers_there l rs more (λ s c. h s (Contains-append_right (class_in r.named) (names_in rs) s c)) x.1,
  )
  answers_there l [] (a ∷ more) h x = absurd x
  answers_there l (r ∷ rs) [] h x = absurd x

module _ (touched : Name → Bool) (m k : World) (d : Name) (differ : Differ touched m k) (avoids : Avoids touched m d) where
  abbrev R : Name → Type 0
  R = Reach m d

  there : Agree R m k
  there = agree touched m k d differ avoids

  back : Agree R k m
  back = agree_back touched m k d differ avoids

  same : m d ≡ k d
  same = there.same d itself

  pub part_there : (p : Part) → IsPart m d p → IsPart k d p
  part_there p h = record {
    circular = λ e. above_there R m k there itself (h.circular e);
    not_circular = λ e a. h.not_circular e (above_there R k m back itself a);
    load = load_there R m k there itself h.load;
    format_faults = subst (λ o. p.format_faults ≡ format_faults_of o) same h.format_faults;
    code_faults = subst (λ o. p.code_faults ≡ code_faults_of o) same h.code_faults;
    answers = subst (λ o. AreAnswers k d p.load (references_of o) p.answers) same (answers_there R m k d there itself always p.load (references_of (m d)) p.answers (λ s c. reference c) h.answers);
    links = subst (λ o. p.links ≡ links_of d o p.answers) same h.links;
  }

  pub part_back : (p : Part) → IsPart k d p → IsPart m d p
  part_back p h = record {
    circular = λ e. above_there R k m back itself (h.circular e);
    not_circular = λ e a. h.not_circular e (above_there R m k there itself a);
    load = load_there R k m back itself h.load;
    format_faults = subst (λ o. p.format_faults ≡ format_faults_of o) (sym same) h.format_faults;
    code_faults = subst (λ o. p.code_faults ≡ code_faults_of o) (sym same) h.code_faults;
    answers = subst (λ o. AreAnswers m d p.load (references_of o) p.answers) (sym same)
        (answers_there R k m d back itself always p.load (references_of (k d)) p.answers (λ s c. reference (subst (λ o. Contains (names_in (references_of o)) s) (sym same) c)) h.answers);
    links = subst (λ o. p.links ≡ links_of d o p.answers) (sym same) h.links;
  }

-- ---- one part

resolves_one : (m : World) (d : Name) (j : ReferenceKind) (r : Reference) (a b : Answer) → ResolvesOf m d j r a → ResolvesOf m d j r b → a ≡ b
resolves_one m d kind.Class r a b x y = rclass_one x y
resolves_one m d kind.Field r a b x y = rfield_one x y
resolves_one m d kind.Method r a b x y = rmethod_one x y
resolves_one m d kind.InterfaceMethod r a b x y = rimethod_one x y

answer_one : (m : World) (d : Name) (l : Loading) (r : Reference) (a b : Answer) → IsAnswer m d l r a → IsAnswer m d l r b → a ≡ b
answer_one m d Loaded r a b x y = resolves_one m d r.kind r a b x y
answer_one m d Outside r a b x y = x ∙ sym y
answer_one m d (Fails e n) r a b x y = x ∙ sym y

answers_one : (m : World) (d : Name) (l : Loading) (rs : List Reference) (a b : List Answer) → AreAnswers m d l rs a → AreAnswers m d l rs b → a ≡ b
answers_one m d l [] [] [] h k = refl
answers_one m d l [] [] (y ∷ b) h k = absurd k
answers_one m d l [] (x ∷ a) b h k = absurd h
answers_one m d l (r ∷ rs) [] b h k = absurd h
answers_one m d l (r ∷ rs) (x ∷ a) [] h k = absurd k
answers_one m d l (r ∷ rs) (x ∷ a) (y ∷ b) h k = let e = answer_one m d l r x y h.0 k.0 in let f = answers_one m d l rs a b h.1 k.1 in cc

flag_one : (a b : Bool) (P : Type 0) → (a ≡ true → P) → (a ≡ false → P → ⊥) → (b ≡ true → P) → (b ≡ false → P → ⊥) → a ≡ b
flag_one true true P f g h k = refl
flag_one true false P f g h k = absurd (k refl (f refl))
flag_one false true P f g h k = absurd (g refl (h refl))
flag_one false false P f g h k = refl

part_eta : (p q : Part) → p.circular ≡ q.circular → p.load ≡ q.load → p.format_faults ≡ q.format_faults → p.code_faults ≡ q.code_faults → p.answers ≡ q.answers → p.links ≡ q.links → p ≡ q
part_eta p q e f g h k l = λ i. record { circular = e i; load = f i; format_faults = g i; code_faults = h i; answers = k i; links = l i }

pub part_one : (m : World) (d : Name) (p q : Part) → IsPart m d p → IsPart m d q → p ≡ q
part_one m d p q h k =
    let e = load_one h.load k.load in
    let same = answers_one m d q.load (references_of (m d)) p.answers q.answers (subst (λ l. AreAnswers m d l (references_of (m d)) p.answers) e h.answers) k.answers in
    part_eta p q
    (flag_one p.circular q.circular (Above m d d) h.circular h.not_circular k.circular k.not_circular)
    e
    (h.format_faults ∙ sym k.format_faults)
    (h.code_faults ∙ sym k.code_faults)
    same
    (h.links ∙ ap (links_of d (m d)) same ∙ sym k.links)
