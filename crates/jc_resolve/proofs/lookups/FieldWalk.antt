-- The steps of look-up of a field.
use Rattle.std.proofs.Common.{◌≡◌, ℕ, ◌<◌, Bool, true, false, List, [], ◌∷◌, ◌++◌, map, length, set, take, drop, cond, is_some, reverse, length-set, Option, Some, None, option_map, refl, sym, ap, subst, ◌∙◌, ◌⊎◌, inl, inr, ⊎_elim, arith, append_assoc, append-nil}
use Rattle.std.proofs.lemmas.List.{map-append, reverse-append}
use Rattle.std.proofs.lemmas.Bool.{false≢true}
use Rattle.std.proofs.lemmas.List.Elements.{All-head, All-tail, All-append, All-nil, All-cons, All-weaker, All-take, All-drop, All-contains_itself}
use Rattle.std.specs.List.{All, Contains}
use Rattle.std.specs.Option.{option_to_list}
use Rattle.jc_classes.specs.Names.{Name}
use Rattle.jc_classes.specs.Facts.{Member, Key}
use Rattle.jc_classes.specs.Worlds.{World, Found, fields_of, member, superclass_of, interfaces_of}
use Rattle.jc_classes.specs.FieldLookup.{FindsField, FindsFirst, onward, FindsField as field, FindsFirst as first}
use Rattle.jc_graph.specs.Seen.{flag_at}
use Rattle.jc_numbered.specs.inside.Indexed.{Indexed, indexed_name, standing_of, rank_at, good_at, superclass_count, onward_nodes, IsGraph, IsIndexed}
use Rattle.jc_resolve.specs.inside.Looking.{names_at, Told, Looking, Going}
use Rattle.jc_graph.proofs.marked.SeenLemmas.{flag_cases}

single : {m : World} {k : Key} {c : Name} {a : Option Found} → FindsFirst m k (c ∷ []) a → FindsField m k c a
single (first.here l) = l
single (first.later l first.nowhere) = l

module _ (m : World) (k : Key) where
  -- what is found in two lists is found in the first, or else in the second
  split : (qs rs : List Name) (a : Option Found) → FindsFirst m k (qs ++ rs) a → ((f : Found) × (a ≡ Some f) × FindsFirst m k qs (Some f)) ⊎ (FindsFirst m k qs None × FindsFirst m k rs a)
  split [] rs a h = inr (first.nowhere, h)
  split (q ∷ qs) rs a (first.here {f = f} l) = inl (f, refl, first.here l)
  split (q ∷ qs) rs a (first.later l h) = ⊎_elim (λ p. inl (p.0, p.1, first.later l p.2)) (λ p. inr (first.later l p.0, p.1)) (split qs rs a h)

  -- where a class goes on to a list, that list stands for it
  grouped : (c : Name) (qs rs : List Name) (a : Option Found) → member (fields_of (m c)) k ≡ None → qs ≡ onward (m c) → FindsFirst m k (qs ++ rs) a → FindsFirst m k (c ∷ rs) a
  grouped c qs rs a e o h = ⊎_elim
      (λ p. subst (λ b. FindsFirst m k (c ∷ rs) b) (sym p.1) (first.here (field.inherited e (subst (λ l. FindsFirst m k l (Some p.0)) o p.2))))
      (λ p. first.later (field.inherited e (subst (λ l. FindsFirst m k l None) o p.0)) p.1)
      (split qs rs a h)

cons_head : {v w : ℕ} {vs ws : List ℕ} → v ∷ vs ≡ w ∷ ws → w ≡ v
cons_head e = cc

cons_tail : {v w : ℕ} {vs ws : List ℕ} → v ∷ vs ≡ w ∷ ws → vs ≡ ws
cons_tail e = cc

module _ (m : World) (k : Key) (x : Indexed) where
  abbrev Finds : List ℕ → Option Found → Type 0
  Finds vs a = FindsFirst m k (names_at x vs) a

  names_append : (vs ws : List ℕ) → names_at x (vs ++ ws) ≡ names_at x vs ++ names_at x ws
  names_append vs ws = map-append (indexed_name x) vs ws

  -- the head of a stack that was seen finds nothing
  none_at : (v : ℕ) (rest front more : List ℕ) → v ∷ rest ≡ front ++ more → All (λ w. rank_at x w < rank_at x v) front → (Finds front None → FindsField m k (indexed_name x v) None) → FindsField m k (indexed_name x v) None
  none_at v rest [] more e b n = n first.nowhere
  none_at v rest (w ∷ front) more e b n =
      let l = All-head (λ w. rank_at x w < rank_at x v) w front b in
      let s = subst (λ z. rank_at x z < rank_at x v) (cons_head e) l in
      absurd (omega arith)

  pub head_none : (v : ℕ) (rest : List ℕ) → Told m k x (v ∷ rest) v → FindsField m k (indexed_name x v) None
  head_none v rest t = none_at v rest t.front t.rest t.is t.below t.nothing

  skip_told : (v u : ℕ) (rest front more : List ℕ) → FindsField m k (indexed_name x v) None → v ∷ rest ≡ front ++ more → All (λ w. rank_at x w < rank_at x u) front → (Finds front None → FindsField m k (indexed_name x u) None) → Told m k x rest u
  skip_told v u rest [] more h e b n = record { front = []; rest = rest; is = refl; below = b; nothing = n }
  skip_told v u rest (w ∷ front) more h e b n = record {
    front = front;
    rest = more;
    is = cons_tail e;
    below = All-tail (λ w. rank_at x w < rank_at x u) w front b;
    nothing = λ f. n (first.later (subst (λ z. FindsField m k (indexed_name x z) None) (sym (cons_head e)) h) f);
  }

  add_told : (v u : ℕ) (ps rest front more : List ℕ) → member (fields_of (m (indexed_name x v))) k ≡ None → names_at x ps ≡ onward (m (indexed_name x v)) → All (λ w. rank_at x w < rank_at x v) ps → v ∷ rest ≡ front ++ more → All (λ w. rank_at x w < rank_at x u) front → (Finds front None → FindsField m k (indexed_name x u) None) → Told m k x (ps ++ rest) u
  add_told v u ps rest [] more o p l e b n = record { front = []; rest = ps ++ rest; is = refl; below = b; nothing = n }
  add_told v u ps rest (w ∷ front) more o p l e b n =
      let q : w ≡ v = cons_head e in
      let h : rank_at x v < rank_at x u = subst (λ z. rank_at x z < rank_at x u) q (All-head (λ w. rank_at x w < rank_at x u) w front b) in
      record {
        front = ps ++ front;
        rest = more;
        is = ap (λ z. ps ++ z) (cons_tail e) ∙ sym (append_assoc ps front more);
        below = All-append (λ w. rank_at x w < rank_at x u) ps front (All-weaker (λ w. rank_at x w < rank_at x v) (λ w. rank_at x w < rank_at x u) (λ w s. omega arith) ps l) (All-tail (λ w. rank_at x w < rank_at x u) w front b);
        nothing = λ f. n (subst (λ z. FindsFirst m k (indexed_name x z ∷ names_at x front) None) (sym q)
            (grouped m k (indexed_name x v) (names_at x ps) (names_at x front) None o p (subst (λ l. FindsFirst m k l None) (names_append ps front) f)));
      }

  pub looking_start : (start : ℕ) (flags : List Bool) → ((v : ℕ) → flag_at flags v ≡ false) → Looking m k x start (start ∷ []) flags
  looking_start start flags n = record { whole = λ a h. single h; told = λ v e. absurd (false≢true (sym (n v) ∙ e)) }

  pub looking_skip : (start v : ℕ) (rest : List ℕ) (flags : List Bool) → Looking m k x start (v ∷ rest) flags → flag_at flags v ≡ true → Looking m k x start rest flags
  looking_skip start v rest flags g s =
      let h = head_none v rest (g.told v s) in
      record {
        whole = λ a f. g.whole a (first.later h f);
        told = λ u e. let t = g.told u e in skip_told v u rest t.front t.rest h t.is t.below t.nothing;
      }

  pub looking_add : (start v : ℕ) (ps rest : List ℕ) (flags : List Bool) → Looking m k x start (v ∷ rest) flags → member (fields_of (m (indexed_name x v))) k ≡ None → names_at x ps ≡ onward (m (indexed_name x v)) → All (λ w. rank_at x w < rank_at x v) ps → Looking m k x start (ps ++ rest) (set flags v true)
  looking_add start v ps rest flags g o p l = record {
    whole = λ a f. g.whole a (grouped m k (indexed_name x v) (names_at x ps) (names_at x rest) a o p (subst (λ l. FindsFirst m k l a) (names_append ps rest) f));
    told = λ u e. ⊎_elim
        (λ s. subst (λ z. Told m k x (ps ++ rest) z) (sym s) (record { front = ps; rest = rest; is = refl; below = l; nothing = λ f. field.inherited o (subst (λ l. FindsFirst m k l None) p f) }))
        (λ s. let t = g.told u s in add_told v u ps rest t.front t.rest o p l t.is t.below t.nothing)
        (flag_cases flags v u e);
  }

  pub looking_found : (start v : ℕ) (y : Member) (rest : List ℕ) (flags : List Bool) → Looking m k x start (v ∷ rest) flags → member (fields_of (m (indexed_name x v))) k ≡ Some y → FindsField m k (indexed_name x start) (Some (record { home = indexed_name x v; member = y }))
  looking_found start v y rest flags g e = g.whole _ (first.here (field.own e))

-- ---- supertypes and names

drop_taken : (direct : List ℕ) (f : ℕ → Name) (o : Option Name) (is : List Name) → map f direct ≡ option_to_list o ++ is → map f (drop (cond (is_some o) 1 0) direct ++ take (cond (is_some o) 1 0) direct) ≡ is ++ option_to_list o
drop_taken direct f None is e = ap (map f) (append-nil direct) ∙ e ∙ sym (append-nil is)
drop_taken [] f (Some s) is e = absurd cc
drop_taken (v ∷ direct) f (Some s) is e =
    map-append f direct (v ∷ []) ∙ ap (λ z. z ++ f v ∷ []) (tail_of e) ∙ ap (λ z. is ++ z ∷ []) (head_of e)
  where
    tail_of : {a b : Name} {as1 bs : List Name} → a ∷ as1 ≡ b ∷ bs → as1 ≡ bs
    tail_of e = cc

    head_of : {a b : Name} {as1 bs : List Name} → a ∷ as1 ≡ b ∷ bs → a ≡ b
    head_of e = cc

pub onward_names : (m : World) (x : Indexed) → IsIndexed m x → (v : ℕ) → v < length x.names → names_at x (onward_nodes x v) ≡ onward (m (indexed_name x v))
onward_names m x h v l = drop_taken (x.supertypes v) (indexed_name x) (superclass_of (standing_of x v)) (interfaces_of (standing_of x v)) (h.supertypes v l) ∙ ap onward (sym (h.standing v l))

-- what holds of each supertype holds of each node where look-up goes on
pub onward_all : (x : Indexed) (P : ℕ → Type 0) (v : ℕ) → ((w : ℕ) → Contains (x.supertypes v) w → P w) → All P (onward_nodes x v)
onward_all x P v h =
    let n = superclass_count (standing_of x v) in
    let all : All P (x.supertypes v) = All-weaker (Contains (x.supertypes v)) P h (x.supertypes v) (All-contains_itself (x.supertypes v)) in
    All-append P (drop n (x.supertypes v)) (take n (x.supertypes v)) (All-drop P n (x.supertypes v) all) (All-take P n (x.supertypes v) all)

module _ (count : ℕ) (x : Indexed) (graph : IsGraph count x) (k : Key) (start : ℕ) where
  pub going_start : (flags : List Bool) → start < count → good_at x start ≡ true → length flags ≡ count → ((v : ℕ) → flag_at flags v ≡ false) → Going count x k start (start ∷ []) flags
  going_start flags l g s n = record {
    nodes = All-cons (λ v. v < count) start [] l (All-nil (λ v. v < count));
    good = All-cons (λ v. good_at x v ≡ true) start [] g (All-nil (λ v. good_at x v ≡ true));
    size = s;
    looking = λ m h. looking_start m k x start flags n;
  }

  pub going_skip : (v : ℕ) (rest : List ℕ) (flags : List Bool) → Going count x k start (v ∷ rest) flags → flag_at flags v ≡ true → Going count x k start rest flags
  going_skip v rest flags g s = record {
    nodes = All-tail (λ v. v < count) v rest g.nodes;
    good = All-tail (λ v. good_at x v ≡ true) v rest g.good;
    size = g.size;
    looking = λ m h. looking_skip m k x start v rest flags (g.looking m h) s;
  }

  pub head_in : (v : ℕ) (rest : List ℕ) (flags : List Bool) → Going count x k start (v ∷ rest) flags → v < count
  head_in v rest flags g = All-head (λ v. v < count) v rest g.nodes

  pub going_add : (v : ℕ) (rest : List ℕ) (flags : List Bool) → Going count x k start (v ∷ rest) flags → member (fields_of (standing_of x v)) k ≡ None → Going count x k start (onward_nodes x v ++ rest) (set flags v true)
  going_add v rest flags g none =
      let good = All-head (λ v. good_at x v ≡ true) v rest g.good in
      record {
        nodes = All-append (λ v. v < count) (onward_nodes x v) rest (onward_all x (λ v. v < count) v (graph.nodes v)) (All-tail (λ v. v < count) v rest g.nodes);
        good = All-append (λ v. good_at x v ≡ true) (onward_nodes x v) rest (onward_all x (λ v. good_at x v ≡ true) v (λ w. graph.stays v w good)) (All-tail (λ v. good_at x v ≡ true) v rest g.good);
        size = length-set flags v true ∙ g.size;
        looking = λ m h. let l : v < length x.names = let q = head_in v rest flags g in let e = graph.names in omega arith in
            looking_add m k x start v (onward_nodes x v) rest flags (g.looking m h) (ap (λ r. member (fields_of r) k) (h.standing v l) ∙ none) (onward_names m x h v l)
            (onward_all x (λ w. rank_at x w < rank_at x v) v (λ w. graph.falls v w good));
      }

  pub going_found : (v : ℕ) (y : Member) (rest : List ℕ) (flags : List Bool) → Going count x k start (v ∷ rest) flags → member (fields_of (standing_of x v)) k ≡ Some y → (m : World) → IsIndexed m x → FindsField m k (indexed_name x start) (Some (record { home = indexed_name x v; member = y }))
  going_found v y rest flags g e m h =
      let l : v < length x.names = let q = head_in v rest flags g in let e = graph.names in omega arith in
      looking_found m k x start v y rest flags (g.looking m h) (ap (λ r. member (fields_of r) k) (h.standing v l) ∙ e)

  pub going_end : (flags : List Bool) → Going count x k start [] flags → (m : World) → IsIndexed m x → FindsField m k (indexed_name x start) None
  going_end flags g m h = (g.looking m h).whole None first.nowhere

pub popped : (old new : List ℕ) (v : ℕ) → old ≡ new ++ v ∷ [] → reverse old ≡ v ∷ reverse new
popped old new v e = ap reverse e ∙ reverse-append new (v ∷ [])

pub none_of : {X Y : Type 0} (f : X → Y) (o : Option Y) (r : Option X) → option_map f r ≡ o → ((y : X) → r ≡ Some y → ⊥) → o ≡ None
none_of f o None e n = sym e
none_of f o (Some y) e n = absurd (n y refl)

pub popped_going : (count : ℕ) (x : Indexed) (k : Key) (start : ℕ) (old new : List ℕ) (v : ℕ) (flags : List Bool) → old ≡ new ++ v ∷ [] → Going count x k start (reverse old) flags → Going count x k start (v ∷ reverse new) flags
popped_going count x k start old new v flags e g = subst (λ s. Going count x k start s flags) (popped old new v e) g

pub popped_less : (count : ℕ) (x : Indexed) (k : Key) (start : ℕ) (old new : List ℕ) (v : ℕ) (flags : List Bool) → old ≡ new ++ v ∷ [] → Going count x k start (reverse old) flags → v < count
popped_less count x k start old new v flags e g = All-head (λ v. v < count) v (reverse new) (popped_going count x k start old new v flags e g).nodes

pub no_items : (xs : List ℕ) → length xs ≡ 0 → xs ≡ []
no_items [] e = refl
no_items (x ∷ xs) e = absurd (omega arith)
