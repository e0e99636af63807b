-- Claims after a path was added or taken out.
use Rattle.std.proofs.Common.{◌≡◌, ◌≢◌, ℕ, Bool, true, false, cond, not, ◌&&◌, ◌||◌, List, Option, Some, None, Result, Ok, Err, OnErr, is_some, refl, sym, ap, subst, ◌∙◌, ⊎_elim}
use Rattle.std.specs.FinMap as fin
use Rattle.std.proofs.lemmas.Bool.{cases_Bool}
use Rattle.jc_base.specs.Bytes.{bytes_cmp, same_bytes}
use Rattle.jc_base.proofs.maps.FiniteMaps.{get-insert, get-remove, remove-insert, same_bytes_decides, same_bytes_equiv}
use Rattle.jc_edits.specs.inside.Claims.{Paths, PathsByName, NoneEmpty, has_path, has_claim}

-- what holds in any case holds at an error
pub on_err_any : {T E P : Type 0} (r : Result T E) → P → OnErr r P
on_err_any (Ok x) p = tt
on_err_any (Err e) p = p

is_some-cond : (b : Bool) (u : Unit {0}) (o : Option (Unit {0})) → is_some (cond b (Some u) o) ≡ (b || is_some o)
is_some-cond true u o = refl
is_some-cond false u o = refl

is_some-dropped : (b : Bool) (o : Option (Unit {0})) → is_some (cond b None o) ≡ (not b && is_some o)
is_some-dropped true o = refl
is_some-dropped false o = refl

twice : (b : Bool) (x : Bool) → cond b false (cond b false x) ≡ cond b false x
twice true x = refl
twice false x = refl

-- nothing is in an empty map
pub has_key-empty : (p : List ℕ) → fin.contains_key (fin.empty {X = Unit {0}} {R = bytes_cmp}) p ≡ false
has_key-empty p = ap is_some (fin.get-empty bytes_cmp p)

pub has_claim-empty : (n p : List ℕ) → has_claim (fin.empty {X = Paths} {R = bytes_cmp}) n p ≡ false
has_claim-empty n p = ap (λ o. has_path o p) (fin.get-empty bytes_cmp n)

pub has_key-insert : (paths : Paths) (path : List ℕ) (u : Unit {0}) (p : List ℕ) → fin.contains_key (fin.insert paths path u) p ≡ (same_bytes p path || fin.contains_key paths p)
has_key-insert paths path u p = ap is_some (get-insert paths path u p) ∙ is_some-cond (same_bytes p path) u (fin.get paths p)

pub has_key-remove : (paths : Paths) (path p : List ℕ) → fin.contains_key (fin.remove paths path) p ≡ (not (same_bytes p path) && fin.contains_key paths p)
has_key-remove paths path p = ap is_some (get-remove paths path p) ∙ is_some-dropped (same_bytes p path) (fin.get paths p)

has_path-cond : (b : Bool) (x y : Option Paths) (p : List ℕ) → has_path (cond b x y) p ≡ cond b (has_path x p) (has_path y p)
has_path-cond true x y p = refl
has_path-cond false x y p = refl

has_claim-insert : (m : PathsByName) (k : List ℕ) (v : Paths) (n p : List ℕ) → has_claim (fin.insert m k v) n p ≡ cond (same_bytes n k) (fin.contains_key v p) (has_claim m n p)
has_claim-insert m k v n p = ap (λ o. has_path o p) (get-insert m k v n) ∙ has_path-cond (same_bytes n k) (Some v) (fin.get m n) p

has_claim-remove : (m : PathsByName) (k n p : List ℕ) → has_claim (fin.remove m k) n p ≡ cond (same_bytes n k) false (has_claim m n p)
has_claim-remove m k n p = ap (λ o. has_path o p) (get-remove m k n) ∙ has_path-cond (same_bytes n k) None (fin.get m n) p

-- the claims of a name are those that its paths say
has_claim_at : (m : PathsByName) (k n p : List ℕ) (o : Option Paths) → fin.get m k ≡ o → same_bytes n k ≡ true → has_claim m n p ≡ has_path o p
has_claim_at m k n p o e same = ap (λ x. has_path (fin.get m x) p) ((same_bytes_decides n k).0 same) ∙ ap (λ x. has_path x p) e

-- one path more
pub added : (m : PathsByName) (k : List ℕ) (o : Option Paths) (v : Paths) (path : List ℕ) → fin.get m k ≡ o → ((p : List ℕ) → fin.contains_key v p ≡ (same_bytes p path || has_path o p)) → (n p : List ℕ) → has_claim (fin.insert m k v) n p ≡ ((same_bytes n k && same_bytes p path) || has_claim m n p)
added m k o v path e more n p =
    has_claim-insert m k v n p ∙
    ⊎_elim
    (λ y. ap (λ b. cond b (fin.contains_key v p) (has_claim m n p)) y ∙ more p ∙ ap (λ b. same_bytes p path || b) (sym (has_claim_at m k n p o e y)) ∙ ap (λ b. (b && same_bytes p path) || has_claim m n p) (sym y))
    (λ no. ap (λ b. cond b (fin.contains_key v p) (has_claim m n p)) no ∙ ap (λ b. (b && same_bytes p path) || has_claim m n p) (sym no))
    (cases_Bool (same_bytes n k))

-- one path less
pub removed : (m : PathsByName) (k : List ℕ) (o : Option Paths) (v : Paths) (path : List ℕ) → fin.get m k ≡ o → ((p : List ℕ) → fin.contains_key v p ≡ (not (same_bytes p path) && has_path o p)) → (n p : List ℕ) → has_claim (fin.insert m k v) n p ≡ (not (same_bytes n k && same_bytes p path) && has_claim m n p)
removed m k o v path e less n p =
    has_claim-insert m k v n p ∙
    ⊎_elim
    (λ y. ap (λ b. cond b (fin.contains_key v p) (has_claim m n p)) y ∙ less p ∙ ap (λ b. not (same_bytes p path) && b) (sym (has_claim_at m k n p o e y)) ∙ ap (λ b. not (b && same_bytes p path) && has_claim m n p) (sym y))
    (λ no. ap (λ b. cond b (fin.contains_key v p) (has_claim m n p)) no ∙ ap (λ b. not (b && same_bytes p path) && has_claim m n p) (sym no))
    (cases_Bool (same_bytes n k))

-- a name without a path may go
pub emptied : (m : PathsByName) (k : List ℕ) (v : Paths) → v ≡ fin.empty → (n p : List ℕ) → has_claim (fin.remove (fin.insert m k v) k) n p ≡ has_claim (fin.insert m k v) n p
emptied m k v e n p =
    let none : has_claim (fin.insert m k v) n p ≡ cond (same_bytes n k) false (has_claim m n p) = has_claim-insert m k v n p ∙ ap (λ b. cond (same_bytes n k) b (has_claim m n p)) (ap (λ w. fin.contains_key w p) e ∙ has_key-empty p) in
    has_claim-remove (fin.insert m k v) k n p ∙ ap (cond (same_bytes n k) false) none ∙ twice (same_bytes n k) (has_claim m n p) ∙ sym none

-- ---- no name without a path

pub none_empty-empty : NoneEmpty (fin.empty {X = Paths} {R = bytes_cmp})
none_empty-empty n e = let none : fin.get (fin.empty {X = Paths} {R = bytes_cmp}) n ≡ None = fin.get-empty bytes_cmp n in absurd cc

pub insert_fills : (paths : Paths) (path : List ℕ) (u : Unit {0}) → fin.insert paths path u ≢ fin.empty
insert_fills paths path u e =
    let none : fin.contains_key (fin.insert paths path u) path ≡ false = ap (λ m. fin.contains_key m path) e ∙ has_key-empty path in
    let some : fin.contains_key (fin.insert paths path u) path ≡ true = has_key-insert paths path u path ∙ ap (λ b. b || fin.contains_key paths path) (same_bytes_equiv.refl path) in
    absurd (let both : false ≡ true = sym none ∙ some in cc)

filled : (b : Bool) (v : Paths) (o : Option Paths) → v ≢ fin.empty → o ≢ Some fin.empty → cond b (Some v) o ≢ Some fin.empty
filled true v o full rest e = let same : v ≡ fin.empty = cc in full same
filled false v o full rest e = rest e

dropped : (b : Bool) (o : Option Paths) → o ≢ Some fin.empty → cond b None o ≢ Some fin.empty
dropped true o rest e = absurd cc
dropped false o rest e = rest e

pub none_empty-insert : (m : PathsByName) (k : List ℕ) (v : Paths) → NoneEmpty m → v ≢ fin.empty → NoneEmpty (fin.insert m k v)
none_empty-insert m k v h full n e = filled (same_bytes n k) v (fin.get m n) full (h n) (sym (get-insert m k v n) ∙ e)

pub none_empty-remove : (m : PathsByName) (k : List ℕ) (v : Paths) → NoneEmpty m → NoneEmpty (fin.remove (fin.insert m k v) k)
none_empty-remove m k v h = subst NoneEmpty (sym (remove-insert m k v)) (λ n e. dropped (same_bytes n k) (fin.get m n) (h n) (sym (get-remove m k n) ∙ e))
