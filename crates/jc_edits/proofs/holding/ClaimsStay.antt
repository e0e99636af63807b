-- Claims that are those of the files stay so over an edit, also where it is undone.
use Rattle.std.proofs.Common.{◌≡◌, ℕ, Bool, true, false, cond, not, ◌&&◌, ◌||◌, List, [], Option, Some, None, is_some, refl, sym, ap, ◌∙◌}
use Rattle.std.specs.FinMap as fin
use Rattle.jc_base.specs.Bytes.{bytes_cmp, same_bytes}
use Rattle.jc_base.proofs.maps.FiniteMaps.{get-insert, get-remove, insert-insert, remove-insert_absent, same_bytes_decides, same_bytes_equiv}
use Rattle.jc_report.specs.Files.{Files}
use Rattle.jc_report.specs.FileRows.{names_by, names}
use Rattle.jc_edits.proofs.holding.EmptyFile.{class_named-empty}
use Rattle.jc_edits.specs.inside.Claims.{PathsByName, has_claim, AreClaims}
use Rattle.jc_report.specs.inside.Naming.{names_there, names_at}
use Rattle.jc_edits.specs.inside.Growth.{AreClaimsBesides, HasPlace, put_at}

-- ---- tests

take_out : (s x y : Bool) → (s ≡ true → y ≡ x) → (not (s && x) && y) ≡ cond s false y
take_out true true y h = refl
take_out true false y h = h refl
take_out false x y h = refl

gone : (s y : Bool) → (s ≡ true → y ≡ false) → cond s false y ≡ y
gone true y h = sym (h refl)
gone false y h = refl

exchange : (s before now y : Bool) → (s ≡ true → y ≡ before) → (not (s && (before && not now)) && ((s && now) || y)) ≡ cond s now y
exchange true true true y h = refl
exchange true true false y h = refl
exchange true false true y h = refl
exchange true false false y h = h refl
exchange false before now y h = refl

-- what was put in besides what is there is taken out
given_back : (s more there y : Bool) → (s ≡ true → y ≡ there) → (not (s && (more && not there)) && ((s && more) || y)) ≡ y
given_back true true true y h = sym (h refl)
given_back true true false y h = sym (h refl)
given_back true false there y h = refl
given_back false more there y h = refl

taken_back : (s more y : Bool) → (s ≡ true → y ≡ false) → (not (s && more) && ((s && more) || y)) ≡ y
taken_back true true y h = sym (h refl)
taken_back true false y h = refl
taken_back false more y h = refl

-- ---- what the files name

there-cond : (b : Bool) (x y : Option (List ℕ)) (n : List ℕ) → names_there (cond b x y) n ≡ cond b (names_there x n) (names_there y n)
there-cond true x y n = refl
there-cond false x y n = refl

names_at-insert : (f : Files) (path bytes n p : List ℕ) → names_at (fin.insert f path bytes) p n ≡ cond (same_bytes p path) (names bytes n) (names_at f p n)
names_at-insert f path bytes n p = ap (λ o. names_there o n) (get-insert f path bytes p) ∙ there-cond (same_bytes p path) (Some bytes) (fin.get f p) n

pub names_at-remove : (f : Files) (path n p : List ℕ) → names_at (fin.remove f path) p n ≡ cond (same_bytes p path) false (names_at f p n)
names_at-remove f path n p = ap (λ o. names_there o n) (get-remove f path p) ∙ there-cond (same_bytes p path) None (fin.get f p) n

names_here : (f : Files) (path n p : List ℕ) (o : Option (List ℕ)) → fin.get f path ≡ o → same_bytes p path ≡ true → names_at f p n ≡ names_there o n
names_here f path n p o e same = ap (λ q. names_at f q n) ((same_bytes_decides p path).0 same) ∙ ap (λ x. names_there x n) e

-- ---- claims over an edit

pub no_claims : (claims : PathsByName) → ((n p : List ℕ) → has_claim claims n p ≡ false) → AreClaims claims fin.empty
no_claims claims h n p = h n p ∙ sym (ap (λ o. names_there o n) (fin.get-empty bytes_cmp p))

pub claims_removed : (old new : PathsByName) (f : Files) (path bytes : List ℕ) → AreClaims old f → fin.get f path ≡ Some bytes
    → ((n p : List ℕ) → has_claim new n p ≡ (not (same_bytes p path && names bytes n) && has_claim old n p)) → AreClaims new (fin.remove f path)
claims_removed old new f path bytes are there withdrawn n p =
    withdrawn n p ∙ ap (λ y. not (same_bytes p path && names bytes n) && y) (are n p)
    ∙ take_out (same_bytes p path) (names bytes n) (names_at f p n) (names_here f path n p (Some bytes) there) ∙ sym (names_at-remove f path n p)

pub claims_absent : (old : PathsByName) (f : Files) (path : List ℕ) → AreClaims old f → fin.get f path ≡ None → AreClaims old (fin.remove f path)
claims_absent old f path are absent n p =
    are n p ∙ sym (names_at-remove f path n p ∙ gone (same_bytes p path) (names_at f p n) (names_here f path n p None absent))

-- ---- claims while an edit is grown

-- those of the bytes are put in besides those of the files
pub claims_besides : (old new : PathsByName) (f : Files) (path bytes : List ℕ) → AreClaims old f
    → ((n p : List ℕ) → has_claim new n p ≡ ((same_bytes p path && names bytes n) || has_claim old n p)) → AreClaimsBesides new f path (Some bytes)
claims_besides old new f path bytes are claimed n p = claimed n p ∙ ap (λ y. (same_bytes p path && names bytes n) || y) (are n p)

-- an empty file names nothing
names-empty : (n : List ℕ) → names [] n ≡ false
names-empty n = ap (λ o. names_by o n) class_named-empty

-- a new place changes no claims
names_at-placed : (f : Files) (path n p : List ℕ) → fin.get f path ≡ None → names_at (fin.insert f path []) p n ≡ names_at f p n
names_at-placed f path n p absent =
    names_at-insert f path [] n p ∙ ap (λ b. cond (same_bytes p path) b (names_at f p n)) (names-empty n)
    ∙ gone (same_bytes p path) (names_at f p n) (names_here f path n p None absent)

pub besides_placed : (claims : PathsByName) (f : Files) (path bytes : List ℕ) → fin.get f path ≡ None
    → AreClaimsBesides claims f path (Some bytes) → AreClaimsBesides claims (fin.insert f path []) path (Some bytes)
besides_placed claims f path bytes absent besides n p =
    besides n p ∙ ap (λ y. (same_bytes p path && names bytes n) || y) (sym (names_at-placed f path n p absent))

-- a new place, as the map of files has it
get-placed : (f : Files) (path : List ℕ) → fin.get (fin.insert f path []) path ≡ Some []
get-placed f path = get-insert f path [] path ∙ ap (λ b. cond b (Some []) (fin.get f path)) (same_bytes_equiv.refl path)

module _ (f placed : Files) (path at : List ℕ) (is : placed ≡ fin.insert f path []) (here : at ≡ path) where
  pub new_besides : (claims : PathsByName) (bytes : List ℕ) (file : Option (List ℕ)) → file ≡ Some bytes → fin.get f path ≡ None
      → AreClaimsBesides claims f path (Some bytes) → AreClaimsBesides claims placed at file
  new_besides claims bytes file e absent besides = rw (is, here, e) (besides_placed claims f path bytes absent besides)

  pub new_empty : fin.get placed at ≡ Some []
  new_empty = rw (is, here) (get-placed f path)

  pub new_place : (bytes : List ℕ) (file : Option (List ℕ)) → file ≡ Some bytes → HasPlace placed at file
  new_place bytes file e = rw (e, is, here) (ap is_some (get-placed f path))

  pub new_commits : (bytes : List ℕ) (file : Option (List ℕ)) → file ≡ Some bytes → put_at placed at file ≡ fin.insert f path bytes
  new_commits bytes file e = rw (e, is, here) (insert-insert f path [] bytes)

  pub new_undoes : fin.get f path ≡ None → fin.remove placed at ≡ f
  new_undoes absent = rw (is, here) (remove-insert_absent f path [] absent)

-- the place of an empty file is given up
pub claims_unplaced : (claims : PathsByName) (f : Files) (path : List ℕ) → fin.get f path ≡ Some [] → AreClaims claims f → AreClaims claims (fin.remove f path)
claims_unplaced claims f path empty are n p =
    are n p ∙ sym (names_at-remove f path n p
    ∙ gone (same_bytes p path) (names_at f p n) (λ same. names_here f path n p (Some []) empty same ∙ names-empty n))

-- the file is put in the place of another
pub claims_put : (mid new : PathsByName) (f : Files) (path before bytes : List ℕ) → AreClaimsBesides mid f path (Some bytes) → fin.get f path ≡ Some before
    → ((n p : List ℕ) → has_claim new n p ≡ (not (same_bytes p path && (names before n && not (names bytes n))) && has_claim mid n p)) → AreClaims new (fin.insert f path bytes)
claims_put mid new f path before bytes besides there withdrawn n p =
    withdrawn n p ∙ ap (λ y. not (same_bytes p path && (names before n && not (names bytes n))) && y) (besides n p)
    ∙ exchange (same_bytes p path) (names before n) (names bytes n) (names_at f p n) (names_here f path n p (Some before) there) ∙ sym (names_at-insert f path bytes n p)

-- the claim is withdrawn again
pub unclaimed_there : (mid new : PathsByName) (f : Files) (path there bytes : List ℕ) → AreClaimsBesides mid f path (Some bytes) → fin.get f path ≡ Some there
    → ((n p : List ℕ) → has_claim new n p ≡ (not (same_bytes p path && (names bytes n && not (names there n))) && has_claim mid n p)) → AreClaims new f
unclaimed_there mid new f path there bytes besides is withdrawn n p =
    withdrawn n p ∙ ap (λ y. not (same_bytes p path && (names bytes n && not (names there n))) && y) (besides n p)
    ∙ given_back (same_bytes p path) (names bytes n) (names there n) (names_at f p n) (names_here f path n p (Some there) is)

pub unclaimed_absent : (mid new : PathsByName) (f : Files) (path bytes : List ℕ) → AreClaimsBesides mid f path (Some bytes) → fin.get f path ≡ None
    → ((n p : List ℕ) → has_claim new n p ≡ (not (same_bytes p path && names bytes n) && has_claim mid n p)) → AreClaims new f
unclaimed_absent mid new f path bytes besides absent withdrawn n p =
    withdrawn n p ∙ ap (λ y. not (same_bytes p path && names bytes n) && y) (besides n p)
    ∙ taken_back (same_bytes p path) (names bytes n) (names_at f p n) (names_here f path n p None absent)
