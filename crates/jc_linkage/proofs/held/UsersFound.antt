-- The users of all names that pass a test, each once.
use Rattle.std.proofs.Common.{◌≡◌, ◌∙◌, Bool, true, false, ◌||◌, cond, List, [], ◌∷◌, None, Some, Option, is_some, refl, sym, ap, subst, inl, inr, ⊎_elim}
use Rattle.std.proofs.lemmas.Bool.{false≢true}
use Rattle.std.specs.FinMap as fin
use Rattle.std.specs.Prelude.{unwrap_or}
use Rattle.jc_base.specs.Bytes.{bytes_cmp}
use Rattle.jc_base.proofs.maps.FiniteMaps.{bytes_cmp_total}
use Rattle.jc_classes.specs.NameLists.{has}
use Rattle.jc_classes.specs.Names.{Name, same_name}
use Rattle.jc_classes.proofs.worlds.NameTests.{same_is}
use Rattle.jc_index.specs.Indexes.{UserLists, is_key, users_of}
use Rattle.jc_linkage.specs.inside.SwitchedNames.{AreUsers, IsUser, Names}
use Rattle.jc_linkage.proofs.equations.Booleans.{or_right, or_left, or_split, or_none}

-- ---- names in a set

pub in_set : (found : Names) (k d : Name) → fin.contains_key (fin.insert found k tt) d ≡ (fin.contains_key found d || same_name d k)
in_set found k d = ap is_some (fin.get-insert bytes_cmp_total found k tt d) ∙ by (same_name d k) (fin.get found d)
  where
    by : (b : Bool) (o : Option (Unit {0})) → is_some (cond b (Some tt) o) ≡ (is_some o || b)
    by true None = refl
    by true (Some x) = refl
    by false None = refl
    by false (Some x) = refl

pub there : (found : Names) (k d : Name) → fin.contains_key found k ≡ true → fin.contains_key found d ≡ (fin.contains_key found d || same_name d k)
there found k d e = by (same_name d k) refl
  where
    by : (b : Bool) → same_name d k ≡ b → fin.contains_key found d ≡ (fin.contains_key found d || b)
    by true t = let found_there : fin.contains_key found d ≡ true = ap (fin.contains_key found) (same_is d k t) ∙ e in found_there ∙ sym (ap (λ b. b || true) found_there)
    by false t = sym (or_none (fin.contains_key found d))

-- ---- the users of names that pass

key_of : (lists : UserLists) (n d : Name) → has (users_of lists n) d ≡ true → is_key lists n ≡ true
key_of lists n d h = by (fin.get lists n) refl
  where
    by : (o : Option (List Name)) → fin.get lists n ≡ o → is_key lists n ≡ true
    by None e = absurd (false≢true (sym (ap (λ z. has (unwrap_or z []) d) e) ∙ h))
    by (Some users) e = ap is_some e

module _ (test : Name → Bool) (lists : UserLists) where
  pub users_none : (keys : List Name) → ((n : Name) → is_key lists n ≡ true → has keys n ≡ true) → AreUsers test lists keys fin.empty
  users_none keys all = record {
    sound = λ d e. absurd (false≢true (sym (ap is_some (fin.get-empty bytes_cmp d)) ∙ e));
    complete = λ n d t h. inl (all n (key_of lists n d h));
  }

  pub users_next : (x : Name) (left : List Name) (old new : Names) → AreUsers test lists (x ∷ left) old → test x ≡ true
      → ((d : Name) → fin.contains_key new d ≡ (fin.contains_key old d || has (users_of lists x) d)) → AreUsers test lists left new
  users_next x left old new users t more = record {
    sound = λ d e. ⊎_elim (users.sound d) (λ h. (x, t, h)) (or_split _ _ (sym (more d) ∙ e));
    complete = λ n d tn h. ⊎_elim
        (λ e. ⊎_elim
        (λ s. inr (more d ∙ or_right (fin.contains_key old d) _ (subst (λ z. has (users_of lists z) d ≡ true) (same_is n x s) h)))
        inl
        (or_split (same_name n x) (has left n) e))
        (λ e. inr (more d ∙ or_left _ (has (users_of lists x) d) e))
        (users.complete n d tn h);
  }

  pub users_passed : (x : Name) (left : List Name) (found : Names) → AreUsers test lists (x ∷ left) found → test x ≡ false → AreUsers test lists left found
  users_passed x left found users f = record {
    sound = users.sound;
    complete = λ n d tn h. ⊎_elim
        (λ e. ⊎_elim
        (λ s. absurd (false≢true (sym f ∙ ap test (sym (same_is n x s)) ∙ tn)))
        inl
        (or_split (same_name n x) (has left n) e))
        inr
        (users.complete n d tn h);
  }

  pub users_all : (found : Names) → AreUsers test lists [] found → (d : Name) → IsUser test lists d → fin.contains_key found d ≡ true
  users_all found users d u = ⊎_elim (λ e. absurd (false≢true e)) (λ e. e) (users.complete u.0 d u.1 u.2)

pub has_key : (found : Names) (names : List Name) → names ≡ fin.keys found → (d : Name) → has names d ≡ fin.contains_key found d
has_key found names is d = ap (λ z. has z d) is ∙ sym (fin.contains_key-keys found d)
