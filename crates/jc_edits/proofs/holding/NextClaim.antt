-- The first path but one that claims a class is the winner once there is no file at that one.
use Rattle.std.proofs.Common.{◌≡◌, ℕ, Bool, true, false, T, cond, not, List, [], ◌∷◌, map, Option, Some, None, is_some, refl, sym, ap, ◌∙◌, ⊎_elim}
use Rattle.std.specs.FinMap as fin
use Rattle.std.proofs.lemmas.Bool.{cases_Bool}
use Rattle.jc_base.specs.Bytes.{bytes_cmp, same_bytes}
use Rattle.jc_base.proofs.Common.{first_holds, second_holds}
use Rattle.jc_base.proofs.maps.FiniteMaps.{same_bytes_decides, same_bytes_equiv}
use Rattle.jc_report.specs.Files.{Files}
use Rattle.jc_report.specs.FileRows.{winner}
use Rattle.jc_report.specs.inside.Naming.{names_at}
use Rattle.jc_report.proofs.winners.LeastPathWins.{IsLeast, below_found, found-cons, least_winner, no_winner}
use Rattle.jc_edits.specs.inside.Claims.{AreClaims, Paths, PathsByName, has_path}
use Rattle.jc_edits.proofs.holding.ClaimsStay.{names_at-remove}

-- the first of the paths but this one
abbrev pub first_other : List ℕ → List (List ℕ) → Option (List ℕ)
first_other path [] = None
first_other path (p ∷ paths) = cond (same_bytes p path) (first_other path paths) (Some p)

pub passed_over : (path p : List ℕ) (paths : List (List ℕ)) → same_bytes p path ≡ true → first_other path (p ∷ paths) ≡ first_other path paths
passed_over path p paths is = ap (λ b. cond b (first_other path paths) (Some p)) is

pub stopped_at : (path p : List ℕ) (paths : List (List ℕ)) → same_bytes p path ≡ false → first_other path (p ∷ paths) ≡ Some p
stopped_at path p paths is = ap (λ b. cond b (first_other path paths) (Some p)) is

pub not_not : (b r : Bool) → not b ≡ not r → b ≡ r
not_not true true h = refl
not_not true false h = absurd cc
not_not false true h = absurd cc
not_not false false h = refl

false_both : (b : Bool) → cond b false false ≡ false
false_both true = refl
false_both false = refl

second_true : (b x : Bool) → cond b false x ≡ true → x ≡ true
second_true true x h = absurd cc
second_true false x h = h

module _ (path : List ℕ) where
  -- whether a key but the path has an entry
  abbrev has_other : List (List ℕ × Unit {0}) → List ℕ → Bool
  has_other es q = cond (same_bytes q path) false (is_some (fin.find bytes_cmp q es))

  -- the path's own entry does not matter
  skipped : (e : List ℕ × Unit {0}) (es : List (List ℕ × Unit {0})) (q : List ℕ) (b : Bool) → e.0 ≡ path → same_bytes q path ≡ b
      → cond b false (is_some (fin.find bytes_cmp q es)) ≡ cond b false (is_some (fin.find bytes_cmp q (e ∷ es)))
  skipped e es q true is same = refl
  skipped e es q false is same = ap is_some (sym (found-cons e es q false (ap (same_bytes q) is ∙ same)))

  first_other_wins : (g : Files) (n : List ℕ) (es : List (List ℕ × Unit {0})) → T (fin.is_sorted bytes_cmp es) → ((q : List ℕ) → has_other es q ≡ names_at g q n)
      → winner g n ≡ first_other path (map (λ e. e.0) es)
  first_other_wins g n [] sorted h = no_winner g n (λ q. sym (h q) ∙ false_both (same_bytes q path))
  first_other_wins g n (e ∷ es) sorted h =
      ⊎_elim
      (λ same.
      let is : e.0 ≡ path = (same_bytes_decides e.0 path).0 same in
      let rest : (q : List ℕ) → has_other es q ≡ names_at g q n = λ q. skipped e es q (same_bytes q path) is refl ∙ h q in
      first_other_wins g n es (second_holds _ _ sorted) rest ∙ sym (passed_over path e.0 (map (λ x. x.0) es) same))
      (λ differs.
      let least : IsLeast g n e.0 = record {
        is_there = sym (h e.0) ∙ ap (λ b. cond b false (is_some (fin.find bytes_cmp e.0 (e ∷ es)))) differs ∙ ap is_some (found-cons e es e.0 true (same_bytes_equiv.refl e.0));
        least = λ q there other.
            let found = second_true (same_bytes q path) (is_some (fin.find bytes_cmp q (e ∷ es))) (h q ∙ there) in
            below_found e.0 es q (first_holds _ _ sorted) (ap is_some (sym (found-cons e es q false other)) ∙ found);
      } in
      least_winner g n e.0 least ∙ sym (stopped_at path e.0 (map (λ x. x.0) es) differs))
      (cases_Bool (same_bytes e.0 path))

module _ (claims : PathsByName) (f : Files) (n path : List ℕ) (are : AreClaims claims f) where
  apart : (q : List ℕ) (o : Option Paths) → fin.get claims n ≡ o → cond (same_bytes q path) false (has_path o q) ≡ names_at (fin.remove f path) q n
  apart q o is = ap (cond (same_bytes q path) false) (ap (λ x. has_path x q) (sym is) ∙ are n q) ∙ sym (names_at-remove f path n q)

  pub next_claim : (paths : Paths) → fin.get claims n ≡ Some paths → winner (fin.remove f path) n ≡ first_other path (fin.keys paths)
  next_claim paths is =
      first_other_wins path (fin.remove f path) n (fin.entries paths) (fin.entries_sorted paths)
      (λ q. ap (λ o. cond (same_bytes q path) false (is_some o)) (sym (fin.get-entries paths q)) ∙ apart q (Some paths) is)

  pub no_claim : fin.get claims n ≡ None → winner (fin.remove f path) n ≡ None
  no_claim is = no_winner (fin.remove f path) n (λ q. sym (apart q None is) ∙ false_both (same_bytes q path))
