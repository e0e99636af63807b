-- The winner of a name once there is one more file.
use Rattle.std.proofs.Common.{◌≡◌, ℕ, Bool, true, false, cond, List, Option, Some, None, refl, sym, ap, subst, ◌∙◌, ⊎_elim}
use Rattle.std.specs.declared.cmp.Ordering.{Ordering}
use Rattle.std.specs.declared.cmp.Ordering.TheVariants.{Less, Equal, Greater}
use Rattle.std.specs.Ordering.{is_lt, ordering_reverse}
use Rattle.std.specs.FinMap as fin
use Rattle.std.proofs.lemmas.Bool.{cases_Bool}
use Rattle.jc_base.specs.Bytes.{bytes_cmp, same_bytes}
use Rattle.jc_base.proofs.maps.FiniteMaps.{bytes_cmp_total, bytes_cmp-IsAntisymmetric, same_bytes_decides, get-insert, get-insert_same}
use Rattle.jc_report.specs.Files.{Files}
use Rattle.jc_report.specs.FileRows.{names, winner}
use Rattle.jc_report.specs.inside.Naming.{names_there, names_at}
use Rattle.jc_report.proofs.winners.LeastPathWins.{IsLeast, winner_least, winner_none, least_winner, no_winner}

not_false : {A : Type 0} (b : Bool) → b ≡ false → b ≡ true → A
not_false b lacks has = let e : false ≡ true = sym lacks ∙ has in absurd cc

exact : (q k : List ℕ) → same_bytes q k ≡ true → q ≡ k
exact q k e = (same_bytes_decides q k).0 e

-- of two paths that differ one is less
less_by : (p q : List ℕ) (r : Ordering) → bytes_cmp p q ≡ r → same_bytes p q ≡ false → is_lt r ≡ false → bytes_cmp q p ≡ Less
less_by p q Less is apart miss = let e : true ≡ false = miss in absurd cc
less_by p q Equal is apart miss = not_false (same_bytes p q) apart ((same_bytes_decides p q).1 (bytes_cmp-IsAntisymmetric p q is))
less_by p q Greater is apart miss = bytes_cmp_total.antisymm q p ∙ ap ordering_reverse is

pub other_less : (p q : List ℕ) → same_bytes p q ≡ false → is_lt (bytes_cmp p q) ≡ false → bytes_cmp q p ≡ Less
other_less p q apart miss = less_by p q (bytes_cmp p q) refl apart miss

is_less : (r : Ordering) → is_lt r ≡ true → r ≡ Less
is_less Less h = refl
is_less Equal h = let e : false ≡ true = h in absurd cc
is_less Greater h = let e : false ≡ true = h in absurd cc

module _ (f : Files) (path bytes n : List ℕ) (absent : fin.get f path ≡ None) where
  abbrev more : Files
  more = fin.insert f path bytes

  at_path : names_at more path n ≡ names bytes n
  at_path = ap (λ o. names_there o n) (get-insert_same f path bytes)

  get_other : (q : List ℕ) → same_bytes q path ≡ false → fin.get more q ≡ fin.get f q
  get_other q miss = get-insert f path bytes q ∙ ap (λ b. cond b (Some bytes) (fin.get f q)) miss

  at_other : (q : List ℕ) → same_bytes q path ≡ false → names_at more q n ≡ names_at f q n
  at_other q miss = ap (λ o. names_there o n) (get_other q miss)

  not_there : names_at f path n ≡ false
  not_there = ap (λ o. names_there o n) absent

  apart_from : (q : List ℕ) → names_at f q n ≡ true → same_bytes q path ≡ false
  apart_from q there =
      ⊎_elim
      (λ y. not_false (names_at f q n) (ap (λ x. names_at f x n) (exact q path y) ∙ not_there) there)
      (λ miss. miss)
      (cases_Bool (same_bytes q path))

  -- who wins stands at another path, and its bytes are as before
  pub winner_apart : (p : List ℕ) → winner f n ≡ Some p → same_bytes p path ≡ false
  winner_apart p h = apart_from p (winner_least f n p h).is_there

  pub winner_bytes : (p : List ℕ) → winner f n ≡ Some p → fin.get (fin.insert f path bytes) p ≡ fin.get f p
  winner_bytes p h = get_other p (winner_apart p h)

  -- ---- a file that does not name the class

  as_before : names bytes n ≡ false → (q : List ℕ) → names_at more q n ≡ names_at f q n
  as_before lacks q =
      ⊎_elim
      (λ y. ap (λ x. names_at more x n) (exact q path y) ∙ at_path ∙ lacks ∙ sym not_there ∙ ap (λ x. names_at f x n) (sym (exact q path y)))
      (λ miss. at_other q miss)
      (cases_Bool (same_bytes q path))

  unnamed_by : names bytes n ≡ false → (w : Option (List ℕ)) → winner f n ≡ w → winner more n ≡ w
  unnamed_by lacks None is = no_winner more n (λ q. as_before lacks q ∙ winner_none f n q is)
  unnamed_by lacks (Some p) is =
      let least = winner_least f n p is in
      let same : IsLeast more n p = record {
        is_there = as_before lacks p ∙ least.is_there;
        least = λ q found other. least.least q (sym (as_before lacks q) ∙ found) other;
      } in
      least_winner more n p same

  pub winner_unnamed : names bytes n ≡ false → winner (fin.insert f path bytes) n ≡ winner f n
  winner_unnamed lacks = unnamed_by lacks (winner f n) refl

  -- ---- a file that names it

  -- it wins where miss file names the class
  pub winner_first : names bytes n ≡ true → winner f n ≡ None → winner (fin.insert f path bytes) n ≡ Some path
  winner_first has none =
      let first : IsLeast more n path = record {
        is_there = at_path ∙ has;
        least = λ q found other. not_false (names_at f q n) (winner_none f n q none) (sym (at_other q other) ∙ found);
      } in
      least_winner more n path first

  -- where its path is greater, who won wins
  pub winner_stays : (p : List ℕ) → winner f n ≡ Some p → is_lt (bytes_cmp p path) ≡ true → winner (fin.insert f path bytes) n ≡ Some p
  winner_stays p h less =
      let least = winner_least f n p h in
      let stays : IsLeast more n p = record {
        is_there = at_other p (winner_apart p h) ∙ least.is_there;
        least = λ q found other. ⊎_elim
            (λ y. subst (λ x. bytes_cmp p x ≡ Less) (sym (exact q path y)) (is_less (bytes_cmp p path) less))
            (λ miss. least.least q (sym (at_other q miss) ∙ found) other)
            (cases_Bool (same_bytes q path));
      } in
      least_winner more n p stays

  -- and else it wins
  pub winner_new : (p : List ℕ) → names bytes n ≡ true → winner f n ≡ Some p → is_lt (bytes_cmp p path) ≡ false → winner (fin.insert f path bytes) n ≡ Some path
  winner_new p has h miss =
      let least = winner_least f n p h in
      let below = other_less p path (winner_apart p h) miss in
      let new : IsLeast more n path = record {
        is_there = at_path ∙ has;
        least = λ q found other. ⊎_elim
            (λ y. subst (λ x. bytes_cmp path x ≡ Less) (sym (exact q p y)) below)
            (λ differs. bytes_cmp_total.trans path p q below (least.least q (sym (at_other q other) ∙ found) differs))
            (cases_Bool (same_bytes q p));
      } in
      least_winner more n path new
