-- The first path that claims a class is the winner.
use Rattle.std.proofs.Common.{◌≡◌, ℕ, true, false, T, List, [], ◌∷◌, map, Option, Some, None, is_some, sym, ap, ◌∙◌}
use Rattle.std.specs.FinMap as fin
use Rattle.jc_base.specs.Bytes.{bytes_cmp}
use Rattle.jc_base.proofs.Common.{first_holds}
use Rattle.jc_base.proofs.maps.FiniteMaps.{same_bytes_equiv}
use Rattle.jc_report.specs.Files.{Files}
use Rattle.jc_report.specs.FileRows.{winner}
use Rattle.jc_report.specs.inside.Naming.{names_at}
use Rattle.jc_report.proofs.winners.LeastPathWins.{IsLeast, below_found, found-cons, least_winner, no_winner}
use Rattle.jc_edits.specs.inside.Claims.{Paths, PathsByName, has_path, first_of, first_path, first_claim, AreClaims}

-- the first path of a set is the winner, where the set has the paths of those that name the class
first_wins : (f : Files) (n : List ℕ) (es : List (List ℕ × Unit {0})) → T (fin.is_sorted bytes_cmp es) → ((q : List ℕ) → is_some (fin.find bytes_cmp q es) ≡ names_at f q n) → winner f n ≡ first_of (map (λ e. e.0) es)
first_wins f n [] sorted h = no_winner f n (λ q. sym (h q))
first_wins f n (e ∷ es) sorted h =
    let least : IsLeast f n e.0 = record {
      is_there = sym (h e.0) ∙ ap is_some (found-cons e es e.0 true (same_bytes_equiv.refl e.0));
      least = λ q there other. below_found e.0 es q (first_holds _ _ sorted) (ap is_some (sym (found-cons e es q false other)) ∙ h q ∙ there);
    } in
    least_winner f n e.0 least

paths_win : (f : Files) (n : List ℕ) (o : Option Paths) → ((q : List ℕ) → has_path o q ≡ names_at f q n) → winner f n ≡ first_path o
paths_win f n None h = no_winner f n (λ q. sym (h q))
paths_win f n (Some paths) h = first_wins f n (fin.entries paths) (fin.entries_sorted paths) (λ q. ap is_some (sym (fin.get-entries paths q)) ∙ h q)

pub claims_win : (claims : PathsByName) (f : Files) → AreClaims claims f → (n : List ℕ) → winner f n ≡ first_claim claims n
claims_win claims f h n = paths_win f n (fin.get claims n) (λ q. h n q)
