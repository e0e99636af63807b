-- What is gathered once all names were asked for.
use Rattle.std.proofs.Common.{◌≡◌, ℕ, suc, ◌<◌, ◌≤◌, List, [], ◌∷◌, map, length, refl, sym, ap, ◌∙◌, arith, ◌⊎◌, ⊎_elim}
use Rattle.jc_classes.specs.Names.{Name, object as java_lang_object}
use Rattle.jc_classes.specs.Numbers.{name_at}
use Rattle.jc_classes.specs.Worlds.{Stands, World, supertypes_of}
use Rattle.jc_link.specs.inside.Gathering.{stand_at, IsAsked, IsClosedGraph}

each_stands : (m : World) (ns : List Name) (st : List Stands) → length st ≡ length ns → ((i : ℕ) → i < length st → stand_at st i ≡ m (name_at ns i)) → st ≡ map m ns
each_stands m [] [] e h = refl
each_stands m (n ∷ ns) (s ∷ st) e h =
    let first = h 0 (omega arith) in
    let rest = each_stands m ns st (omega arith) (λ i l. h (suc i) (omega arith)) in
    cc
each_stands m [] (s ∷ st) e h = absurd (omega arith)
each_stands m (n ∷ ns) [] e h = absurd (omega arith)

module _ (m : World) (ns : List Name) (st : List Stands) (rs : List (List ℕ)) (g : IsAsked m ns st rs) (over : length ns ≤ length st) where
  pub all_asked : length st ≡ length ns
  all_asked = by (length st) (length ns) over (λ i q. (g.standing i q).0)
    where
      under : (a b : ℕ) → (a < b) ⊎ (b ≤ a)
      under a b = grind arith

      by : (s n : ℕ) → n ≤ s → ((i : ℕ) → i < s → i < n) → s ≡ n
      by s n l h = ⊎_elim (λ (q : n < s). let r = h n q in absurd (omega arith)) (λ (q : s ≤ n). omega arith) (under n s)

  pub closed_graph : (at_object : ℕ) → (at_object < length ns) × (name_at ns at_object ≡ java_lang_object) → IsClosedGraph ns st rs at_object
  closed_graph at_object o =
      let size = all_asked in
      record {
        closed = record {
          standing = size;
          size = g.size ∙ size;
          once = g.once;
          within = g.within;
          supertypes = λ i l. let k : i < length st = omega arith in g.above i k ∙ ap supertypes_of (sym (g.standing i k).1);
        };
        object = o;
      }

  -- each name has what stands there
  pub all_stand : st ≡ map m ns
  all_stand = each_stands m ns st all_asked (λ i l. (g.standing i l).1)
