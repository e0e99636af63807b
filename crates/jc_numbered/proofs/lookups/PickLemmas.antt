-- The least name of some nodes.
use Rattle.std.proofs.Common.{◌≡◌, ℕ, ◌+◌, ◌<◌, ◌≤◌, Bool, true, false, cond, List, length, refl, sym, ap, ◌∙◌, ◌⊎◌, inl, inr, ⊎_elim, arith}
use Rattle.std.proofs.lemmas.Bool.{false≢true}
use Rattle.std.specs.declared.cmp.Ordering.{Ordering}
use Rattle.std.specs.declared.cmp.Ordering.TheVariants.{Less, Equal, Greater}
use Rattle.std.specs.Ordering.{is_lt}
use Rattle.std.specs.Cmp.Lexicographic.{nat_list_cmp_total}
use Rattle.std.proofs.lemmas.Cmp.{tied_itself}
use Rattle.jc_classes.specs.Names.{Name, name_less}
use Rattle.jc_graph.specs.Seen.{node_at}
use Rattle.jc_numbered.specs.inside.Indexed.{Indexed, indexed_name}
use Rattle.jc_numbered.specs.inside.Picks.{IsLowest, LowestSoFar, lesser}
use Rattle.jc_graph.proofs.marked.Climbs.{last_or_less, place_of, contains_at}

is_less : (o : Ordering) → is_lt o ≡ true → o ≡ Less
is_less Less e = refl
is_less Equal e = absurd (false≢true e)
is_less Greater e = absurd (false≢true e)

less_trans : (a b c : Name) → name_less a b ≡ true → name_less b c ≡ true → name_less a c ≡ true
less_trans a b c e f = ap is_lt (nat_list_cmp_total.trans a b c (is_less _ e) (is_less _ f))

less_itself : (a : Name) → name_less a a ≡ false
less_itself a = ap is_lt (tied_itself nat_list_cmp_total a)

bool_cases : (b : Bool) → (b ≡ true) ⊎ (b ≡ false)
bool_cases true = inl refl
bool_cases false = inr refl

-- what isn't less than b isn't less than what is less than b
below_less : (a b c : Name) → name_less a b ≡ false → name_less c b ≡ true → name_less a c ≡ false
below_less a b c e f = ⊎_elim (λ t. absurd (false≢true (sym e ∙ less_trans a c b t f))) (λ t. t) (bool_cases (name_less a c))

pub lowest_more : (x : Indexed) (nodes : List ℕ) (v i : ℕ) → i < length nodes → LowestSoFar x nodes v i → LowestSoFar x nodes (lesser x v (node_at nodes i)) (i + 1)
lowest_more x nodes v i l g =
    let w = node_at nodes i in
    elim (name_less (indexed_name x w) (indexed_name x v)) as (λ b. name_less (indexed_name x w) (indexed_name x v) ≡ b → LowestSoFar x nodes (cond b w v) (i + 1)) [
      | true ↦ λ e. record {
        listed = contains_at nodes i l;
        least = λ j k. ⊎_elim
            (λ (q : j ≡ i). ap (λ z. name_less (indexed_name x (node_at nodes z)) (indexed_name x w)) q ∙ less_itself (indexed_name x w))
            (λ (q : j < i). below_less (indexed_name x (node_at nodes j)) (indexed_name x v) (indexed_name x w) (g.least j q) e)
            (last_or_less j i k);
      }
      | false ↦ λ e. record {
        listed = g.listed;
        least = λ j k. ⊎_elim
            (λ (q : j ≡ i). ap (λ z. name_less (indexed_name x (node_at nodes z)) (indexed_name x v)) q ∙ e)
            (λ (q : j < i). g.least j q)
            (last_or_less j i k);
      }
    ] refl

pub lowest_end : (x : Indexed) (nodes : List ℕ) (v i : ℕ) → length nodes ≤ i → LowestSoFar x nodes v i → IsLowest x nodes v
lowest_end x nodes v i l g = record {
  listed = g.listed;
  least = λ w c. let p = place_of nodes w c in let k = p.1 in ap (λ z. name_less (indexed_name x z) (indexed_name x v)) (sym p.2) ∙ g.least p.0 (omega arith);
}
