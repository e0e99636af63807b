-- Ways, and what is said of each element of a list and of one more.
use Rattle.std.proofs.Common.{◌≡◌, ℕ, ◌+◌, ◌<◌, List, [], ◌∷◌, ◌++◌, length, refl, sym, subst, arith, ◌⊎◌, inl, inr, length-append}
use Rattle.std.proofs.lemmas.List.{get_or_append_left, get_or_push}
use Rattle.std.specs.List.{All}
use Rattle.jc_graph.specs.Graph.{Successors, Above}
use Rattle.jc_graph.specs.Graph.Above.{direct, further}
use Rattle.jc_graph.specs.inside.Walk.{Way}

pub above_trans : {next : Successors} {a b c : ℕ} → Above next a b → Above next b c → Above next a c
above_trans r (direct h) = further r h
above_trans r (further q h) = further (above_trans r q) h

pub way_above : {next : Successors} {a b c : ℕ} → Way next a b → Above next b c → Above next a c
way_above {next} {a} {b} {c} (inl e) r = subst (λ z. Above next z c) (sym e) r
way_above (inr q) r = above_trans q r

pub above_way : {next : Successors} {a b c : ℕ} → Above next a b → Way next b c → Above next a c
above_way {next} {a} r (inl e) = subst (λ z. Above next a z) e r
above_way r (inr q) = above_trans r q

pub each_init : {X : Type 0} (P : X → Type 0) (xs : List X) (x : X) → All P (xs ++ x ∷ []) → All P xs
each_init P xs x h = λ k d l. subst P (get_or_append_left xs (x ∷ []) d k l) (h k d (omega (arith, length-append xs (x ∷ []))))

pub each_last : {X : Type 0} (P : X → Type 0) (xs : List X) (x : X) → All P (xs ++ x ∷ []) → P x
each_last P xs x h = subst P (get_or_push xs x x (length xs) refl) (h (length xs) x (omega (arith, length-append xs (x ∷ []))))

pub last_or_before : (n k : ℕ) → k < n + 1 → (k < n) ⊎ (k ≡ n)
last_or_before n k h = grind arith
