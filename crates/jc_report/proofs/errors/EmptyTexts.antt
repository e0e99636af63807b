-- Texts that are empty exactly where a test fails.
use Rattle.std.proofs.Common.{◌≡◌, ◌∙◌, ◌↔◌, ◌++◌, ◌||◌, ◌&&◌, ◌==◌, ℕ, suc, Bool, true, false, not, cond, List, [], ◌∷◌, ap, arith, length, refl, sym}
use Rattle.std.proofs.lemmas.Bool.{ne_eqb, true≢false}
use Rattle.std.specs.List.{All, flat_map, list_any}

-- there is no text exactly where it fails
abbrev pub Tells : Bool → List ℕ → Type 0
Tells test text = (text ≡ []) ↔ (test ≡ false)

empty_both : (first second : List ℕ) → first ++ second ≡ [] → (first ≡ []) × (second ≡ [])
empty_both [] second e = (refl, e)
empty_both (x ∷ first) second e = absurd cc

pub behind_empty : (first second : List ℕ) → first ++ second ≡ [] → second ≡ []
behind_empty first second e = (empty_both first second e).1

pub front_empty : (first second : List ℕ) → first ++ second ≡ [] → first ≡ []
front_empty first second e = (empty_both first second e).0

pub tells_or : (a b : Bool) {first second : List ℕ} → Tells a first → Tells b second → Tells (a || b) (first ++ second)
tells_or true b {first} {second} p q = (λ e. p.0 (empty_both first second e).0, λ e. absurd cc)
tells_or false b {first} {second} p q = (λ e. q.0 (empty_both first second e).1, λ e. ap (λ text. text ++ second) (p.1 refl) ∙ q.1 e)

pub tells_text : (test : Bool) (text : List ℕ) → (text ≡ [] → ⊥) → Tells test (cond test text [])
tells_text true text there = (λ e. absurd (there e), λ e. absurd cc)
tells_text false text there = (λ e. refl, λ e. refl)

pub tells_asked : (asked test : Bool) {text : List ℕ} → Tells test text → Tells (asked && test) (cond asked text [])
tells_asked true test p = p
tells_asked false test p = (λ e. refl, λ e. refl)

pub tells_any : {X : Type 0} (test : X → Bool) (text : X → List ℕ) (xs : List X) → All (λ x. Tells (test x) (text x)) xs → Tells (list_any test xs) (flat_map text xs)
tells_any test text [] each = (λ e. refl, λ e. refl)
tells_any test text (x ∷ xs) each =
    tells_or (test x) (list_any test xs) (each 0 x (omega arith)) (tells_any test text xs (λ k d within. each (suc k) d (omega (arith, within))))

pub tells_some : {X : Type 0} (text : X → List ℕ) (xs : List X) → ((x : X) → text x ≡ [] → ⊥) → Tells (not (length xs == 0)) (flat_map text xs)
tells_some text [] there = (λ e. refl, λ e. refl)
tells_some text (x ∷ xs) there =
    let some : (length (x ∷ xs) == 0) ≡ false = ne_eqb (length (x ∷ xs)) 0 (λ e. absurd (omega (arith, e))) in
    (λ e. absurd (there x (empty_both (text x) (flat_map text xs) e).0), λ e. absurd (true≢false (ap not (sym some) ∙ e)))
