-- Whether one of a list passes, by what is left of the list.
use Rattle.std.proofs.Common.{◌≡◌, ◌∙◌, ◌∷◌, ◌||◌, [], Bool, true, false, List, ap, sym}
use Rattle.std.specs.List.{list_any}

pub any_found : {X : Type 0} (p : X → Bool) {whole : Bool} {left rest : List X} {x : X} → whole ≡ list_any p left → left ≡ x ∷ rest → p x ≡ true → true ≡ whole
any_found p {rest = rest} so_far is passes = sym (so_far ∙ ap (list_any p) is ∙ ap (λ b. b || list_any p rest) passes)

pub any_passed : {X : Type 0} (p : X → Bool) {whole : Bool} {left rest : List X} {x : X} → whole ≡ list_any p left → left ≡ x ∷ rest → p x ≡ false → whole ≡ list_any p rest
any_passed p {rest = rest} so_far is fails = so_far ∙ ap (list_any p) is ∙ ap (λ b. b || list_any p rest) fails

pub any_none : {X : Type 0} (p : X → Bool) {whole : Bool} {left : List X} → whole ≡ list_any p left → left ≡ [] → false ≡ whole
any_none p so_far none = sym (so_far ∙ ap (list_any p) none)
