-- Names of classes by numbers of their own, as names are added.
use Rattle.std.proofs.Common.{◌≡◌, ◌<◌, ℕ, suc, zero, List, [], ◌∷◌, ◌++◌, length, map, Option, Some, option_map, refl, sym, ap, ◌∙◌, arith}
use Rattle.std.proofs.lemmas.List.{get_or-map, length-append, length-map, map-append}
use Rattle.std.proofs.lemmas.Option.{get_or_from_slice_get, slice_get_within}
use Rattle.std.specs.List.{slice_get}
use Rattle.std.specs.Option.{option_map_or}
use Rattle.jc_classes.proofs.texts.AskedTexts.{text_stays}
use Rattle.jc_classes.specs.Names.{Name}
use Rattle.jc_classes.specs.inside.FactsShown.{text_at}
use Rattle.jc_resolve.specs.inside.Naming.{IsNumberOf, IsToldBy, name_told}

-- a listed name is counted from 1
at_place : (texts : List Name) (name : Name) (place number : ℕ) → number ≡ suc place → place < length texts → text_at texts place ≡ name → IsNumberOf texts name number
at_place texts name place number is within at = λ r more begins. ap (name_told more r) is ∙ text_stays texts more place begins within ∙ at

last_text : (a : List Name) (t : Name) → text_at (a ++ t ∷ []) (length a) ≡ t
last_text [] t = refl
last_text (x ∷ a) t = last_text a t

pub last_number : (a b : List Name) (t : Name) (place number : ℕ) → b ≡ a ++ t ∷ [] → place ≡ length a → number ≡ suc place → IsNumberOf b t number
last_number a b t place number e l n =
    at_place b t place number n (omega (arith, l, ap length e, length-append a (t ∷ []))) (ap (λ x. text_at x place) e ∙ ap (text_at (a ++ t ∷ [])) l ∙ last_text a t)

-- the name of a class has the place of the class among those that are named
pub known_number : (name : ℕ → Name) (texts : List Name) (nodes : List ℕ) (node place number : ℕ) → texts ≡ map name nodes → slice_get nodes place ≡ Some node → number ≡ suc place → IsNumberOf texts (name node) number
known_number name texts nodes node place number h got n =
    let within : place < length nodes = slice_get_within nodes place node got in
    at_place texts (name node) place number n (omega (arith, within, ap length h, length-map nodes name)) (ap (λ z. text_at z place) h ∙ get_or-map name nodes place 0 [] within ∙ ap name (get_or_from_slice_get nodes place node 0 got))

-- 0 is the number of the class that the reference names
pub own_number : (name : ℕ → Name) (texts : List Name) (own : Option ℕ) (node number : ℕ) → own ≡ Some node → number ≡ zero → IsToldBy name texts own node number
own_number name texts own node number is none = λ r named more begins.
    ap (name_told more r) none ∙ ap (λ o. option_map_or (λ c. c) o []) (sym named ∙ ap (option_map name) is)

-- as a class comes behind with its name
pub names_more : (name : ℕ → Name) (a b : List Name) (ns ms : List ℕ) (t : Name) (node : ℕ) → a ≡ map name ns → b ≡ a ++ t ∷ [] → ms ≡ ns ++ node ∷ [] → t ≡ name node → b ≡ map name ms
names_more name a b ns ms t node h e f g =
    e ∙ ap (λ z. z ++ t ∷ []) h ∙ ap (λ z. map name ns ++ z ∷ []) g ∙ sym (map-append name ns (node ∷ [])) ∙ sym (ap (map name) f)
