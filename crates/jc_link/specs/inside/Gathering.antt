-- Numbered names and what each of them is, while a graph is built.
use Rattle.std.specs.Prelude.{◌≡◌, ◌++◌, ◌∷◌, ◌<◌, ℕ, List, [], map, length, slice_get, slice_index_or}
use Rattle.std.specs.Prelude.{Option, option_map, Some}
use Rattle.std.specs.List.{Contains}
use Rattle.std.specs.declared.vec.Vec.{Vec}
use Rattle.std.specs.declared.alloc.Global.{Global}
use Rattle.jc_classes.specs.Facts.{Reference}
use Rattle.jc_classes.specs.Lent.{stands_of}
use Rattle.jc_classes.specs.Names.{Name, object}
use Rattle.jc_classes.specs.Numbers.{name_at, IsOnce, Grows, AddsNumbers}
use Rattle.jc_classes.specs.Parts.{class_of, names_in}
use Rattle.jc_classes.specs.Worlds.{Stands, World, supertypes_of}
use Rattle.jc_classes.specs.Worlds.Stands.{Absent}
use Rattle.jc_classes.specs.declared.standing.Standing.{Standing}
use Rattle.jc_resolve.specs.Numbered.{IsClosed}

abbrev pub stand_at : List Stands → ℕ → Stands
stand_at stands i = slice_index_or stands i Absent

abbrev pub supertypes_at : List (List ℕ) → ℕ → List ℕ
supertypes_at supertypes i = slice_index_or supertypes i []

abbrev pub stands_in : List Standing → List Stands
stands_in standing = map stands_of standing

abbrev pub supertypes_in : List (Vec ℕ Global) → List (List ℕ)
supertypes_in supertypes = map (λ (v : Vec ℕ Global). v.items) supertypes

-- the numbers of the classes that these references name were appended
pub record Nodes (old : List Name) (nodes : List (Option ℕ)) (new : List Name) (nodes2 : List (Option ℕ))
    (added : List Reference) : Type 0 where
  pub grows : Grows old new (names_in added)
  pub within : (v : ℕ) → Contains nodes2 (Some v) → v < length new
  pub named :
      map (option_map (name_at new)) nodes2
      ≡ map (option_map (name_at old)) nodes ++ map (λ (r : Reference). class_of r.named) added

-- `node` is the number of the class that the reference at this place names, and this name is numbered
abbrev pub NumbersAt : (old new : List Name) → List Reference → (place : ℕ) → Option ℕ → Type 0
NumbersAt old new references place node =
    (r : Reference) → slice_get references place ≡ Some r → Nodes old [] new (node ∷ []) (r ∷ [])

-- the next name was looked up: what it is and the numbers of its direct supertypes were appended
pub record IsReached (old : List Name) (stands : List Stands) (supertypes : List (List ℕ)) (next : Stands)
    (new : List Name) (stands2 : List Stands) (supertypes2 : List (List ℕ)) : Type 0 where
  pub direct : List ℕ
  pub numbered : AddsNumbers old [] new direct (supertypes_of next)
  pub stands_more : stands2 ≡ stands ++ next ∷ []
  pub supertypes_more : supertypes2 ≡ supertypes ++ direct ∷ []

-- for each of the first names, what it is and its supertypes; the other names are not looked up yet
pub record IsAsked (m : World) (names : List Name) (stands : List Stands) (supertypes : List (List ℕ)) : Type 0 where
  pub once : IsOnce names
  pub size : length supertypes ≡ length stands
  pub standing : (i : ℕ) → i < length stands → (i < length names) × (stand_at stands i ≡ m (name_at names i))
  pub within : (a b : ℕ) → Contains (supertypes_at supertypes a) b → b < length names
  pub above : (i : ℕ) → i < length stands → map (name_at names) (supertypes_at supertypes i) ≡ supertypes_of (m (name_at names i))

-- names, what each name is, and the numbers of its supertypes; `java/lang/Object` is one of the names
pub record IsClosedGraph (names : List Name) (stands : List Stands) (supertypes : List (List ℕ)) (at_object : ℕ) : Type 0 where
  pub closed : IsClosed (record { names = names; standing = stands; supertypes = supertypes })
  pub object : (at_object < length names) × (name_at names at_object ≡ object)
