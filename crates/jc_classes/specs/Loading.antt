-- How a name loads (JVMS 5.3, 5.3.5), and which classes are accessible (JVMS 5.4.4).
use Rattle.std.specs.Prelude.{◌≡◌, Bool, true, false, ◌||◌, not, cond, List, [], ◌∷◌, ◌++◌, map, Option, Some, None}
use Rattle.std.specs.Option.{option_map_or}
use Rattle.jc_classes.specs.Names.{Name, same_name, package_of}
use Rattle.jc_file.specs.AccessFlags.{has, public}
use Rattle.jc_classes.specs.Worlds.{World, Stands, is_interface, flags_of, Above}
use Rattle.jc_classes.specs.Worlds.{Stands as stands}
use Rattle.jc_classes.specs.Facts.{Facts, is_faulty}
use Rattle.jc_classes.specs.declared.linkage_error.LinkageError.{LinkageError}
use Rattle.jc_classes.specs.declared.linkage_error.LinkageError.TheVariants as errors

-- the class c is PUBLIC, or in the package of the class d that refers to it (JVMS 5.4.4)
abbrev pub can_see : Name → Name → Stands → Bool
can_see d c r = has (flags_of r) public || same_name (package_of d) (package_of c)

-- the result of loading
pub data Loading : Type 0 where
  Loaded : Loading
  Outside : Loading
  -- the error, and the class at fault
  Fails : LinkageError → Name → Loading

-- a supertype, and whether it is the superclass
pub record Supertype : Type 0 where
  pub is_class : Bool
  pub name : Name

-- the superclass, and then the direct superinterfaces in file order
abbrev pub direct_supertypes : Facts → List Supertype
direct_supertypes r =
    option_map_or (λ s. record { is_class = true; name = s } ∷ []) r.superclass []
    ++ map (λ s. record { is_class = false; name = s }) r.interfaces

abbrev pub same_bool : Bool → Bool → Bool
same_bool true b = b
same_bool false b = not b

-- the error that a supertype causes: by how it loads, whether it is accessible, and whether it is of the wrong kind
abbrev pub judged : Loading → Bool → Bool → Name → Option Loading
judged Loaded sees wrong s = cond sees (cond wrong (Some (Fails errors.Incompatible s)) None) (Some (Fails errors.IllegalAccess s))
judged Outside sees wrong s = None
judged (Fails e x) sees wrong s = Some (Fails e x)

-- the error that the supertype p of n causes, if p loads as a says. A superclass that is an interface is of the wrong
-- kind, and so is a superinterface that is a class
abbrev pub judged_supertype : World → Name → Supertype → Loading → Option Loading
judged_supertype m n p a = judged a (can_see n p.name (m p.name)) (same_bool (is_interface (m p.name)) p.is_class) p.name

mutual
  -- how a name loads; a class is circular if it is one of its own transitive supertypes
  pub data Load (m : World) : Name → Loading → Type 0 where
    missing : {n : Name} → m n ≡ stands.Absent → Load m n (Fails errors.NoClass n)
    outside : {n : Name} → m n ≡ stands.Outside → Load m n Outside
    faulty : {n : Name} {r : Facts} → m n ≡ stands.Class r → is_faulty r ≡ true → Load m n (Fails errors.Format n)
    round : {n : Name} {r : Facts} → m n ≡ stands.Class r → is_faulty r ≡ false → Above m n n
        → Load m n (Fails errors.Circular n)
    through : {n : Name} {r : Facts} {a : Loading} → m n ≡ stands.Class r → is_faulty r ≡ false → (Above m n n → ⊥)
        → LoadEach m n (direct_supertypes r) a → Load m n a

  -- the supertypes in order; the first one that causes an error decides
  pub data LoadEach (m : World) : Name → List Supertype → Loading → Type 0 where
    none : {n : Name} → LoadEach m n [] Loaded
    stops : {n : Name} {p : Supertype} {ps : List Supertype} {a b : Loading} → Load m p.name a
        → judged_supertype m n p a ≡ Some b → LoadEach m n (p ∷ ps) b
    passes : {n : Name} {p : Supertype} {ps : List Supertype} {a b : Loading} → Load m p.name a
        → judged_supertype m n p a ≡ None → LoadEach m n ps b → LoadEach m n (p ∷ ps) b
