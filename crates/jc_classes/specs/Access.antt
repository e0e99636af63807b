-- Access to members (JVMS 5.4.4). Access to classes is in `Loading`.
use Rattle.std.specs.Prelude.{◌≡◌, ◌⊎◌, ◌||◌, ◌&&◌, not, Bool, true, codes}
use Rattle.jc_classes.specs.Facts.{Member, Named}
use Rattle.jc_classes.specs.Names.{Name, same_name, object, package_of}
use Rattle.jc_file.specs.AccessFlags.{has, public, private, protected, static}
use Rattle.jc_classes.specs.Worlds.{World, Extends, Found, is_array}
use Rattle.jc_classes.specs.Facts.Named.{Class, Array}

-- d is c or a subclass of c; every class is within java/lang/Object
abbrev pub IsWithin : World → Name → Name → Type 0
IsWithin m d c = Extends m d c ⊎ (c ≡ object)

-- the method `clone` of java/lang/Object counts as PUBLIC if the reference names an array (JLS 10.7)
abbrev pub is_array_clone : Bool → Found → Bool
is_array_clone is_array f =
    is_array
    && (same_name f.home object
    && (same_name f.member.name (codes "clone") && same_name f.member.descriptor (codes "()Ljava/lang/Object;")))

abbrev pub is_package_private : Member → Bool
is_package_private x = not (has x.flags public) && (not (has x.flags private) && not (has x.flags protected))

-- the reference names d, a subclass of d or a superclass of d. An array is only a subclass of java/lang/Object
abbrev pub IsRelated : World → Named → Name → Type 0
IsRelated m (Class t) d = IsWithin m t d ⊎ IsWithin m d t
IsRelated m (Array t e) d = d ≡ object

-- the member f is accessible to the class d, whose reference to it names t (5.4.4)
pub data CanUse (m : World) (d : Name) (t : Named) (f : Found) : Type 0 where
  open_to_all : (has f.member.flags public || is_array_clone (is_array t) f) ≡ true → CanUse m d t f
  inherited : has f.member.flags protected ≡ true → IsWithin m d f.home
      → ((has f.member.flags static ≡ true) ⊎ IsRelated m t d) → CanUse m d t f
  in_package : (has f.member.flags protected || is_package_private f.member) ≡ true
      → same_name (package_of d) (package_of f.home) ≡ true → CanUse m d t f
  own : has f.member.flags private ≡ true → f.home ≡ d → CanUse m d t f
